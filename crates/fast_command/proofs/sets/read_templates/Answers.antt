-- A text that is no template set is told as such.
use Rattle.std.proofs.Common.{◌≡◌, ℕ, List, IsTrue, length, ◌≤◌, refl, rules, sym, subst}
use Rattle.std.proofs.lemmas.Result.{err_from_is_err_and}
use Rattle.fast_text.specs.meaning.Streams.{Reads}
use Rattle.fast_command.specs.meaning.Sets.{IsSetRefused}
use Rattle.fast_command.specs.meaning.Texts.{text_limit}
use Rattle.fast_command.proofs.Refused.{refused_set, refused_unread}
use Rattle.fast_command.proofs.sets.read_templates.Goals as goal

pub returns-in_err-read-in-Ok-clause-refused : goal.returns-in_err-read-in-Ok-clause-refused
returns-in_err-read-in-Ok-clause-refused g c =
    let p = err_from_is_err_and c.from_residual-in_err-read-in-Ok.result c.from_residual-in_err-read-in-Ok.ensures.1 in
    let f = c.in_err-read-in-Ok.field-0.0 in
    let same : c.in_ok-text.text.items ≡ c.in-Ok.text.now = search rules in
    let read = subst (λ (t : List ℕ). Reads (g.S.Source.left c.args.reader.now) (g.S.Source.left c.read_whole.new.reader) t) same c.in_ok-text.ensures.whole in
    let short = subst (λ (t : List ℕ). length t ≤ text_limit) same c.in_ok-text.ensures.short in
    rw p.1 (subst (IsSetRefused (g.S.Source.left c.args.reader.now) (g.S.Source.left c.read_whole.new.reader)
    (IsTrue (g.S.Source.has_failed c.read_whole.new.reader))) (sym p.2)
    (refused_set _ _ _ c.in-Ok.text.now f read c.in_ok-text.ensures.end short c.in_err-read-in-Ok.ensures.fault c.in_err-read-in-Ok.ensures.first f.code refl))

pub returns-in_err-text-clause-set : goal.returns-in_err-text-clause-set
returns-in_err-text-clause-set g c = rw ((err_from_is_err_and c.from_residual.result c.from_residual.ensures.1).1) tt

pub returns-in_err-text-clause-refused : goal.returns-in_err-text-clause-refused
returns-in_err-text-clause-refused g c =
    let p = err_from_is_err_and c.from_residual.result c.from_residual.ensures.1 in
    rw p.1 (subst (IsSetRefused (g.S.Source.left c.args.reader.now) (g.S.Source.left c.read_whole.new.reader)
    (IsTrue (g.S.Source.has_failed c.read_whole.new.reader))) (sym p.2)
    (refused_unread _ _ _ c.in_err-text.field-0.0 c.in_err-text.ensures.unread))

pub returns-in_err-read-in-Ok-clause-set : goal.returns-in_err-read-in-Ok-clause-set
returns-in_err-read-in-Ok-clause-set g c = rw ((err_from_is_err_and c.from_residual-in_err-read-in-Ok.result c.from_residual-in_err-read-in-Ok.ensures.1).1) tt

pub returns-in-Ok-clause-set : goal.returns-in-Ok-clause-set
returns-in-Ok-clause-set g c =
    let same : c.in_ok-text.text.items ≡ c.in-Ok.text.now = search rules in
    record {
      text = c.in-Ok.text.now;
      read = subst (λ (t : List ℕ). Reads (g.S.Source.left c.args.reader.now) (g.S.Source.left c.read_whole.new.reader) t) same c.in_ok-text.ensures.whole;
      whole = c.in_ok-text.ensures.end;
      short = subst (λ (t : List ℕ). length t ≤ text_limit) same c.in_ok-text.ensures.short;
      set = c.in_ok-read-in-Ok.ensures.read;
    }
