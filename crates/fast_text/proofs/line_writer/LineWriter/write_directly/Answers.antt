use Rattle.std.proofs.Common.{◌≡◌, rules, refl, true}
use Rattle.std.specs.Prelude.{is_ok}
use Rattle.fast_text.proofs.Writing.{written_directly, held_back}
use Rattle.std.proofs.lemmas.Bool.{false≢true}
use Rattle.fast_text.proofs.line_writer.LineWriter.write_directly.Goals as goal

pub returns-then-is_ok : goal.returns-then-is_ok
returns-then-is_ok g c =
    let open_yet : is_ok c.args.self.now.outcome ≡ true = search rules in
    let e = c.write_all-self.ensures in
    written_directly g.T.Target.written g.T.Target.has_failed _ _ c.args.text.now c.write_all-self.result c.requires c.requires refl refl
    open_yet refl e.bytes e.part e.fails e.stays

pub invariant_of-self : goal.invariant_of-self
invariant_of-self g c = record { free = λ h. absurd (false≢true h) }

pub invariant_of-self-else-is_ok : goal.invariant_of-self-else-is_ok
invariant_of-self-else-is_ok g c = record { free = λ h. absurd (false≢true h) }

pub returns-else-is_ok : goal.returns-else-is_ok
returns-else-is_ok g c = held_back g.T.Target.written g.T.Target.has_failed c.args.self.now _ c.args.text.now refl refl (search rules) refl refl
