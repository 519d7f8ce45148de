-- The messages of the whole text are written, and what the writer keeps is handed on.
use Rattle.std.proofs.Common.{◌≡◌, ℕ, rules, Bool, refl, sym, subst}
use Rattle.std.specs.Prelude.{IsTrue}
use Rattle.fast_template.specs.meaning.Flat.{tree_of}
use Rattle.fast_messages.specs.declared.faults.LineFault.{LineFault}
use Rattle.fast_messages.specs.declared.faults.TextFault.{TextFault}
use Rattle.fast_messages.specs.declared.faults.TextFault.TheVariants.{BadLine}
use Rattle.fast_messages.specs.meaning.Reading.{OnBadLine}
use Rattle.fast_messages.specs.meaning.Unsaid.{SaysNothing}
use Rattle.fast_text.proofs.Writing.{appends_none}
use Rattle.fast_convert.proofs.Turned.{from_new, all_handed_on, all_not_handed_on}
use Rattle.fast_convert.proofs.convert.convert_text.Goals as goal

pub returns-in-Ok-flush-clause-converted : goal.returns-in-Ok-flush-clause-converted
returns-in-Ok-flush-clause-converted g c lo ln failed whole =
    let e = c.args.encoder.now in
    let same : c.deref.result.now ≡ c.in-Ok.messages.items = search (rules, c.deref.ensures.value) in
    let written = from_new c.args.templates.now e.limits c.args.hex e _ _ _ _ _ c.requires.set refl c.requires.fresh
    (rw same at c.write_messages-ending.ensures.written) in
    let still = λ (failed : IsTrue (g.T.Target.has_failed c.write_messages-ending.new.writer)). subst (λ (b : Bool). IsTrue b)
    (sym c.in-Ok-flush.ensures.stays) failed in
    all_handed_on c.args.templates.now e.limits c.args.hex lo ln _ _ _ (IsTrue failed) _
    (IsTrue (g.T.Target.has_failed c.flush.new.self)) _ _ _ whole c.in-Ok.ensures.ok c.in-Ok-flush.ensures.kept still written

pub returns-clause-converted : goal.returns-clause-converted
returns-clause-converted g c lo ln failed whole =
    let e = c.args.encoder.now in
    let same : c.deref.result.now ≡ c.in-Ok.messages.items = search (rules, c.deref.ensures.value) in
    let written = from_new c.args.templates.now e.limits c.args.hex e _ _ _ _ _ c.requires.set refl c.requires.fresh
    (rw same at c.write_messages-ending.ensures.written) in
    all_not_handed_on c.args.templates.now e.limits c.args.hex lo ln _ _ _ _
    (IsTrue (g.T.Target.has_failed c.flush.new.self)) _ _ _ whole c.in-Ok.ensures.ok c.in-Err.ensures.kept c.in-Err.ensures.fails
    written

-- the text of a line at fault is the lines of no messages
told : (A : Type 0) (f : TextFault) (line : ℕ) (kind : LineFault) → f ≡ BadLine line kind → OnBadLine A f → A
told A f line kind e h = subst (OnBadLine A) e h

pub returns-in-Err-BadLine-clause-converted : goal.returns-in-Err-BadLine-clause-converted
returns-in-Err-BadLine-clause-converted g c lo ln failed whole = (
  c.args.text.now,
  whole,
  search (rules, c.in-Err-BadLine.ensures.line),
  told (SaysNothing (tree_of c.args.templates.now) c.args.text.now) _ _ _ c.in-Err-BadLine.field-0-is c.in-Err-BadLine.ensures.err,
  appends_none (g.T.Target.written c.args.writer.now),
)
