use Rattle.std.proofs.Common.{◌∙◌, sym, ap, refl, subst, arith, List, ℕ}
use Rattle.std.specs.Prelude.{Some, pos, true}
use Rattle.fast_value.specs.meaning.Limits.{bounds}
use Rattle.fast_tree.specs.meaning.Nodes.{field_data}
use Rattle.fast_dict.specs.meaning.Dictionary.{previous_at}
use Rattle.fast_dict.specs.meaning.Operators.{decide}
use Rattle.fast_dict.specs.meaning.Slots.{slots_dictionary}
use Rattle.fast_stream.specs.meaning.Fields.{sent_text}
use Rattle.fast_stream.specs.device.GrammarReaders.{reader_of}
use Rattle.fast_units.specs.device.Stages.{term_behind}
use Rattle.fast_units.specs.device.TextDecisions.{IsStepped, behind_size}
use Rattle.fast_units.specs.declared.stages.Stage.TheVariants.{Vector}
use Rattle.fast_units.proofs.TextOutcomes.{decided_as}
use Rattle.fast_units.proofs.TextUnits.{size_fits, size_none, stepped}
use Rattle.fast_units.proofs.texts.vector_next.Goals as goal

pub returns-then-size-gt0-clause-step : goal.returns-then-size-gt0-clause-step
returns-then-size-gt0-clause-step c piece =
    let l = c.args.limits in
    let f = field_data c.args.field.now in
    let old = slots_dictionary c.args.slots.now in
    let p = previous_at f.entry old in
    let (same, fits, next) = size_fits (bounds l) f p c.args.size c.in_ok-size.size (sym c.in_ok-size.ensures) in (
      refl,
      (c.requires.text, c.requires.kind, c.requires.whole, c.requires.sent, omega (arith, same, fits), c.if-size-gt0.true),
      ap (reader_of l.strict) (next ∙ ap (λ (n : ℕ). term_behind (bounds l) f p (Vector n)) (sym same)),
    )

pub returns-clause-step : goal.returns-clause-step
returns-clause-step c piece =
    let l = c.args.limits in
    let f = field_data c.args.field.now in
    let old = slots_dictionary c.args.slots.now in
    let p = previous_at f.entry old in
    let none = size_none l.strict (bounds l) f p c.args.size c.in_ok-size.size (sym c.in_ok-size.ensures) c.if-size-gt0.false in
    let after = slots_dictionary c.finish_held.new.slots in
    let text = c.finish_held.new.scratch.text in
    subst (λ r. IsStepped l (reader_of l.strict (behind_size (bounds l) f p (Some (pos c.args.size)))) f old after text piece r) (sym c.settled.ensures)
    (stepped l _ f old after text piece _ c.finish_held.result none
    (decided_as f old after text piece c.finish_held.result
    (ap (λ (t : List ℕ). decide f p true (sent_text f.kind (Some t))) (sym c.clear.ensures.text)) (c.finish_held.ensures.field piece)))
