use Rattle.std.proofs.Common.{◌∙◌, sym, ap, List, ℕ, ℤ, take}
use Rattle.std.specs.Prelude.{Some}
use mir.Syntax.{w32}
use Rattle.std.proofs.lemmas.List.{length-take-le}
use Rattle.std.proofs.lemmas.Int.{to_z-of_z}
use Rattle.fast_value.specs.meaning.Limits.{bounds}
use Rattle.fast_tree.specs.meaning.Nodes.{field_data}
use Rattle.fast_dict.specs.meaning.Dictionary.{previous_at}
use Rattle.fast_dict.specs.meaning.Operators.{subtraction_step, text_step}
use Rattle.fast_dict.specs.meaning.Slots.{slots_dictionary}
use Rattle.fast_stream.specs.meaning.Fields.{part_change}
use Rattle.fast_stream.specs.meaning.Grammar.{Grammar}
use Rattle.fast_units.proofs.LastUnits.{unit_stays}
use Rattle.fast_units.proofs.NextUnits.{run_whole, run_cut}
use Rattle.fast_units.proofs.TextUnits.{part_vector_field, text_last}
use Rattle.fast_units.proofs.text_deltas.take_part_vector.Goals as goal

pub returns-then-rest-size-clause-unit : goal.returns-then-rest-size-clause-unit
returns-then-rest-size-clause-unit c =
    let l = c.args.limits in
    let f = field_data c.args.field.now in
    let old = slots_dictionary c.args.slots.now in
    let p = previous_at f.entry old in
    let k = c.args.subtraction in
    let (is_text, not_ascii, delta, some, (kept, step, fits)) = c.requires.stage in
    let here = part_vector_field l.strict (bounds l) f p k kept c.args.size step in
    let then : List ℕ → Grammar _ = λ v. part_change f p kept (Some v) in
    unit_stays here c.args.rest.now _ (run_cut l.strict c.args.size c.args.rest.now c.if-rest-size.true)

pub returns-clause-unit : goal.returns-clause-unit
returns-clause-unit c =
    let l = c.args.limits in
    let f = field_data c.args.field.now in
    let old = slots_dictionary c.args.slots.now in
    let p = previous_at f.entry old in
    let k = c.args.subtraction in
    let (is_text, not_ascii, delta, some, (kept, step, fits)) = c.requires.stage in
    let here = part_vector_field l.strict (bounds l) f p k kept c.args.size step in
    let then : List ℕ → Grammar _ = λ v. part_change f p kept (Some v) in
    let n = c.args.size in
    let x = take n c.args.rest.now in
    let within = c.if-rest-size.false in
    text_last here f c.args.rest.now old
    (slots_dictionary c.finish_part.new.slots) c.finish_part.new.scratch.text n x
    (some, within, run_whole l.strict n x (length-take-le n c.args.rest.now within))
    (text_step f kept c.set.new.self.text) c.finish_part.result c.answered.result c.answered.ensures
    (ap (λ v. then v) (sym c.set.ensures.text))
    (c.finish_part.ensures.field kept (ap (λ (z : ℤ). subtraction_step f p z) (to_z-of_z w32 c.args.subtraction c.ranges.subtraction)
    ∙ step) c.finish_part.new.scratch.text x)
