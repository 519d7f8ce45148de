use Rattle.std.proofs.Common.{◌∙◌, ap, subst, ℤ, take}
use Rattle.std.specs.Prelude.{Some, Option, pos}
use mir.Syntax.{w32, w128}
use mir.Val.{to_z, of_z}
use Rattle.std.proofs.lemmas.Int.{to_z-of_z}
use Rattle.fast_value.specs.meaning.Limits.{bounds}
use Rattle.fast_tree.specs.meaning.Nodes.{field_data}
use Rattle.fast_dict.specs.meaning.Dictionary.{previous_at}
use Rattle.fast_dict.specs.meaning.Operators.{subtraction_step}
use Rattle.fast_dict.specs.meaning.Slots.{slots_dictionary}
use Rattle.fast_stream.specs.meaning.Grammar.{Grammar}
use Rattle.fast_stream.specs.device.GrammarReaders.{reader_of}
use Rattle.fast_units.specs.device.TextDecisions.{IsStepped, behind_part_size}
use Rattle.fast_units.specs.device.Words.{previous_of}
use Rattle.fast_units.proofs.LastUnits.{unit_stops, unit_stays}
use Rattle.fast_units.proofs.TextSizes.{size_again}
use Rattle.fast_units.proofs.TextUnits.{part_size_field, text_next}
use Rattle.fast_units.proofs.text_deltas.take_part_size.Goals as goal

pub returns-in-Whole-clause-unit : goal.returns-in-Whole-clause-unit
returns-in-Whole-clause-unit c scratch =
    let l = c.args.limits in
    let f = field_data c.args.field.now in
    let old = slots_dictionary c.args.slots.now in
    let p = previous_at f.entry old in
    let k = c.args.subtraction in
    let (is_text, delta, found) = c.requires.stage in
    let (kept, step) = found in
    let here = part_size_field l.strict (bounds l) f p k kept step c.requires.kind in
    let next : Option ℤ → Grammar _ = behind_part_size (bounds l) f p kept in
    let in_range = c.in-Whole.ensures.within in
    let same = ap (λ (z : ℤ). to_z w128 (of_z w128 z)) c.from.ensures ∙ size_again (pos c.in-Whole.size) in_range in
    let n = c.in-Whole.bytes in
    text_next l here f c.args.rest.now old
    (slots_dictionary c.part_vector_next.new.slots) scratch n (Some (pos c.in-Whole.size)) c.in-Whole.ensures.unit
    c.part_vector_next.result c.answered.result c.answered.ensures
    (subst (λ (x : ℤ). IsStepped l (reader_of l.strict (next (Some x))) f old (slots_dictionary c.part_vector_next.new.slots) scratch
    (take n c.args.rest.now) c.part_vector_next.result)
    (c.size_of-size.ensures ∙ same)
    (c.part_vector_next.ensures.step kept (ap (λ (x : ℤ). subtraction_step f p x) (to_z-of_z w32 c.args.subtraction c.ranges.subtraction)
    ∙ step) scratch (take n c.args.rest.now)))

pub returns-in-Wrong-clause-unit : goal.returns-in-Wrong-clause-unit
returns-in-Wrong-clause-unit c scratch =
    let f = field_data c.args.field.now in
    let p = previous_of c.args.slots.now c.args.field.now in
    let (is_text, delta, (kept, step)) = c.requires.stage in
    unit_stops (part_size_field c.args.limits.strict (bounds c.args.limits) f p c.args.subtraction kept step c.requires.kind)
    c.args.rest.now c.in-Wrong.bytes c.in-Wrong.code c.in-Wrong.ensures.unit

pub returns-in-Cut-clause-unit : goal.returns-in-Cut-clause-unit
returns-in-Cut-clause-unit c scratch =
    let f = field_data c.args.field.now in
    let p = previous_of c.args.slots.now c.args.field.now in
    let (is_text, delta, (kept, step)) = c.requires.stage in
    unit_stays (part_size_field c.args.limits.strict (bounds c.args.limits) f p c.args.subtraction kept step c.requires.kind)
    c.args.rest.now _ c.in-Cut.ensures.unit
