use Rattle.std.proofs.Common.{◌∙◌, sym, ap, refl, subst, ℤ, take}
use Rattle.std.specs.Prelude.{Some, Option, true}
use Rattle.fast_wire.specs.meaning.Integers.{signed_range}
use mir.Syntax.{w32}
use mir.Val.{to_z, of_z}
use Rattle.fast_value.specs.meaning.Limits.{bounds}
use Rattle.fast_tree.specs.meaning.Nodes.{field_data}
use Rattle.fast_dict.specs.meaning.Dictionary.{previous_at}
use Rattle.fast_dict.specs.meaning.Operators.{null, decide}
use Rattle.fast_dict.specs.meaning.Slots.{slots_dictionary}
use Rattle.fast_stream.specs.meaning.Fields.{text_change}
use Rattle.fast_stream.specs.meaning.Grammar.{Grammar}
use Rattle.fast_stream.specs.device.GrammarReaders.{reader_of}
use Rattle.fast_units.specs.device.TextDecisions.{IsStepped}
use Rattle.fast_units.specs.device.Words.{previous_of}
use Rattle.fast_units.proofs.LastUnits.{unit_stops, unit_stays, number_within}
use Rattle.fast_units.proofs.TextSizes.{length_again, length_narrow}
use Rattle.fast_units.proofs.TextUnits.{delta_null, subtraction_field, text_next, text_settled}
use Rattle.fast_units.proofs.text_deltas.take_subtraction.Goals as goal

pub returns-in-Whole-Some-default-clause-unit : goal.returns-in-Whole-Some-default-clause-unit
returns-in-Whole-Some-default-clause-unit c scratch =
    let l = c.args.limits in
    let f = field_data c.args.field.now in
    let old = slots_dictionary c.args.slots.now in
    let p = previous_at f.entry old in
    let here = subtraction_field l.strict (bounds l) f p c.requires.text c.requires.delta in
    let next : Option ℤ → Grammar _ = text_change (bounds l) f p in
    let in_range = number_within (signed_range 31) (signed_range 31) c.in-Whole-Some-default.field-0
    c.in-Whole-Some-default.length refl c.in-Whole-Some-default.field-0-is c.in-Whole-Some-default.ensures.within in
    let is = c.length_of.ensures ∙ length_again c.in-Whole-Some-default.length in_range in
    let n = c.in-Whole-Some-default.bytes in
    text_next l here f c.args.rest.now old old scratch n c.in-Whole-Some-default.field-0
    c.in-Whole-Some-default.ensures.unit
    c.part_next.result c.answered.result c.answered.ensures
    (subst (λ (x : Option ℤ). IsStepped l (reader_of l.strict (next x)) f old old scratch (take n c.args.rest.now) c.part_next.result)
    (ap Some (ap (λ (z : ℤ). to_z w32 (of_z w32 z)) is ∙ length_narrow c.in-Whole-Some-default.length in_range)
    ∙ sym c.in-Whole-Some-default.field-0-is) (c.part_next.ensures l scratch (take n c.args.rest.now)))

pub returns-in-Whole-None-default-clause-unit : goal.returns-in-Whole-None-default-clause-unit
returns-in-Whole-None-default-clause-unit c scratch =
    let l = c.args.limits in
    let f = field_data c.args.field.now in
    let old = slots_dictionary c.args.slots.now in
    let p = previous_at f.entry old in
    let here = subtraction_field l.strict (bounds l) f p c.requires.text c.requires.delta in
    let next : Option ℤ → Grammar _ = text_change (bounds l) f p in
    let n = c.in-Whole-None-default.bytes in
    text_settled l here f c.args.rest.now old
    (slots_dictionary c.finish_absent.new.slots) scratch n c.in-Whole-None-default.field-0 c.in-Whole-None-default.ensures.unit
    (decide f p true null) c.finish_absent.result (ap next c.in-Whole-None-default.field-0-is ∙ delta_null f p c.requires.delta)
    (c.finish_absent.ensures.field scratch (take n c.args.rest.now))

pub returns-in-Wrong-clause-unit : goal.returns-in-Wrong-clause-unit
returns-in-Wrong-clause-unit c scratch =
    let f = field_data c.args.field.now in
    let p = previous_of c.args.slots.now c.args.field.now in
    unit_stops (subtraction_field c.args.limits.strict (bounds c.args.limits) f p c.requires.text c.requires.delta)
    c.args.rest.now c.in-Wrong.bytes c.in-Wrong.code c.in-Wrong.ensures.unit

pub returns-in-Cut-clause-unit : goal.returns-in-Cut-clause-unit
returns-in-Cut-clause-unit c scratch =
    let f = field_data c.args.field.now in
    let p = previous_of c.args.slots.now c.args.field.now in
    unit_stays (subtraction_field c.args.limits.strict (bounds c.args.limits) f p c.requires.text c.requires.delta)
    c.args.rest.now _ c.in-Cut.ensures.unit
