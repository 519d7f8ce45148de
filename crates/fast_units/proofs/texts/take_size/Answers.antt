use Rattle.std.proofs.Common.{◌≡◌, ◌∙◌, sym, ap, refl, subst, ℤ, take}
use Rattle.std.specs.Prelude.{Some, Option, true, pos}
use Rattle.fast_wire.specs.meaning.Integers.{unsigned_range}
use Rattle.fast_value.specs.meaning.Limits.{bounds}
use Rattle.fast_tree.specs.meaning.Nodes.{field_data}
use Rattle.fast_dict.specs.meaning.Dictionary.{previous_at}
use Rattle.fast_dict.specs.meaning.Operators.{null, decide}
use Rattle.fast_dict.specs.meaning.Slots.{slots_dictionary}
use Rattle.fast_stream.specs.meaning.Grammar.{Grammar}
use Rattle.fast_stream.specs.device.GrammarReaders.{reader_of}
use Rattle.fast_units.specs.device.TextDecisions.{IsStepped, behind_size}
use Rattle.fast_units.specs.device.Words.{previous_of}
use Rattle.fast_units.proofs.LastUnits.{unit_stops, unit_stays, number_within}
use Rattle.fast_units.proofs.TextSizes.{size_again}
use Rattle.fast_units.proofs.TextUnits.{size_field, text_next, text_settled}
use Rattle.fast_units.proofs.texts.take_size.Goals as goal

pub returns-in-Whole-Some-default-clause-unit : goal.returns-in-Whole-Some-default-clause-unit
returns-in-Whole-Some-default-clause-unit c =
    let l = c.args.limits in
    let f = field_data c.args.field.now in
    let old = slots_dictionary c.args.slots.now in
    let p = previous_at f.entry old in
    let here = size_field l.strict (bounds l) f p c.requires.text c.requires.kind c.requires.whole c.requires.sent in
    let next : Option ℤ → Grammar _ = behind_size (bounds l) f p in
    let in_range = number_within (unsigned_range 32) (unsigned_range 32) c.in-Whole-Some-default.field-0
    c.in-Whole-Some-default.size refl c.in-Whole-Some-default.field-0-is c.in-Whole-Some-default.ensures.within in
    let is : pos c.size_of.result ≡ c.in-Whole-Some-default.size = c.size_of.ensures ∙ size_again c.in-Whole-Some-default.size in_range in
    let n = c.in-Whole-Some-default.bytes in
    text_next l here f c.args.rest.now old (slots_dictionary c.vector_next.new.slots)
    c.vector_next.new.scratch.text n c.in-Whole-Some-default.field-0 c.in-Whole-Some-default.ensures.unit
    c.vector_next.result c.answered.result c.answered.ensures
    (subst (λ (x : Option ℤ). IsStepped l (reader_of l.strict (next x)) f old (slots_dictionary c.vector_next.new.slots)
    c.vector_next.new.scratch.text (take n c.args.rest.now) c.vector_next.result)
    (ap Some is ∙ sym c.in-Whole-Some-default.field-0-is) (c.vector_next.ensures.step (take n c.args.rest.now)))

pub returns-in-Whole-None-default-clause-unit : goal.returns-in-Whole-None-default-clause-unit
returns-in-Whole-None-default-clause-unit c =
    let l = c.args.limits in
    let f = field_data c.args.field.now in
    let old = slots_dictionary c.args.slots.now in
    let p = previous_at f.entry old in
    let here = size_field l.strict (bounds l) f p c.requires.text c.requires.kind c.requires.whole c.requires.sent in
    let next : Option ℤ → Grammar _ = behind_size (bounds l) f p in
    let n = c.in-Whole-None-default.bytes in
    text_settled l here f c.args.rest.now old (slots_dictionary c.finish_absent.new.slots)
    c.args.scratch.now.text n c.in-Whole-None-default.field-0 c.in-Whole-None-default.ensures.unit
    (decide f p true null) c.finish_absent.result (ap next c.in-Whole-None-default.field-0-is) (c.finish_absent.ensures.field c.args.scratch.now.text (take n
    c.args.rest.now))

pub returns-in-Wrong-clause-unit : goal.returns-in-Wrong-clause-unit
returns-in-Wrong-clause-unit c =
    let f = field_data c.args.field.now in
    let p = previous_of c.args.slots.now c.args.field.now in
    unit_stops (size_field c.args.limits.strict (bounds c.args.limits) f p c.requires.text c.requires.kind c.requires.whole c.requires.sent)
    c.args.rest.now c.in-Wrong.bytes c.in-Wrong.code c.in-Wrong.ensures.unit

pub returns-in-Cut-clause-unit : goal.returns-in-Cut-clause-unit
returns-in-Cut-clause-unit c =
    let f = field_data c.args.field.now in
    let p = previous_of c.args.slots.now c.args.field.now in
    unit_stays (size_field c.args.limits.strict (bounds c.args.limits) f p c.requires.text c.requires.kind c.requires.whole c.requires.sent)
    c.args.rest.now _ c.in-Cut.ensures.unit
