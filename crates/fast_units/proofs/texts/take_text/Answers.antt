use Rattle.std.proofs.Common.{◌≡◌, ap, refl, List, ℕ, take}
use Rattle.std.specs.Prelude.{Ok, Some, None, Option, true}
use Rattle.fast_value.specs.meaning.Limits.{bounds}
use Rattle.fast_tree.specs.meaning.Nodes.{field_data}
use Rattle.fast_dict.specs.meaning.Dictionary.{previous_at}
use Rattle.fast_dict.specs.meaning.Operators.{decide}
use Rattle.fast_dict.specs.meaning.Slots.{slots_dictionary}
use Rattle.fast_stream.specs.meaning.Fields.{sent_text}
use Rattle.fast_units.specs.device.NextUnits.{text_or_null}
use Rattle.fast_units.specs.device.Words.{previous_of}
use Rattle.fast_units.proofs.LastUnits.{unit_stops, unit_stays}
use Rattle.fast_units.proofs.NextUnits.{text_unit}
use Rattle.fast_units.proofs.TextUnits.{text_field, text_last, behind_text}
use Rattle.fast_units.specs.declared.progress.Progress.TheVariants.{Whole, Wrong, Cut}
use Rattle.fast_units.proofs.texts.take_text.Goals as goal

pub returns-in-Whole-true-default-clause-unit : goal.returns-in-Whole-true-default-clause-unit
returns-in-Whole-true-default-clause-unit c =
    let l = c.args.limits in
    let f = field_data c.args.field.now in
    let old = slots_dictionary c.args.slots.now in
    let p = previous_at f.entry old in
    let here = text_field l.strict (bounds l) f p c.requires.kind c.requires.whole c.requires.sent in
    let k = behind_text (bounds l) f p in
    let text = c.next_ascii.new.scratch.text in
    let n = c.in-Whole-true-default.bytes in
    let x : Option (List ℕ) = text_or_null text c.in-Whole-true-default.field-0 in
    let i : x ≡ Some text = ap (text_or_null text) c.in-Whole-true-default.field-0-test in
    text_last here f c.args.rest.now old (slots_dictionary c.finish_ascii.new.slots) c.finish_ascii.new.scratch.text
    n x
    (text_unit l.strict f.optional l.max_text c.args.rest.now text (Whole c.in-Whole-true-default.field-0 n) c.in-Whole-true-default.ensures.text)
    (decide f p true (sent_text f.kind (Some text))) c.finish_ascii.result c.answered.result c.answered.ensures (ap k i)
    (c.finish_ascii.ensures.field (take n c.args.rest.now))

pub returns-in-Whole-false-default-clause-unit : goal.returns-in-Whole-false-default-clause-unit
returns-in-Whole-false-default-clause-unit c =
    let l = c.args.limits in
    let f = field_data c.args.field.now in
    let old = slots_dictionary c.args.slots.now in
    let p = previous_at f.entry old in
    let here = text_field l.strict (bounds l) f p c.requires.kind c.requires.whole c.requires.sent in
    let k = behind_text (bounds l) f p in
    let text = c.next_ascii.new.scratch.text in
    let n = c.in-Whole-false-default.bytes in
    let x : Option (List ℕ) = text_or_null text c.in-Whole-false-default.field-0 in
    let i : x ≡ None = ap (text_or_null text) c.in-Whole-false-default.field-0-test in
    text_last here f c.args.rest.now old (slots_dictionary c.finish_absent.new.slots) text n x
    (text_unit l.strict f.optional l.max_text c.args.rest.now text (Whole c.in-Whole-false-default.field-0 n) c.in-Whole-false-default.ensures.text)
    (decide f p true (sent_text f.kind None)) (Ok c.finish_absent.result) _ refl (ap k i) (c.finish_absent.ensures.field text (take n c.args.rest.now))

pub returns-in-Wrong-clause-unit : goal.returns-in-Wrong-clause-unit
returns-in-Wrong-clause-unit c =
    let f = field_data c.args.field.now in
    let p = previous_of c.args.slots.now c.args.field.now in
    unit_stops (text_field c.args.limits.strict (bounds c.args.limits) f p c.requires.kind c.requires.whole c.requires.sent)
    c.args.rest.now c.in-Wrong.bytes c.in-Wrong.code
    (text_unit c.args.limits.strict c.args.field.now.optional c.args.limits.max_text c.args.rest.now c.next_ascii.new.scratch.text
    (Wrong c.in-Wrong.code c.in-Wrong.bytes) c.in-Wrong.ensures.text)

pub returns-in-Cut-clause-unit : goal.returns-in-Cut-clause-unit
returns-in-Cut-clause-unit c =
    let f = field_data c.args.field.now in
    let p = previous_of c.args.slots.now c.args.field.now in
    unit_stays (text_field c.args.limits.strict (bounds c.args.limits) f p c.requires.kind c.requires.whole c.requires.sent)
    c.args.rest.now _
    (text_unit c.args.limits.strict c.args.field.now.optional c.args.limits.max_text c.args.rest.now c.next_ascii.new.scratch.text
    Cut c.in-Cut.ensures.text)
