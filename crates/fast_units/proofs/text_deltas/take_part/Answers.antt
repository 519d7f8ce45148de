use Rattle.std.proofs.Common.{◌≡◌, ◌∙◌, ap, List, ℕ, ℤ, take}
use Rattle.std.specs.Prelude.{Some, Option, false}
use mir.Syntax.{w32}
use Rattle.std.proofs.lemmas.Int.{to_z-of_z}
use Rattle.fast_value.specs.meaning.Limits.{bounds}
use Rattle.fast_tree.specs.meaning.Nodes.{field_data}
use Rattle.fast_dict.specs.meaning.Dictionary.{previous_at}
use Rattle.fast_dict.specs.meaning.Operators.{subtraction_step, text_step}
use Rattle.fast_dict.specs.meaning.Slots.{slots_dictionary}
use Rattle.fast_stream.specs.meaning.Fields.{part_change}
use Rattle.fast_units.specs.device.NextUnits.{text_or_null}
use Rattle.fast_units.specs.device.Words.{previous_of}
use Rattle.fast_units.proofs.LastUnits.{unit_stops, unit_stays}
use Rattle.fast_units.proofs.NextUnits.{text_unit}
use Rattle.fast_units.proofs.TextUnits.{part_field, text_last}
use Rattle.fast_units.specs.declared.progress.Progress.TheVariants.{Whole, Wrong, Cut}
use Rattle.fast_units.proofs.text_deltas.take_part.Goals as goal

pub returns-in-Whole-true-default-clause-unit : goal.returns-in-Whole-true-default-clause-unit
returns-in-Whole-true-default-clause-unit c =
    let l = c.args.limits in
    let f = field_data c.args.field.now in
    let old = slots_dictionary c.args.slots.now in
    let p = previous_at f.entry old in
    let k = c.args.subtraction in
    let (is_text, delta, found) = c.requires.stage in
    let (kept, step) = found in
    let here = part_field l.strict (bounds l) f p k kept c.part_room-room.result step
    (c.part_room-room.ensures.room kept (ap (λ (x : ℤ). subtraction_step f p x) (to_z-of_z w32 c.args.subtraction c.ranges.subtraction)
    ∙ step)) c.requires.kind in
    let text = c.next_ascii.new.scratch.text in
    let n = c.in-Whole-true-default.bytes in
    let x : Option (List ℕ) = text_or_null text c.in-Whole-true-default.field-0 in
    let i : x ≡ Some text = ap (text_or_null text) c.in-Whole-true-default.field-0-test in
    text_last here f c.args.rest.now old
    (slots_dictionary c.finish_part.new.slots) c.finish_part.new.scratch.text n x (text_unit l.strict false c.part_room-room.result c.args.rest.now text
    (Whole c.in-Whole-true-default.field-0 n) c.in-Whole-true-default.ensures.text)
    (text_step f kept text) c.finish_part.result c.answered.result c.answered.ensures (ap (part_change f p kept) i)
    (c.finish_part.ensures.field kept (ap (λ (z : ℤ). subtraction_step f p z) (to_z-of_z w32 c.args.subtraction c.ranges.subtraction)
    ∙ step) c.finish_part.new.scratch.text (take n c.args.rest.now))

pub returns-in-Wrong-clause-unit : goal.returns-in-Wrong-clause-unit
returns-in-Wrong-clause-unit c =
    let l = c.args.limits in
    let f = field_data c.args.field.now in
    let p = previous_of c.args.slots.now c.args.field.now in
    let (is_text, delta, (kept, step)) = c.requires.stage in
    let here = part_field l.strict (bounds l) f p c.args.subtraction kept c.part_room-room.result step
    (c.part_room-room.ensures.room kept (ap (λ (x : ℤ). subtraction_step f p x) (to_z-of_z w32 c.args.subtraction c.ranges.subtraction)
    ∙ step)) c.requires.kind in
    unit_stops here c.args.rest.now c.in-Wrong.bytes c.in-Wrong.code
    (text_unit l.strict false c.part_room-room.result c.args.rest.now c.next_ascii.new.scratch.text (Wrong c.in-Wrong.code c.in-Wrong.bytes)
    c.in-Wrong.ensures.text)

pub returns-in-Cut-clause-unit : goal.returns-in-Cut-clause-unit
returns-in-Cut-clause-unit c =
    let l = c.args.limits in
    let f = field_data c.args.field.now in
    let p = previous_of c.args.slots.now c.args.field.now in
    let (is_text, delta, (kept, step)) = c.requires.stage in
    let here = part_field l.strict (bounds l) f p c.args.subtraction kept c.part_room-room.result step
    (c.part_room-room.ensures.room kept (ap (λ (x : ℤ). subtraction_step f p x) (to_z-of_z w32 c.args.subtraction c.ranges.subtraction)
    ∙ step)) c.requires.kind in
    unit_stays here c.args.rest.now _
    (text_unit l.strict false c.part_room-room.result c.args.rest.now c.next_ascii.new.scratch.text Cut c.in-Cut.ensures.text)
