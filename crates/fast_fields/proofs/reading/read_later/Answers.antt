-- The unit that comes next, and the last one after it.
use Rattle.std.proofs.Common.{refl, sym, subst}
use Rattle.std.proofs.lemmas.List.{take_rest}
use Rattle.std.specs.Prelude.{ℕ, List, drop}
use Rattle.fast_value.specs.meaning.Limits.{bounds}
use Rattle.fast_tree.specs.meaning.Nodes.{field_data}
use Rattle.fast_dict.specs.meaning.Dictionary.{Dictionary, previous_at}
use Rattle.fast_dict.specs.meaning.Slots.{slots_dictionary}
use Rattle.fast_units.specs.device.TextDecisions.{reader_behind}
use Rattle.fast_units.proofs.OpenUnits.{number_open}
use Rattle.fast_fields.specs.device.Readings.{IsFieldReading}
use Rattle.fast_fields.specs.declared.reading.Reading.{Reading}
use Rattle.fast_fields.proofs.Readings.{reading_after, cut_reading, next_unit}
use Rattle.fast_fields.proofs.reading.read_later.Goals as goal

pub returns-in-Whole-Next-default-clause-reading : goal.returns-in-Whole-Next-default-clause-reading
returns-in-Whole-Next-default-clause-reading c =
    let l = c.args.limits.now in
    let f = field_data c.args.field.now in
    let old = slots_dictionary c.args.slots.now in
    let mid = slots_dictionary c.take_number.new.slots in
    let new = slots_dictionary c.read_run-reading.new.slots in
    let text = c.read_run-reading.new.scratch.text in
    let w = c.args.bytes.now in
    let n = c.in-Whole-Next-default.count in
    let stage = c.in-Whole-Next-default.next in
    let r = reader_behind l f old c.args.stage in
    let said = c.read_run-reading.result in
    let (some, within, same, is_stage, turns) = next_unit f old mid c.take_number.new.scratch.text l r w n
    c.in-Whole-Next-default.field-0 stage c.in-Whole-Next-default.field-0-is c.in-Whole-Next-default.ensures.unit in
    subst (λ (x : Reading). IsFieldReading r f w old new text x) (sym c.shifted.ensures)
    (reading_after f old new text r (reader_behind l f old stage) w n said within turns
    (subst (λ (d : Dictionary). IsFieldReading (reader_behind l f d stage) f (drop n w) d new text said) same
    (subst (λ (u : List ℕ). IsFieldReading (reader_behind l f mid stage) f u mid new text said) (take_rest w n)
    c.read_run-reading.ensures.reading)))

pub returns-in-Cut-clause-reading : goal.returns-in-Cut-clause-reading
returns-in-Cut-clause-reading c =
    let l = c.args.limits.now in
    let f = field_data c.args.field.now in
    let old = slots_dictionary c.args.slots.now in
    cut_reading f old (slots_dictionary c.take_number.new.slots) c.take_number.new.scratch.text (reader_behind l f old c.args.stage)
    c.args.bytes.now c.integer_missing.result
    (λ v h. number_open l.strict (bounds l) f (previous_at f.entry old) c.args.stage v c.requires.stage (c.if-not-is_number.ensures.number refl) h)
    c.in-Cut.ensures.unit.1 c.in-Cut.ensures.short c.integer_missing.ensures
