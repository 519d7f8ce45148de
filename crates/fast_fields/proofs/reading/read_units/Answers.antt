-- The first unit of the field, and those that follow it.
use Rattle.std.proofs.Common.{rules, sym, subst}
use Rattle.std.proofs.lemmas.List.{take_rest}
use Rattle.std.specs.Prelude.{List, ℕ, drop}
use Rattle.fast_value.specs.meaning.Limits.{bounds}
use Rattle.fast_tree.specs.meaning.Nodes.{field_data}
use Rattle.fast_dict.specs.meaning.Dictionary.{Dictionary, previous_at}
use Rattle.fast_dict.specs.meaning.Slots.{slots_dictionary}
use Rattle.fast_units.specs.device.UnitFronts.{IsAsciiFirst}
use Rattle.fast_units.specs.device.TextDecisions.{first_reader, reader_behind}
use Rattle.fast_units.proofs.OpenUnits.{field_open}
use Rattle.fast_fields.specs.device.Readings.{IsFieldReading}
use Rattle.fast_fields.specs.declared.reading.Reading.{Reading}
use Rattle.fast_fields.proofs.Readings.{reading_after, cut_reading, next_unit}
use Rattle.fast_fields.proofs.reading.read_units.Goals.{else-eq-via-then-eq+else-ne, else-eq-via-else-eq}
use Rattle.fast_fields.proofs.reading.read_units.Goals as goal

pub returns-in-Whole-Next-default-clause-reading : goal.returns-in-Whole-Next-default-clause-reading
returns-in-Whole-Next-default-clause-reading c =
    let l = c.args.limits.now in
    let f = field_data c.args.field.now in
    let old = slots_dictionary c.args.slots.now in
    let mid = slots_dictionary c.take_first.new.slots in
    let new = slots_dictionary c.read_later-reading.new.slots in
    let text = c.read_later-reading.new.scratch.text in
    let w = c.args.bytes.now in
    let n = c.in-Whole-Next-default.count in
    let stage = c.in-Whole-Next-default.stage in
    let r = first_reader l f old in
    let (some, within, same, is_stage, turns) = next_unit f old mid c.take_first.new.scratch.text l r w n
    c.in-Whole-Next-default.field-0 stage c.in-Whole-Next-default.field-0-is c.in-Whole-Next-default.ensures.unit in
    subst (λ (x : Reading). IsFieldReading r f w old new text x) (sym c.shifted.ensures)
    (reading_after f old new text r (reader_behind l f old stage) w n c.read_later-reading.result within turns
    (subst (λ (d : Dictionary). IsFieldReading (reader_behind l f d stage) f (drop n w) d new text c.read_later-reading.result) same
    (subst (λ (u : List ℕ). IsFieldReading (reader_behind l f mid stage) f u mid new text c.read_later-reading.result) (take_rest w n)
    c.read_later-reading.ensures.reading)))

pub returns-in-Cut-clause-reading : goal.returns-in-Cut-clause-reading
returns-in-Cut-clause-reading c =
    let l = c.args.limits.now in
    let f = field_data c.args.field.now in
    let old = slots_dictionary c.args.slots.now in
    let other : ¬ (IsAsciiFirst f) = elim c.else-eq.branch [
      | else-eq-via-then-eq+else-ne w ↦ search rules
      | else-eq-via-else-eq w ↦ search rules
    ] in
    cut_reading f old (slots_dictionary c.take_first.new.slots) c.take_first.new.scratch.text (first_reader l f old) c.args.bytes.now
    c.integer_missing.result (λ v h. field_open l.strict (bounds l) f (previous_at f.entry old) v other c.requires.varies h) (c.in-Cut.ensures.unit.1)
    c.in-Cut.ensures.short c.integer_missing.ensures
