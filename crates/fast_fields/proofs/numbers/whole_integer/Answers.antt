-- An integer that is read at once is a field's only unit.
use Rattle.std.proofs.Common.{sym, subst, arith}
use Rattle.std.specs.Prelude.{List, ℕ}
use Rattle.fast_value.specs.meaning.Limits.{bounds}
use Rattle.fast_tree.specs.meaning.Nodes.{field_data}
use Rattle.fast_dict.specs.meaning.Slots.{slots_dictionary}
use Rattle.fast_units.specs.device.Deciding.{source_of}
use Rattle.fast_units.specs.device.Settling.{GivesWhole}
use Rattle.fast_units.specs.device.TextDecisions.{first_reader}
use Rattle.fast_fields.specs.declared.reading.Reading.TheVariants.{Whole}
use Rattle.fast_fields.specs.declared.reading.WholeField.{WholeField}
use Rattle.fast_fields.specs.device.Readings.{IsFieldReading}
use Rattle.fast_fields.proofs.numbers.whole_integer.Goals as goal

pub returns-then-eq-clause-whole : goal.returns-then-eq-clause-whole
returns-then-eq-clause-whole c scratch =
    let l = c.args.limits.now in
    let f = field_data c.args.field.now in
    let old = slots_dictionary c.args.slots.now in
    let new = slots_dictionary c.changed_integer.new.slots in
    let done = c.in_ok-source in (
      omega arith,
      subst (λ (w : List ℕ). GivesWhole (first_reader l f old) f w old new scratch done.source 0 done.bytes) c.new-rest.ensures
          (done.ensures.unit (bounds l) scratch),
    )

pub returns-clause-whole : goal.returns-clause-whole
returns-clause-whole c scratch =
    let l = c.args.limits.now in
    let f = field_data c.args.field.now in
    let old = slots_dictionary c.args.slots.now in
    let new = slots_dictionary c.sent_integer.new.slots in
    let r = first_reader l f old in
    let taken = c.in_ok-taken.taken in
    subst (λ (x : WholeField). IsFieldReading r f c.args.bytes.now old new scratch (Whole x)) (sym c.item_field.ensures) (
      omega arith,
      subst (λ (w : List ℕ). GivesWhole r f w old new scratch (source_of taken.item) 0 taken.bytes) c.new-rest.ensures
          (c.in_ok-taken.ensures.unit (bounds l) scratch),
    )
