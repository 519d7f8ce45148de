use Rattle.std.proofs.Common.{◌≡◌, ◌+◌, ◌*◌, map, drop}
use Rattle.toml.specs.Data.{depth, items_depth, members_depth}
use Rattle.toml.specs.View.{view, items_view, table_view}
use Rattle.fast_notation.specs.device.Reading.{all_fields}
use Rattle.fast_notation.specs.device.WrittenSets.{instruction_data}
use Rattle.fast_notation.proofs.lists.FieldLists.{front}
use Rattle.fast_notation.proofs.reading.+fields.Given as goal

abbrev pub decreases-fields_in : goal.decreases-fields_in
decreases-fields_in l = 3 * items_depth (items_view l.items.now) + 1

abbrev pub decreases-nested_fields : goal.decreases-nested_fields
decreases-nested_fields l = 3 * members_depth (table_view l.table.now) + 2

abbrev pub decreases-instruction_in : goal.decreases-instruction_in
decreases-instruction_in l = 3 * depth (view l.value.now)

abbrev pub invariant-fields_in-loop-item : goal.invariant-fields_in-loop-item
invariant-fields_in-loop-item l = front (map instruction_data l.fields.items)
    (all_fields (items_view (drop l.item-index l.items))) ≡ all_fields (items_view l.items)
