-- The slots, and the elements, in front of the rest keep to the limits, and what is left of the room is what they leave of it.
use Rattle.std.proofs.Common.{◌≡◌, ◌+◌, ◌*◌, ◌≤◌, ◌↔◌, drop}
use Rattle.fast_value.specs.meaning.Messages.{count, total, rows_total}
use Rattle.fast_value.specs.meaning.Views.{item_data, slots_data, elements_data}
use Rattle.fast_spelling.specs.meaning.Suiting.{AreWithinLimits, RowsWithinLimits}
use Rattle.fast_spelling.proofs.limits.Depths.{item_depth, slots_depth, rows_depth}
use Rattle.fast_spelling.proofs.measuring.+room.Given as goal

abbrev pub invariant-room_after_slots-loop-slot : goal.invariant-room_after_slots-loop-slot
invariant-room_after_slots-loop-slot l = record {
  within : AreWithinLimits l.limits (slots_data l.slots) ↔ AreWithinLimits l.limits (slots_data (drop l.slot-index l.slots));
  sum : l.left + total (slots_data l.slots) ≡ l.fn.room + total (slots_data (drop l.slot-index l.slots));
}

abbrev pub invariant-room_after_sequence-loop-row : goal.invariant-room_after_sequence-loop-row
invariant-room_after_sequence-loop-row l = record {
  few : count (elements_data l.rows) ≤ l.limits.max_elements;
  within : RowsWithinLimits l.limits (elements_data l.rows) ↔ RowsWithinLimits l.limits (elements_data (drop l.row-index l.rows));
  sum : l.left + (count (elements_data l.rows) + rows_total (elements_data l.rows)) ≡ l.fn.room + rows_total (elements_data (drop l.row-index l.rows));
}

-- The room of a sequence is counted before that of its elements, and theirs before that of their slots.
abbrev pub decreases-room_after_item : goal.decreases-room_after_item
decreases-room_after_item l = 3 * item_depth (item_data l.item.now)

abbrev pub decreases-room_after_sequence : goal.decreases-room_after_sequence
decreases-room_after_sequence l = 3 * rows_depth (elements_data l.rows.now) + 2

abbrev pub decreases-room_after_slots : goal.decreases-room_after_slots
decreases-room_after_slots l = 3 * slots_depth (slots_data l.slots.now) + 1
