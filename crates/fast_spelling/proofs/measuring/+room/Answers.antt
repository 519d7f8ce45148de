-- Depths fall at each call, and a group and a sequence are what their slots and their elements are.
use Rattle.std.proofs.Common.{◌≡◌, ◌+◌, ◌*◌, ◌<◌, ◌≤◌, ap, sym, ◌∙◌, arith, get_or}
use Rattle.std.specs.Prelude.{Option}
use mathlib.Core.List.{not-mem-nil}
use Rattle.fast_value.specs.declared.messages.Item.{Item}
use Rattle.fast_value.specs.meaning.Messages.{group as group_item, sequence as sequence_item}
use Rattle.fast_value.specs.meaning.Views.{item_data, slots_data, elements_data}
use Rattle.fast_value.proofs.ItemViews.{item_data-Group, item_data-Sequence, count-elements_data}
use Rattle.fast_spelling.proofs.limits.Depths.{item_depth, slots_depth, rows_depth, slot_depth, row_depth}
use Rattle.fast_spelling.proofs.measuring.+room.Goals as goal

pub room_after_item-room_after_slots-requires : goal.room_after_item-room_after_slots-requires
room_after_item-room_after_slots-requires t c =
    let d : 3 * item_depth (item_data c.args.item.now) ≡ t = c.decreases in
    let deep : item_depth (item_data c.args.item.now) ≡ item_depth (group_item (slots_data c.in-Group.slots.items)) =
    ap item_depth (ap item_data c.in-Group.is ∙ item_data-Group c.in-Group.slots) in
    let smaller : 3 * slots_depth (slots_data c.deref.result.now) + 1 < t = rw c.deref.ensures.value (omega (arith, d, deep)) in
    (smaller, tt)

pub room_after_item-room_after_sequence-requires : goal.room_after_item-room_after_sequence-requires
room_after_item-room_after_sequence-requires t c =
    let d : 3 * item_depth (item_data c.args.item.now) ≡ t = c.decreases in
    let deep : item_depth (item_data c.args.item.now) ≡ item_depth (sequence_item (elements_data c.in-Sequence.rows.items)) =
    ap item_depth (ap item_data c.in-Sequence.is ∙ item_data-Sequence c.in-Sequence.rows) in
    let smaller : 3 * rows_depth (elements_data c.deref-in-Sequence.result.now) + 2 < t = rw c.deref-in-Sequence.ensures.value (omega (arith, d, deep)) in
    (smaller, tt)

pub room_after_sequence-room_after_slots-requires : goal.room_after_sequence-room_after_slots-requires
room_after_sequence-room_after_slots-requires t c =
    let d : 3 * rows_depth (elements_data c.args.rows.now) + 2 ≡ t = c.decreases in
    let deep : slots_depth (slots_data c.row-item.result.items) ≤ rows_depth (elements_data c.args.rows.now) =
    row_depth c.args.rows.now c.loop-row.row-index c.row-item.result c.loop-row-test.true c.row-item.is in
    let smaller : 3 * slots_depth (slots_data c.deref.result.now) + 1 < t = rw c.deref.ensures.value (omega (arith, d, deep)) in
    (smaller, tt)

pub room_after_slots-room_after_item-requires : goal.room_after_slots-room_after_item-requires
room_after_slots-room_after_item-requires t c =
    let d : 3 * slots_depth (slots_data c.args.slots.now) + 1 ≡ t = c.decreases in
    let slot = sym c.in-Some.is ∙ c.slot-item.is ∙ ap (λ (z : Option Item). get_or c.args.slots.now c.loop-slot.slot-index z) c.in-Some.is in
    let deep : item_depth (item_data c.in-Some.item) ≤ slots_depth (slots_data c.args.slots.now) =
    slot_depth c.args.slots.now c.loop-slot.slot-index c.in-Some.item c.loop-slot-test.true slot in
    let smaller : 3 * item_depth (item_data c.in-Some.item) < t = omega (arith, d, deep) in
    (smaller, tt)

pub room_after_item-returns-in-Group-clause-some : goal.room_after_item-returns-in-Group-clause-some
room_after_item-returns-in-Group-clause-some t c = rw (ap item_data c.in-Group.is ∙ item_data-Group c.in-Group.slots)
    (rw c.deref.ensures.value at c.room_after_slots.ensures.some)

pub room_after_item-returns-in-Group-clause-none : goal.room_after_item-returns-in-Group-clause-none
room_after_item-returns-in-Group-clause-none t c = rw (ap item_data c.in-Group.is ∙ item_data-Group c.in-Group.slots)
    (rw c.deref.ensures.value at c.room_after_slots.ensures.none)

pub room_after_item-returns-in-Sequence-clause-some : goal.room_after_item-returns-in-Sequence-clause-some
room_after_item-returns-in-Sequence-clause-some t c = rw (ap item_data c.in-Sequence.is ∙ item_data-Sequence c.in-Sequence.rows)
    (rw c.deref-in-Sequence.ensures.value at c.room_after_sequence.ensures.some)

pub room_after_item-returns-in-Sequence-clause-none : goal.room_after_item-returns-in-Sequence-clause-none
room_after_item-returns-in-Sequence-clause-none t c = rw (ap item_data c.in-Sequence.is ∙ item_data-Sequence c.in-Sequence.rows)
    (rw c.deref-in-Sequence.ensures.value at c.room_after_sequence.ensures.none)

pub room_after_sequence-returns-then-has_too_many-clause-none : goal.room_after_sequence-returns-then-has_too_many-clause-none
room_after_sequence-returns-then-has_too_many-clause-none t c h =
    omega (arith, count-elements_data c.args.rows.now, h.0.0, c.has_too_many.ensures.0 c.if-has_too_many.true)

pub room_after_sequence-returns-in_err-left-clause-none : goal.room_after_sequence-returns-in_err-left-clause-none
room_after_sequence-returns-in_err-left-clause-none t c =
    rw c.from_residual.ensures (λ h. c.in_err-left.ensures (omega (arith, count-elements_data c.args.rows.now, h.1)))

pub room_after_sequence-loop-row-init : goal.room_after_sequence-loop-row-init
room_after_sequence-loop-row-init t c =
    let long = count-elements_data c.args.rows.now in
    record {
      few = grind (arith, long, c.has_too_many.ensures.1, c.if-has_too_many.false);
      within = (λ w. w, λ w. w);
      sum = omega (arith, long, c.in_ok-left.ensures);
    }

pub room_after_item-deref-requires : goal.room_after_item-deref-requires
room_after_item-deref-requires t c κs = (λ a m. absurd (not-mem-nil m), λ a m. absurd (not-mem-nil m))

pub room_after_item-deref-requires-in-Sequence : goal.room_after_item-deref-requires-in-Sequence
room_after_item-deref-requires-in-Sequence t c κs = (λ a m. absurd (not-mem-nil m), λ a m. absurd (not-mem-nil m))

pub room_after_sequence-branch-left-requires : goal.room_after_sequence-branch-left-requires
room_after_sequence-branch-left-requires t c κs = λ a m. absurd (not-mem-nil m)

pub room_after_sequence-from_residual-requires : goal.room_after_sequence-from_residual-requires
room_after_sequence-from_residual-requires t c κs = λ a m. absurd (not-mem-nil m)

pub room_after_sequence-deref-requires : goal.room_after_sequence-deref-requires
room_after_sequence-deref-requires t c κs = (λ a m. absurd (not-mem-nil m), λ a m. absurd (not-mem-nil m))

pub room_after_sequence-branch-left-requires-in-loop-row : goal.room_after_sequence-branch-left-requires-in-loop-row
room_after_sequence-branch-left-requires-in-loop-row t c κs = λ a m. absurd (not-mem-nil m)

pub room_after_sequence-from_residual-requires-in_err-left-2 : goal.room_after_sequence-from_residual-requires-in_err-left-2
room_after_sequence-from_residual-requires-in_err-left-2 t c κs = λ a m. absurd (not-mem-nil m)

pub room_after_slots-branch-left-requires : goal.room_after_slots-branch-left-requires
room_after_slots-branch-left-requires t c κs = λ a m. absurd (not-mem-nil m)

pub room_after_slots-from_residual-requires : goal.room_after_slots-from_residual-requires
room_after_slots-from_residual-requires t c κs = λ a m. absurd (not-mem-nil m)
