-- Slots, groups and sequences are put as their events have them.
use Rattle.std.proofs.Common.{rules, ◌≡◌, ◌+◌, ◌-◌, ◌*◌, ◌<◌, ◌≤◌, ◌∷◌, List, inl, inr, drop, length, map, refl, ap, sym, subst, ◌∙◌, arith}
use Rattle.std.specs.Prelude.{Option, slice_index}
use Rattle.std.specs.declared.vec.Vec.{Vec}
use Rattle.std.proofs.lemmas.Result.{err_from_is_err_and}
use Rattle.std.specs.declared.alloc.Global.{Global}
use Rattle.fast_value.specs.declared.messages.Item.{Item}
use Rattle.fast_value.specs.declared.messages.Item.TheVariants as V
use Rattle.fast_value.specs.meaning.Messages.{one}
use Rattle.fast_value.specs.meaning.Values.{scalar_data}
use Rattle.fast_value.specs.meaning.Views.{item_data, slots_data, elements_data}
use Rattle.fast_value.proofs.ItemViews.{item_data-One, item_data-Group, item_data-Sequence}
use Rattle.fast_tree.specs.declared.instructions.Shape.{Shape}
use Rattle.fast_tree.specs.meaning.Numbers.{AreBetween, numbers_of}
use Rattle.fast_tree.specs.declared.instructions.Shape.TheVariants.{Field, Decimal, Group, Sequence}
use Rattle.fast_tree.specs.meaning.Nodes.{field_data, label_of, body_among}
use Rattle.fast_template.specs.meaning.Flat.{nodes_of}
use Rattle.fast_stream.specs.meaning.Events.{EventData, GroupStart, SequenceStart, ElementStart}
use Rattle.fast_stream.specs.meaning.Handed.{event_data}
use Rattle.fast_spelling.specs.device.Nodes.{instruction_in}
use Rattle.fast_spelling.proofs.encodings.Instructions.{at_shape}
use Rattle.fast_records.specs.device.Putting.{IsPutTo, ArePutTo}
use Rattle.fast_records.proofs.Put.{slots_start, put_shorter, next_shorter, rows_shorter, rows_start, slot_at, body_ended, rows_more}
use Rattle.fast_records.proofs.Put.{rows_done, field_put, parts_put, group_put, sequence_put}
use Rattle.fast_records.specs.device.Due.{HasNoBody, IsStuck, HasNoRows}
use Rattle.fast_records.specs.meaning.Putting.{OnMisplaced, IsWithin}
use Rattle.fast_records.specs.declared.putting.Mark.TheVariants as Is
use Rattle.fast_records.proofs.Due.{on_misplaced, always, left_start, rows_left, never_at_end, pass_none, pass_some, stuck_at, never_field}
use Rattle.fast_records.proofs.Due.{never_parts, never_group, never_sequence, never_slots, never_rows, there_one, there_parts, there_group}
use Rattle.fast_records.proofs.Due.{there_sequence, left_next, left_stuck, left_end, rows_next, rows_unstarted, rows_stuck, rows_unended}
use mathlib.Core.List.{not-mem-nil}
use Rattle.fast_records.proofs.putting.+putting.Goals as goal

pub put_body-loop-node-preserved : goal.put_body-loop-node-preserved
put_body-loop-node-preserved t c =
    let nodes = nodes_of c.args.templates.now in
    let body = c.args.body.now in
    let i = c.loop-node.node-index in
    let given = c.args.given.now in
    let from = map event_data (drop c.args.at given) in
    let to = map event_data (drop c.in_ok-item.next given) in
    let here = map event_data (drop c.loop-node.place given) in (
      subst (λ (z : List (Option Item)). IsPutTo (body_among nodes body) z (body_among nodes (drop (i + 1) body)) from to)
          (sym {A = List (Option Item)} c.in_ok-push.ensures)
          (slot_at nodes body i (slice_index body i) c.loop-node-test.true refl c.loop-node.slots.items from here c.loop-node.invariant.0
          c.in_ok-item.item to c.in_ok-item.ensures.put),
      left_next nodes body i (slice_index body i) c.loop-node-test.true refl c.requires c.args.end from here c.loop-node.invariant.1 to
          c.in_ok-item.ensures.passes,
      λ h. c.in_ok-item.ensures.next (c.loop-node.invariant.2 h),
    )

pub put_body-returns-in_err-item-clause-none : goal.put_body-returns-in_err-item-clause-none
put_body-returns-in_err-item-clause-none t c =
    let nodes = nodes_of c.args.templates.now in
    let body = c.args.body.now in
    let i = c.loop-node.node-index in
    let given = c.args.given.now in
    let from = map event_data (drop c.args.at given) in
    let here = map event_data (drop c.loop-node.place given) in
    let due = HasNoBody (body_among nodes body) c.args.end from in
    let p = err_from_is_err_and c.from_residual.result c.from_residual.ensures.1 in
    rw p.1 (subst (OnMisplaced due) (sym p.2) (on_misplaced (IsStuck nodes (slice_index body i) here) due
    (λ stuck. left_stuck nodes body i (slice_index body i) c.loop-node-test.true refl c.requires c.args.end from here c.loop-node.invariant.1 stuck)
    c.in_err-item.field-0.0 (c.in_err-item.ensures.none)))

pub put_body-returns-in_err-next-clause-none : goal.put_body-returns-in_err-next-clause-none
put_body-returns-in_err-next-clause-none t c =
    let nodes = nodes_of c.args.templates.now in
    let body = c.args.body.now in
    let i = c.loop-node.node-index in
    let given = c.args.given.now in
    let from = map event_data (drop c.args.at given) in
    let here = map event_data (drop c.loop-node.place given) in
    let due = HasNoBody (body_among nodes body) c.args.end from in
    let p = err_from_is_err_and c.from_residual-in_err-next.result c.from_residual-in_err-next.ensures.1 in
    rw p.1 (always due p.0 (left_end nodes body i c.args.end from here c.loop-node-test.false c.loop-node.invariant.1 (c.in_err-next.ensures.none)))

pub put_body-returns-clause-put : goal.put_body-returns-clause-put
put_body-returns-clause-put t c =
    let given = c.args.given.now in
    body_ended (nodes_of c.args.templates.now) c.args.body.now c.loop-node.node-index c.loop-node.slots.items c.args.end
    (map event_data (drop c.args.at given)) (map event_data (drop c.loop-node.place given))
    (map event_data (drop c.in_ok-next.next given))
    c.loop-node-test.false c.loop-node.invariant.0 c.in_ok-next.ensures.found

pub put_rows-loop-i-preserved : goal.put_rows-loop-i-preserved
put_rows-loop-i-preserved t c =
    let body = body_among (nodes_of c.args.templates.now) c.args.body.now in
    let given = c.args.given.now in
    let from = map event_data (drop c.args.at given) in
    let to = map event_data (drop c.in_ok-row.next given) in
    let here = map event_data (drop c.loop-i.place given) in
    let mid = map event_data (drop c.in_ok-next.next given) in (
      subst (λ (z : List (Vec (Option Item) Global)). ArePutTo body (c.loop-i._i + 1) z from to)
          (sym {A = List (Vec (Option Item) Global)} c.in_ok-push.ensures)
          (rows_more body c.loop-i._i c.loop-i.rows.items c.in_ok-row.row from here mid to c.loop-i.invariant.0 c.in_ok-next.ensures.found
          c.in_ok-row.ensures.put),
      rows_next body c.args.count c.loop-i._i from here c.loop-i.invariant.1
          (slots_data c.in_ok-row.row.items) mid to c.in_ok-next.ensures.found c.in_ok-row.ensures.put,
      λ h. c.in_ok-row.ensures.next c.in_ok-next.ensures.next,
    )

pub put_rows-returns-in_err-next-clause-none : goal.put_rows-returns-in_err-next-clause-none
put_rows-returns-in_err-next-clause-none t c =
    let body = body_among (nodes_of c.args.templates.now) c.args.body.now in
    let given = c.args.given.now in
    let from = map event_data (drop c.args.at given) in
    let here = map event_data (drop c.loop-i.place given) in
    let due = HasNoRows body c.args.count from in
    let p = err_from_is_err_and c.from_residual.result c.from_residual.ensures.1 in
    rw p.1 (always due p.0 (rows_unstarted body c.args.count c.loop-i._i from here c.loop-i.invariant.1 c.loop-i-test.true (c.in_err-next.ensures.none)))

pub put_rows-returns-in_err-row-clause-none : goal.put_rows-returns-in_err-row-clause-none
put_rows-returns-in_err-row-clause-none t c =
    let body = body_among (nodes_of c.args.templates.now) c.args.body.now in
    let given = c.args.given.now in
    let from = map event_data (drop c.args.at given) in
    let here = map event_data (drop c.loop-i.place given) in
    let due = HasNoRows body c.args.count from in
    let mid = map event_data (drop c.in_ok-next.next given) in
    let p = err_from_is_err_and c.from_residual-in_err-row.result c.from_residual-in_err-row.ensures.1 in
    rw p.1 (subst (OnMisplaced due) (sym p.2) (on_misplaced (HasNoBody body Is.ElementEnd mid) due
    (λ none. rows_stuck body c.args.count c.loop-i._i from here c.loop-i.invariant.1 mid c.in_ok-next.ensures.found none)
    c.in_err-row.field-0.0 (c.in_err-row.ensures.none)))

pub put_rows-returns-in_err-next-2-clause-none : goal.put_rows-returns-in_err-next-2-clause-none
put_rows-returns-in_err-next-2-clause-none t c =
    let body = body_among (nodes_of c.args.templates.now) c.args.body.now in
    let given = c.args.given.now in
    let from = map event_data (drop c.args.at given) in
    let here = map event_data (drop c.loop-i.place given) in
    let due = HasNoRows body c.args.count from in
    let p = err_from_is_err_and c.from_residual-in_err-next-2.result c.from_residual-in_err-next-2.ensures.1 in
    rw p.1 (always due p.0 (rows_unended body c.args.count c.loop-i._i from here c.loop-i.invariant.1 c.loop-i-test.false (c.in_err-next-2.ensures.none)))

pub put_rows-returns-clause-put : goal.put_rows-returns-clause-put
put_rows-returns-clause-put t c =
    let body = body_among (nodes_of c.args.templates.now) c.args.body.now in
    let given = c.args.given.now in
    let from = map event_data (drop c.args.at given) in
    let at = map event_data (drop c.loop-i.place given) in
    let rows = c.loop-i.rows.items in
    let all : c.loop-i._i ≡ c.args.count = omega (arith, c.loop-i-test.false) in
    rows_done body c.args.count rows from at (map event_data (drop c.in_ok-next-2.next given))
    (subst (λ k. ArePutTo body k rows from at) all c.loop-i.invariant.0) c.in_ok-next-2.ensures.found

pub put_slot-returns-in_ok-slots-in-Group-clause-passes : goal.put_slot-returns-in_ok-slots-in-Group-clause-passes
put_slot-returns-in_ok-slots-in-Group-clause-passes t c =
    let nodes = nodes_of c.args.templates.now in
    let n = c.args.node in
    let v = c.node.result.now in
    let i = instruction_in nodes n in
    let given = c.args.given.now in
    let from = map event_data (drop c.args.at given) in
    let mid = map event_data (drop (c.args.at + 1) given) in
    let e = event_data c.in-Some.first in
    let inner = body_among nodes c.in-Group.body.items in
    let is = at_shape nodes n v (Group c.in-Group.optional c.in-Group.body) c.node.ensures.found c.node.ensures.body c.in-Group.is in
    let start : from ≡ GroupStart n ∷ mid = c.in-Some.ensures.first ∙ ap (λ (z : EventData). z ∷ mid) (c.if-not-is_group.ensures.yes refl) in
    let slots = c.in_ok-slots-in-Group.slots in
    let x = item_data (V.Group slots) in
    let to = map event_data (drop c.in_ok-slots-in-Group.next given) in
    pass_some nodes n x from to c.requires (there_group i (label_of n v) c.in-Group.optional inner (slots_data slots.items) x is (item_data-Group slots))
    (group_put n i (label_of n v) c.in-Group.optional inner (slots_data slots.items) x from mid to is refl (item_data-Group slots) start
    (rw c.deref.ensures.value at c.in_ok-slots-in-Group.ensures.put))

pub put_slot-returns-in_ok-rows-in-Sequence-clause-passes : goal.put_slot-returns-in_ok-rows-in-Sequence-clause-passes
put_slot-returns-in_ok-rows-in-Sequence-clause-passes t c =
    let nodes = nodes_of c.args.templates.now in
    let n = c.args.node in
    let v = c.node.result.now in
    let i = instruction_in nodes n in
    let given = c.args.given.now in
    let from = map event_data (drop c.args.at given) in
    let mid = map event_data (drop (c.args.at + 1) given) in
    let e = event_data c.in-Some.first in
    let inner = body_among nodes c.in-Sequence.body.items in
    let is = at_shape nodes n v (Sequence c.in-Sequence.length c.in-Sequence.body) c.node.ensures.found c.node.ensures.body c.in-Sequence.is in
    let many = c.in-Some-count_of.count in
    let start : from ≡ SequenceStart n many ∷ mid = c.in-Some.ensures.first ∙ ap (λ (z : EventData). z ∷ mid) c.in-Some-count_of.ensures.some in
    let rows = c.in_ok-rows-in-Sequence.rows in
    let x = item_data (V.Sequence rows) in
    let to = map event_data (drop c.in_ok-rows-in-Sequence.next given) in
    pass_some nodes n x from to c.requires (there_sequence i (label_of n v) (field_data c.in-Sequence.length) inner
    (elements_data rows.items) x is (item_data-Sequence rows))
    (sequence_put n i (label_of n v) (field_data c.in-Sequence.length) inner (elements_data rows.items) many x from mid to is refl
    (item_data-Sequence rows) start (rw c.deref-in-Sequence.ensures.value at c.in_ok-rows-in-Sequence.ensures.put))

pub put_slot-returns-in_ok-value-in-Field-clause-passes : goal.put_slot-returns-in_ok-value-in-Field-clause-passes
put_slot-returns-in_ok-value-in-Field-clause-passes t c =
    let nodes = nodes_of c.args.templates.now in
    let n = c.args.node in
    let v = c.node.result.now in
    let i = instruction_in nodes n in
    let given = c.args.given.now in
    let from = map event_data (drop c.args.at given) in
    let mid = map event_data (drop (c.args.at + 1) given) in
    let e = event_data c.in-Some.first in
    let value = scalar_data c.in-Some-value_of.value in
    let x = item_data (V.One c.in_ok-value-in-Field.value) in
    let item = item_data-One c.in_ok-value-in-Field.value ∙ ap one c.in_ok-value-in-Field.ensures in
    let first = c.in-Some.ensures.first ∙ ap (λ (z : EventData). z ∷ mid) c.in-Some-value_of.ensures.some in
    elim c.in-Field.is [
      | inl w ↦ let is = at_shape nodes n v (Field w.0) c.node.ensures.found c.node.ensures.body w.1 in
          pass_some nodes n x from mid c.requires (there_one i (label_of n v) (field_data w.0) value x is item)
          (field_put n i (label_of n v) (field_data w.0) value x from mid is refl item first)
      | inr w ↦ let is = at_shape nodes n v (Decimal w.0 w.1) c.node.ensures.found c.node.ensures.body w.2 in
          pass_some nodes n x from mid c.requires (there_parts i (label_of n v) (field_data w.0) (field_data w.1) value x is item)
          (parts_put n i (label_of n v) (field_data w.0) (field_data w.1) value x from mid is refl item first)
    ]

pub put_slot-returns-then-not-is_group-clause-passes : goal.put_slot-returns-then-not-is_group-clause-passes
put_slot-returns-then-not-is_group-clause-passes t c =
    let nodes = nodes_of c.args.templates.now in
    let n = c.args.node in
    let v = c.node.result.now in
    let i = instruction_in nodes n in
    let given = c.args.given.now in
    let from = map event_data (drop c.args.at given) in
    let mid = map event_data (drop (c.args.at + 1) given) in
    let e = event_data c.in-Some.first in
    let inner = body_among nodes c.in-Group.body.items in
    let is = at_shape nodes n v (Group c.in-Group.optional c.in-Group.body) c.node.ensures.found c.node.ensures.body c.in-Group.is in
    pass_none nodes n from (never_group n e from mid c.in-Some.ensures.first i (label_of n v) c.in-Group.optional inner is refl
    (c.if-not-is_group.ensures.no refl))

pub put_slot-returns-in_err-slots-in-Group-clause-none : goal.put_slot-returns-in_err-slots-in-Group-clause-none
put_slot-returns-in_err-slots-in-Group-clause-none t c =
    let nodes = nodes_of c.args.templates.now in
    let n = c.args.node in
    let v = c.node.result.now in
    let i = instruction_in nodes n in
    let given = c.args.given.now in
    let from = map event_data (drop c.args.at given) in
    let mid = map event_data (drop (c.args.at + 1) given) in
    let e = event_data c.in-Some.first in
    let inner = body_among nodes c.in-Group.body.items in
    let is = at_shape nodes n v (Group c.in-Group.optional c.in-Group.body) c.node.ensures.found c.node.ensures.body c.in-Group.is in
    let start : from ≡ GroupStart n ∷ mid = c.in-Some.ensures.first ∙ ap (λ (z : EventData). z ∷ mid) (c.if-not-is_group.ensures.yes refl) in
    let p = err_from_is_err_and c.from_residual.result c.from_residual.ensures.1 in
    rw p.1 (subst (OnMisplaced (IsStuck nodes n from)) (sym p.2) (on_misplaced (HasNoBody inner Is.GroupEnd mid) (IsStuck nodes n from)
    (λ none. stuck_at nodes n (GroupStart n) from mid c.requires start refl (never_slots i (label_of n v) c.in-Group.optional inner n from mid is start none))
    c.in_err-slots-in-Group.field-0.0 (rw c.deref.ensures.value at c.in_err-slots-in-Group.ensures.none)))

pub put_slot-returns-in_default-count_of-clause-passes : goal.put_slot-returns-in_default-count_of-clause-passes
put_slot-returns-in_default-count_of-clause-passes t c =
    let nodes = nodes_of c.args.templates.now in
    let n = c.args.node in
    let v = c.node.result.now in
    let i = instruction_in nodes n in
    let given = c.args.given.now in
    let from = map event_data (drop c.args.at given) in
    let mid = map event_data (drop (c.args.at + 1) given) in
    let e = event_data c.in-Some.first in
    let inner = body_among nodes c.in-Sequence.body.items in
    let is = at_shape nodes n v (Sequence c.in-Sequence.length c.in-Sequence.body) c.node.ensures.found c.node.ensures.body c.in-Sequence.is in
    pass_none nodes n from (never_sequence n e from mid c.in-Some.ensures.first i (label_of n v)
    (field_data c.in-Sequence.length) inner is refl c.in_default-count_of.ensures.none)

pub put_slot-returns-in_err-rows-in-Sequence-clause-none : goal.put_slot-returns-in_err-rows-in-Sequence-clause-none
put_slot-returns-in_err-rows-in-Sequence-clause-none t c =
    let nodes = nodes_of c.args.templates.now in
    let n = c.args.node in
    let v = c.node.result.now in
    let i = instruction_in nodes n in
    let given = c.args.given.now in
    let from = map event_data (drop c.args.at given) in
    let mid = map event_data (drop (c.args.at + 1) given) in
    let e = event_data c.in-Some.first in
    let inner = body_among nodes c.in-Sequence.body.items in
    let is = at_shape nodes n v (Sequence c.in-Sequence.length c.in-Sequence.body) c.node.ensures.found c.node.ensures.body c.in-Sequence.is in
    let many = c.in-Some-count_of.count in
    let start : from ≡ SequenceStart n many ∷ mid = c.in-Some.ensures.first ∙ ap (λ (z : EventData). z ∷ mid) c.in-Some-count_of.ensures.some in
    let p = err_from_is_err_and c.from_residual-in_err-rows-in-Sequence.result c.from_residual-in_err-rows-in-Sequence.ensures.1 in
    rw p.1 (subst (OnMisplaced (IsStuck nodes n from)) (sym p.2) (on_misplaced (HasNoRows inner many mid) (IsStuck nodes n from)
    (λ none. stuck_at nodes n (SequenceStart n many) from mid c.requires start refl
    (never_rows i (label_of n v) (field_data c.in-Sequence.length) inner n many from mid is start none))
    c.in_err-rows-in-Sequence.field-0.0 (rw c.deref-in-Sequence.ensures.value at c.in_err-rows-in-Sequence.ensures.none)))

pub put_slot-returns-in_default-value_of-clause-passes : goal.put_slot-returns-in_default-value_of-clause-passes
put_slot-returns-in_default-value_of-clause-passes t c =
    let nodes = nodes_of c.args.templates.now in
    let n = c.args.node in
    let v = c.node.result.now in
    let i = instruction_in nodes n in
    let given = c.args.given.now in
    let from = map event_data (drop c.args.at given) in
    let mid = map event_data (drop (c.args.at + 1) given) in
    let e = event_data c.in-Some.first in
    elim c.in-Field.is [
      | inl w ↦ pass_none nodes n from (never_field n e from mid c.in-Some.ensures.first i (label_of n v) (field_data w.0)
          (at_shape nodes n v (Field w.0) c.node.ensures.found c.node.ensures.body w.1) refl c.in_default-value_of.ensures.none)
      | inr w ↦ pass_none nodes n from (never_parts n e from mid c.in-Some.ensures.first i (label_of n v) (field_data w.0) (field_data w.1)
          (at_shape nodes n v (Decimal w.0 w.1) c.node.ensures.found c.node.ensures.body w.2) refl c.in_default-value_of.ensures.none)
    ]

pub put_slot-returns-in_ok-slots-in-Group-clause-put : goal.put_slot-returns-in_ok-slots-in-Group-clause-put
put_slot-returns-in_ok-slots-in-Group-clause-put t c =
    let nodes = nodes_of c.args.templates.now in
    let n = c.args.node in
    let v = c.node.result.now in
    let given = c.args.given.now in
    let mid = map event_data (drop (c.args.at + 1) given) in
    let slots = c.in_ok-slots-in-Group.slots in
    group_put n (instruction_in nodes n) (label_of n v) c.in-Group.optional (body_among nodes c.in-Group.body.items)
    (slots_data slots.items) (item_data (V.Group slots)) (map event_data (drop c.args.at given)) mid
    (map event_data (drop c.in_ok-slots-in-Group.next given))
    (at_shape nodes n v (Group c.in-Group.optional c.in-Group.body) c.node.ensures.found c.node.ensures.body c.in-Group.is) refl (item_data-Group slots)
    (c.in-Some.ensures.first ∙ ap (λ (z : EventData). z ∷ mid) (c.if-not-is_group.ensures.yes refl))
    (rw c.deref.ensures.value at c.in_ok-slots-in-Group.ensures.put)

pub put_slot-returns-in_ok-rows-in-Sequence-clause-put : goal.put_slot-returns-in_ok-rows-in-Sequence-clause-put
put_slot-returns-in_ok-rows-in-Sequence-clause-put t c =
    let nodes = nodes_of c.args.templates.now in
    let n = c.args.node in
    let v = c.node.result.now in
    let given = c.args.given.now in
    let mid = map event_data (drop (c.args.at + 1) given) in
    let rows = c.in_ok-rows-in-Sequence.rows in
    sequence_put n (instruction_in nodes n) (label_of n v) (field_data c.in-Sequence.length) (body_among nodes c.in-Sequence.body.items)
    (elements_data rows.items) c.in-Some-count_of.count (item_data (V.Sequence rows)) (map event_data (drop c.args.at given)) mid
    (map event_data (drop c.in_ok-rows-in-Sequence.next given))
    (at_shape nodes n v (Sequence c.in-Sequence.length c.in-Sequence.body) c.node.ensures.found c.node.ensures.body c.in-Sequence.is)
    refl (item_data-Sequence rows)
    (c.in-Some.ensures.first ∙ ap (λ (z : EventData). z ∷ mid) c.in-Some-count_of.ensures.some)
    (rw c.deref-in-Sequence.ensures.value at c.in_ok-rows-in-Sequence.ensures.put)

pub put_slot-returns-in_ok-value-in-Field-clause-put : goal.put_slot-returns-in_ok-value-in-Field-clause-put
put_slot-returns-in_ok-value-in-Field-clause-put t c =
    let nodes = nodes_of c.args.templates.now in
    let n = c.args.node in
    let v = c.node.result.now in
    let given = c.args.given.now in
    let mid = map event_data (drop (c.args.at + 1) given) in
    let from = map event_data (drop c.args.at given) in
    let value = scalar_data c.in-Some-value_of.value in
    let item = item_data-One c.in_ok-value-in-Field.value ∙ ap one c.in_ok-value-in-Field.ensures in
    let first = c.in-Some.ensures.first ∙ ap (λ (z : EventData). z ∷ mid) c.in-Some-value_of.ensures.some in
    elim c.in-Field.is [
      | inl w ↦ field_put n (instruction_in nodes n) (label_of n v) (field_data w.0) value
          (item_data (V.One c.in_ok-value-in-Field.value)) from mid
          (at_shape nodes n v (Field w.0) c.node.ensures.found c.node.ensures.body w.1) refl item first
      | inr w ↦ parts_put n (instruction_in nodes n) (label_of n v) (field_data w.0) (field_data w.1) value
          (item_data (V.One c.in_ok-value-in-Field.value)) from mid
          (at_shape nodes n v (Decimal w.0 w.1) c.node.ensures.found c.node.ensures.body w.2) refl item first
    ]

-- where a part was refused, the whole was, at the same place
pub put_body-returns-in_err-item-clause-within : goal.put_body-returns-in_err-item-clause-within
put_body-returns-in_err-item-clause-within t c = λ h.
    let p = err_from_is_err_and c.from_residual.result c.from_residual.ensures.1 in
    rw p.1 (subst (IsWithin (length c.args.given.now)) (sym p.2) (c.in_err-item.ensures.within (c.loop-node.invariant.2 h)))

pub put_body-returns-in_err-next-clause-within : goal.put_body-returns-in_err-next-clause-within
put_body-returns-in_err-next-clause-within t c = λ h.
    let p = err_from_is_err_and c.from_residual-in_err-next.result c.from_residual-in_err-next.ensures.1 in
    rw p.1 (subst (IsWithin (length c.args.given.now)) (sym p.2) (c.in_err-next.ensures.within (c.loop-node.invariant.2 h)))

pub put_body-returns-clause-next : goal.put_body-returns-clause-next
put_body-returns-clause-next t c = λ h. c.in_ok-next.ensures.next

pub put_rows-returns-in_err-next-clause-within : goal.put_rows-returns-in_err-next-clause-within
put_rows-returns-in_err-next-clause-within t c = λ h.
    let p = err_from_is_err_and c.from_residual.result c.from_residual.ensures.1 in
    rw p.1 (subst (IsWithin (length c.args.given.now)) (sym p.2) (c.in_err-next.ensures.within (c.loop-i.invariant.2 h)))

pub put_rows-returns-in_err-row-clause-within : goal.put_rows-returns-in_err-row-clause-within
put_rows-returns-in_err-row-clause-within t c = λ h.
    let p = err_from_is_err_and c.from_residual-in_err-row.result c.from_residual-in_err-row.ensures.1 in
    rw p.1 (subst (IsWithin (length c.args.given.now)) (sym p.2) (c.in_err-row.ensures.within c.in_ok-next.ensures.next))

pub put_rows-returns-in_err-next-2-clause-within : goal.put_rows-returns-in_err-next-2-clause-within
put_rows-returns-in_err-next-2-clause-within t c = λ h.
    let p = err_from_is_err_and c.from_residual-in_err-next-2.result c.from_residual-in_err-next-2.ensures.1 in
    rw p.1 (subst (IsWithin (length c.args.given.now)) (sym p.2) (c.in_err-next-2.ensures.within (c.loop-i.invariant.2 h)))

pub put_rows-returns-clause-next : goal.put_rows-returns-clause-next
put_rows-returns-clause-next t c = λ h. c.in_ok-next-2.ensures.next

pub put_slot-returns-in_err-slots-in-Group-clause-within : goal.put_slot-returns-in_err-slots-in-Group-clause-within
put_slot-returns-in_err-slots-in-Group-clause-within t c = λ h.
    let p = err_from_is_err_and c.from_residual.result c.from_residual.ensures.1 in
    let within : c.args.at + 1 ≤ length c.args.given.now = omega (arith, c.in-Some.ensures.inside) in
    rw p.1 (subst (IsWithin (length c.args.given.now)) (sym p.2) (c.in_err-slots-in-Group.ensures.within within))

pub put_slot-returns-in_err-rows-in-Sequence-clause-within : goal.put_slot-returns-in_err-rows-in-Sequence-clause-within
put_slot-returns-in_err-rows-in-Sequence-clause-within t c = λ h.
    let p = err_from_is_err_and c.from_residual-in_err-rows-in-Sequence.result c.from_residual-in_err-rows-in-Sequence.ensures.1 in
    let within : c.args.at + 1 ≤ length c.args.given.now = omega (arith, c.in-Some.ensures.inside) in
    rw p.1 (subst (IsWithin (length c.args.given.now)) (sym p.2) (c.in_err-rows-in-Sequence.ensures.within within))

pub put_slot-returns-in_ok-slots-in-Group-clause-next : goal.put_slot-returns-in_ok-slots-in-Group-clause-next
put_slot-returns-in_ok-slots-in-Group-clause-next t c = λ h.
    let within : c.args.at + 1 ≤ length c.args.given.now = omega (arith, c.in-Some.ensures.inside) in
    c.in_ok-slots-in-Group.ensures.next within

pub put_slot-returns-in_ok-rows-in-Sequence-clause-next : goal.put_slot-returns-in_ok-rows-in-Sequence-clause-next
put_slot-returns-in_ok-rows-in-Sequence-clause-next t c = λ h.
    let within : c.args.at + 1 ≤ length c.args.given.now = omega (arith, c.in-Some.ensures.inside) in
    c.in_ok-rows-in-Sequence.ensures.next within

pub put_body-new-slots-requires : goal.put_body-new-slots-requires
put_body-new-slots-requires t c κs = (λ a m. absurd (not-mem-nil m), λ a m. absurd (not-mem-nil m))

pub put_body-branch-item-requires : goal.put_body-branch-item-requires
put_body-branch-item-requires t c κs = (λ a m. absurd (not-mem-nil m), λ a m. absurd (not-mem-nil m))

pub put_body-from_residual-requires : goal.put_body-from_residual-requires
put_body-from_residual-requires t c κs = (λ a m. absurd (not-mem-nil m), (λ a m. absurd (not-mem-nil m), λ a m. absurd (not-mem-nil m)))

pub put_body-drop-slots-requires : goal.put_body-drop-slots-requires
put_body-drop-slots-requires t c κs = (λ a m. absurd (not-mem-nil m), λ a m. absurd (not-mem-nil m))

pub put_body-returns-in_err-item-clause-put : goal.put_body-returns-in_err-item-clause-put
put_body-returns-in_err-item-clause-put t c = rw ((err_from_is_err_and c.from_residual.result c.from_residual.ensures.1).1) tt

pub put_body-returns-in_err-item-clause-next : goal.put_body-returns-in_err-item-clause-next
put_body-returns-in_err-item-clause-next t c = λ h. rw ((err_from_is_err_and c.from_residual.result c.from_residual.ensures.1).1) tt

pub put_body-push-requires : goal.put_body-push-requires
put_body-push-requires t c κs = λ a m. absurd (not-mem-nil m)

pub put_body-branch-push-requires : goal.put_body-branch-push-requires
put_body-branch-push-requires t c κs = (λ a m. absurd (not-mem-nil m), λ a m. absurd (not-mem-nil m))

pub put_body-from_residual-requires-in_err-push : goal.put_body-from_residual-requires-in_err-push
put_body-from_residual-requires-in_err-push t c κs = (λ a m. absurd (not-mem-nil m), (λ a m. absurd (not-mem-nil m), λ a m. absurd (not-mem-nil m)))

pub put_body-drop-slots-requires-in_err-push : goal.put_body-drop-slots-requires-in_err-push
put_body-drop-slots-requires-in_err-push t c κs = (λ a m. absurd (not-mem-nil m), λ a m. absurd (not-mem-nil m))

pub put_body-returns-in_err-push-clause-put : goal.put_body-returns-in_err-push-clause-put
put_body-returns-in_err-push-clause-put t c = rw ((err_from_is_err_and c.from_residual-in_err-push.result c.from_residual-in_err-push.ensures.1).1) tt

pub put_body-returns-in_err-push-clause-next : goal.put_body-returns-in_err-push-clause-next
put_body-returns-in_err-push-clause-next t c = λ h. rw ((err_from_is_err_and c.from_residual-in_err-push.result c.from_residual-in_err-push.ensures.1).1) tt

pub put_body-behind-requires : goal.put_body-behind-requires
put_body-behind-requires t c = tt

pub put_body-branch-next-requires : goal.put_body-branch-next-requires
put_body-branch-next-requires t c κs = (λ a m. absurd (not-mem-nil m), λ a m. absurd (not-mem-nil m))

pub put_body-from_residual-requires-in_err-next : goal.put_body-from_residual-requires-in_err-next
put_body-from_residual-requires-in_err-next t c κs = (λ a m. absurd (not-mem-nil m), (λ a m. absurd (not-mem-nil m), λ a m. absurd (not-mem-nil m)))

pub put_body-drop-slots-requires-in_err-next : goal.put_body-drop-slots-requires-in_err-next
put_body-drop-slots-requires-in_err-next t c κs = (λ a m. absurd (not-mem-nil m), λ a m. absurd (not-mem-nil m))

pub put_body-returns-in_err-next-clause-put : goal.put_body-returns-in_err-next-clause-put
put_body-returns-in_err-next-clause-put t c = rw ((err_from_is_err_and c.from_residual-in_err-next.result c.from_residual-in_err-next.ensures.1).1) tt

pub put_body-returns-in_err-next-clause-next : goal.put_body-returns-in_err-next-clause-next
put_body-returns-in_err-next-clause-next t c = λ h. rw ((err_from_is_err_and c.from_residual-in_err-next.result c.from_residual-in_err-next.ensures.1).1) tt

pub put_body-returns-clause-none : goal.put_body-returns-clause-none
put_body-returns-clause-none t c = tt

pub put_body-returns-clause-within : goal.put_body-returns-clause-within
put_body-returns-clause-within t c = λ h. tt

pub put_rows-new-rows-requires : goal.put_rows-new-rows-requires
put_rows-new-rows-requires t c κs = (λ a m. absurd (not-mem-nil m), λ a m. absurd (not-mem-nil m))

pub put_rows-behind-requires : goal.put_rows-behind-requires
put_rows-behind-requires t c = tt

pub put_rows-branch-next-requires : goal.put_rows-branch-next-requires
put_rows-branch-next-requires t c κs = (λ a m. absurd (not-mem-nil m), λ a m. absurd (not-mem-nil m))

pub put_rows-from_residual-requires : goal.put_rows-from_residual-requires
put_rows-from_residual-requires t c κs = (λ a m. absurd (not-mem-nil m), (λ a m. absurd (not-mem-nil m), λ a m. absurd (not-mem-nil m)))

pub put_rows-drop-rows-requires : goal.put_rows-drop-rows-requires
put_rows-drop-rows-requires t c κs = (λ a m. absurd (not-mem-nil m), λ a m. absurd (not-mem-nil m))

pub put_rows-returns-in_err-next-clause-put : goal.put_rows-returns-in_err-next-clause-put
put_rows-returns-in_err-next-clause-put t c = rw ((err_from_is_err_and c.from_residual.result c.from_residual.ensures.1).1) tt

pub put_rows-returns-in_err-next-clause-next : goal.put_rows-returns-in_err-next-clause-next
put_rows-returns-in_err-next-clause-next t c = λ h. rw ((err_from_is_err_and c.from_residual.result c.from_residual.ensures.1).1) tt

pub put_rows-branch-row-requires : goal.put_rows-branch-row-requires
put_rows-branch-row-requires t c κs = (λ a m. absurd (not-mem-nil m), λ a m. absurd (not-mem-nil m))

pub put_rows-from_residual-requires-in_err-row : goal.put_rows-from_residual-requires-in_err-row
put_rows-from_residual-requires-in_err-row t c κs = (λ a m. absurd (not-mem-nil m), (λ a m. absurd (not-mem-nil m), λ a m. absurd (not-mem-nil m)))

pub put_rows-drop-rows-requires-in_err-row : goal.put_rows-drop-rows-requires-in_err-row
put_rows-drop-rows-requires-in_err-row t c κs = (λ a m. absurd (not-mem-nil m), λ a m. absurd (not-mem-nil m))

pub put_rows-returns-in_err-row-clause-put : goal.put_rows-returns-in_err-row-clause-put
put_rows-returns-in_err-row-clause-put t c = rw ((err_from_is_err_and c.from_residual-in_err-row.result c.from_residual-in_err-row.ensures.1).1) tt

pub put_rows-returns-in_err-row-clause-next : goal.put_rows-returns-in_err-row-clause-next
put_rows-returns-in_err-row-clause-next t c = λ h. rw ((err_from_is_err_and c.from_residual-in_err-row.result c.from_residual-in_err-row.ensures.1).1) tt

pub put_rows-push-requires : goal.put_rows-push-requires
put_rows-push-requires t c κs = λ a m. absurd (not-mem-nil m)

pub put_rows-branch-push-requires : goal.put_rows-branch-push-requires
put_rows-branch-push-requires t c κs = (λ a m. absurd (not-mem-nil m), λ a m. absurd (not-mem-nil m))

pub put_rows-from_residual-requires-in_err-push : goal.put_rows-from_residual-requires-in_err-push
put_rows-from_residual-requires-in_err-push t c κs = (λ a m. absurd (not-mem-nil m), (λ a m. absurd (not-mem-nil m), λ a m. absurd (not-mem-nil m)))

pub put_rows-drop-rows-requires-in_err-push : goal.put_rows-drop-rows-requires-in_err-push
put_rows-drop-rows-requires-in_err-push t c κs = (λ a m. absurd (not-mem-nil m), λ a m. absurd (not-mem-nil m))

pub put_rows-returns-in_err-push-clause-put : goal.put_rows-returns-in_err-push-clause-put
put_rows-returns-in_err-push-clause-put t c = rw ((err_from_is_err_and c.from_residual-in_err-push.result c.from_residual-in_err-push.ensures.1).1) tt

pub put_rows-returns-in_err-push-clause-next : goal.put_rows-returns-in_err-push-clause-next
put_rows-returns-in_err-push-clause-next t c = λ h. rw ((err_from_is_err_and c.from_residual-in_err-push.result c.from_residual-in_err-push.ensures.1).1) tt

pub put_rows-behind-requires-2 : goal.put_rows-behind-requires-2
put_rows-behind-requires-2 t c = tt

pub put_rows-branch-next-requires-2 : goal.put_rows-branch-next-requires-2
put_rows-branch-next-requires-2 t c κs = (λ a m. absurd (not-mem-nil m), λ a m. absurd (not-mem-nil m))

pub put_rows-from_residual-requires-in_err-next-2 : goal.put_rows-from_residual-requires-in_err-next-2
put_rows-from_residual-requires-in_err-next-2 t c κs = (λ a m. absurd (not-mem-nil m), (λ a m. absurd (not-mem-nil m), λ a m. absurd (not-mem-nil m)))

pub put_rows-drop-rows-requires-in_err-next-2 : goal.put_rows-drop-rows-requires-in_err-next-2
put_rows-drop-rows-requires-in_err-next-2 t c κs = (λ a m. absurd (not-mem-nil m), λ a m. absurd (not-mem-nil m))

pub put_rows-returns-in_err-next-2-clause-put : goal.put_rows-returns-in_err-next-2-clause-put
put_rows-returns-in_err-next-2-clause-put t c = rw ((err_from_is_err_and c.from_residual-in_err-next-2.result c.from_residual-in_err-next-2.ensures.1).1) tt

pub put_rows-returns-in_err-next-2-clause-next : goal.put_rows-returns-in_err-next-2-clause-next
put_rows-returns-in_err-next-2-clause-next t c = λ h. rw ((err_from_is_err_and c.from_residual-in_err-next-2.result
    c.from_residual-in_err-next-2.ensures.1).1) tt

pub put_rows-returns-clause-none : goal.put_rows-returns-clause-none
put_rows-returns-clause-none t c = tt

pub put_rows-returns-clause-within : goal.put_rows-returns-clause-within
put_rows-returns-clause-within t c = λ h. tt

pub put_slot-event_at-requires : goal.put_slot-event_at-requires
put_slot-event_at-requires t c = tt

pub put_slot-returns-in_default-clause-put : goal.put_slot-returns-in_default-clause-put
put_slot-returns-in_default-clause-put t c = refl

pub put_slot-returns-in_default-clause-none : goal.put_slot-returns-in_default-clause-none
put_slot-returns-in_default-clause-none t c = tt

pub put_slot-returns-in_default-clause-next : goal.put_slot-returns-in_default-clause-next
put_slot-returns-in_default-clause-next t c = λ h. h

pub put_slot-returns-in_default-clause-within : goal.put_slot-returns-in_default-clause-within
put_slot-returns-in_default-clause-within t c = λ h. tt

pub put_slot-is_group-requires : goal.put_slot-is_group-requires
put_slot-is_group-requires t c = tt

pub put_slot-returns-then-not-is_group-clause-put : goal.put_slot-returns-then-not-is_group-clause-put
put_slot-returns-then-not-is_group-clause-put t c = refl

pub put_slot-returns-then-not-is_group-clause-none : goal.put_slot-returns-then-not-is_group-clause-none
put_slot-returns-then-not-is_group-clause-none t c = tt

pub put_slot-returns-then-not-is_group-clause-next : goal.put_slot-returns-then-not-is_group-clause-next
put_slot-returns-then-not-is_group-clause-next t c = λ h. h

pub put_slot-returns-then-not-is_group-clause-within : goal.put_slot-returns-then-not-is_group-clause-within
put_slot-returns-then-not-is_group-clause-within t c = λ h. tt

pub put_slot-deref-requires : goal.put_slot-deref-requires
put_slot-deref-requires t c κs = (λ a m. absurd (not-mem-nil m), λ a m. absurd (not-mem-nil m))

pub put_slot-branch-slots-requires : goal.put_slot-branch-slots-requires
put_slot-branch-slots-requires t c κs = (λ a m. absurd (not-mem-nil m), λ a m. absurd (not-mem-nil m))

pub put_slot-from_residual-requires : goal.put_slot-from_residual-requires
put_slot-from_residual-requires t c κs = (λ a m. absurd (not-mem-nil m), (λ a m. absurd (not-mem-nil m), λ a m. absurd (not-mem-nil m)))

pub put_slot-returns-in_err-slots-in-Group-clause-put : goal.put_slot-returns-in_err-slots-in-Group-clause-put
put_slot-returns-in_err-slots-in-Group-clause-put t c = rw ((err_from_is_err_and c.from_residual.result c.from_residual.ensures.1).1) tt

pub put_slot-returns-in_err-slots-in-Group-clause-passes : goal.put_slot-returns-in_err-slots-in-Group-clause-passes
put_slot-returns-in_err-slots-in-Group-clause-passes t c = rw ((err_from_is_err_and c.from_residual.result c.from_residual.ensures.1).1) tt

pub put_slot-returns-in_err-slots-in-Group-clause-next : goal.put_slot-returns-in_err-slots-in-Group-clause-next
put_slot-returns-in_err-slots-in-Group-clause-next t c = λ h. rw ((err_from_is_err_and c.from_residual.result c.from_residual.ensures.1).1) tt

pub put_slot-count_of-requires : goal.put_slot-count_of-requires
put_slot-count_of-requires t c = tt

pub put_slot-returns-in_default-count_of-clause-put : goal.put_slot-returns-in_default-count_of-clause-put
put_slot-returns-in_default-count_of-clause-put t c = refl

pub put_slot-returns-in_default-count_of-clause-none : goal.put_slot-returns-in_default-count_of-clause-none
put_slot-returns-in_default-count_of-clause-none t c = tt

pub put_slot-returns-in_default-count_of-clause-next : goal.put_slot-returns-in_default-count_of-clause-next
put_slot-returns-in_default-count_of-clause-next t c = λ h. h

pub put_slot-returns-in_default-count_of-clause-within : goal.put_slot-returns-in_default-count_of-clause-within
put_slot-returns-in_default-count_of-clause-within t c = λ h. tt

pub put_slot-deref-requires-in-Sequence : goal.put_slot-deref-requires-in-Sequence
put_slot-deref-requires-in-Sequence t c κs = (λ a m. absurd (not-mem-nil m), λ a m. absurd (not-mem-nil m))

pub put_slot-branch-rows-requires : goal.put_slot-branch-rows-requires
put_slot-branch-rows-requires t c κs = (λ a m. absurd (not-mem-nil m), λ a m. absurd (not-mem-nil m))

pub put_slot-from_residual-requires-in_err-rows-in-Sequence : goal.put_slot-from_residual-requires-in_err-rows-in-Sequence
put_slot-from_residual-requires-in_err-rows-in-Sequence t c κs = (λ a m. absurd (not-mem-nil m), (λ a m. absurd (not-mem-nil m), λ a m. absurd (not-mem-nil m)))

pub put_slot-returns-in_err-rows-in-Sequence-clause-put : goal.put_slot-returns-in_err-rows-in-Sequence-clause-put
put_slot-returns-in_err-rows-in-Sequence-clause-put t c =
    rw ((err_from_is_err_and c.from_residual-in_err-rows-in-Sequence.result c.from_residual-in_err-rows-in-Sequence.ensures.1).1) tt

pub put_slot-returns-in_err-rows-in-Sequence-clause-passes : goal.put_slot-returns-in_err-rows-in-Sequence-clause-passes
put_slot-returns-in_err-rows-in-Sequence-clause-passes t c =
    rw ((err_from_is_err_and c.from_residual-in_err-rows-in-Sequence.result c.from_residual-in_err-rows-in-Sequence.ensures.1).1) tt

pub put_slot-returns-in_err-rows-in-Sequence-clause-next : goal.put_slot-returns-in_err-rows-in-Sequence-clause-next
put_slot-returns-in_err-rows-in-Sequence-clause-next t c =
    λ h. rw ((err_from_is_err_and c.from_residual-in_err-rows-in-Sequence.result c.from_residual-in_err-rows-in-Sequence.ensures.1).1) tt

pub put_slot-value_of-requires : goal.put_slot-value_of-requires
put_slot-value_of-requires t c = tt

pub put_slot-returns-in_default-value_of-clause-put : goal.put_slot-returns-in_default-value_of-clause-put
put_slot-returns-in_default-value_of-clause-put t c = refl

pub put_slot-returns-in_default-value_of-clause-none : goal.put_slot-returns-in_default-value_of-clause-none
put_slot-returns-in_default-value_of-clause-none t c = tt

pub put_slot-returns-in_default-value_of-clause-next : goal.put_slot-returns-in_default-value_of-clause-next
put_slot-returns-in_default-value_of-clause-next t c = λ h. h

pub put_slot-returns-in_default-value_of-clause-within : goal.put_slot-returns-in_default-value_of-clause-within
put_slot-returns-in_default-value_of-clause-within t c = λ h. tt

pub put_slot-copy_of-requires : goal.put_slot-copy_of-requires
put_slot-copy_of-requires t c = tt

pub put_slot-branch-value-requires : goal.put_slot-branch-value-requires
put_slot-branch-value-requires t c κs = (λ a m. absurd (not-mem-nil m), λ a m. absurd (not-mem-nil m))

pub put_slot-from_residual-requires-in_err-value-in-Field : goal.put_slot-from_residual-requires-in_err-value-in-Field
put_slot-from_residual-requires-in_err-value-in-Field t c κs = (λ a m. absurd (not-mem-nil m), (λ a m. absurd (not-mem-nil m), λ a m. absurd (not-mem-nil m)))

pub put_slot-returns-in_err-value-in-Field-clause-put : goal.put_slot-returns-in_err-value-in-Field-clause-put
put_slot-returns-in_err-value-in-Field-clause-put t c =
    rw ((err_from_is_err_and c.from_residual-in_err-value-in-Field.result c.from_residual-in_err-value-in-Field.ensures.1).1) tt

pub put_slot-returns-in_err-value-in-Field-clause-passes : goal.put_slot-returns-in_err-value-in-Field-clause-passes
put_slot-returns-in_err-value-in-Field-clause-passes t c =
    rw ((err_from_is_err_and c.from_residual-in_err-value-in-Field.result c.from_residual-in_err-value-in-Field.ensures.1).1) tt

pub put_slot-returns-in_err-value-in-Field-clause-next : goal.put_slot-returns-in_err-value-in-Field-clause-next
put_slot-returns-in_err-value-in-Field-clause-next t c =
    λ h. rw ((err_from_is_err_and c.from_residual-in_err-value-in-Field.result c.from_residual-in_err-value-in-Field.ensures.1).1) tt

pub put_slot-returns-in_ok-slots-in-Group-clause-none : goal.put_slot-returns-in_ok-slots-in-Group-clause-none
put_slot-returns-in_ok-slots-in-Group-clause-none t c = tt

pub put_slot-returns-in_ok-slots-in-Group-clause-within : goal.put_slot-returns-in_ok-slots-in-Group-clause-within
put_slot-returns-in_ok-slots-in-Group-clause-within t c = λ h. tt

pub put_slot-returns-in_ok-rows-in-Sequence-clause-none : goal.put_slot-returns-in_ok-rows-in-Sequence-clause-none
put_slot-returns-in_ok-rows-in-Sequence-clause-none t c = tt

pub put_slot-returns-in_ok-rows-in-Sequence-clause-within : goal.put_slot-returns-in_ok-rows-in-Sequence-clause-within
put_slot-returns-in_ok-rows-in-Sequence-clause-within t c = λ h. tt

pub put_slot-returns-in_ok-value-in-Field-clause-none : goal.put_slot-returns-in_ok-value-in-Field-clause-none
put_slot-returns-in_ok-value-in-Field-clause-none t c = tt

pub put_slot-returns-in_ok-value-in-Field-clause-within : goal.put_slot-returns-in_ok-value-in-Field-clause-within
put_slot-returns-in_ok-value-in-Field-clause-within t c = λ h. tt

pub put_body-loop-node-init : goal.put_body-loop-node-init
put_body-loop-node-init t c =
    let body = body_among (nodes_of c.args.templates.now) c.args.body.now in
    let from = map event_data (drop c.args.at c.args.given.now) in (
      subst (λ (z : List (Option Item)). IsPutTo body z body from from) (sym {A = List (Option Item)} c.new-slots.ensures.items)
          (slots_start body from),
      left_start body c.args.end from,
      λ h. h,
    )

pub put_body-offset_bounds-body-node-index : goal.put_body-offset_bounds-body-node-index
put_body-offset_bounds-body-node-index t c = search rules

pub put_body-bounds-body-node-index : goal.put_body-bounds-body-node-index
put_body-bounds-body-node-index t c = c.loop-node-test.true

pub put_body-put_slot-requires : goal.put_body-put_slot-requires
put_body-put_slot-requires t c =
    let body = body_among (nodes_of c.args.templates.now) c.args.body.now in
    let given = c.args.given.now in
    let d : 3 * length (drop c.args.at given) + 2 ≡ t = c.decreases in
    let less = put_shorter body (body_among (nodes_of c.args.templates.now) (drop c.loop-node.node-index c.args.body.now))
    c.loop-node.slots.items (drop c.args.at given) (drop c.loop-node.place given) c.loop-node.invariant.0 in
    let smaller : 3 * length (drop c.loop-node.place given) + 1 < t = omega (arith, d, less) in
    (smaller, c.requires c.loop-node.node-index c.loop-node-test.true)

pub put_body-returns-in_err-push-clause-none : goal.put_body-returns-in_err-push-clause-none
put_body-returns-in_err-push-clause-none t c =
    let due = HasNoBody (body_among (nodes_of c.args.templates.now) c.args.body.now) c.args.end (map event_data (drop c.args.at c.args.given.now)) in
    let p = err_from_is_err_and c.from_residual-in_err-push.result c.from_residual-in_err-push.ensures.1 in
    rw p.1 (subst (OnMisplaced due) (sym p.2) tt)

pub put_body-returns-in_err-push-clause-within : goal.put_body-returns-in_err-push-clause-within
put_body-returns-in_err-push-clause-within t c = λ h.
    let p = err_from_is_err_and c.from_residual-in_err-push.result c.from_residual-in_err-push.ensures.1 in
    rw p.1 (subst (IsWithin (length c.args.given.now)) (sym p.2) tt)

pub put_body-loop-node-smaller : goal.put_body-loop-node-smaller
put_body-loop-node-smaller t c =
    let inside : c.loop-node.node-index < length c.args.body.now = c.loop-node-test.true in
    let smaller : length c.args.body.now - (c.loop-node.node-index + 1) < length c.args.body.now - c.loop-node.node-index = omega (arith, inside) in
    smaller

pub put_rows-loop-i-init : goal.put_rows-loop-i-init
put_rows-loop-i-init t c =
    let body = body_among (nodes_of c.args.templates.now) c.args.body.now in
    let from = map event_data (drop c.args.at c.args.given.now) in (
      subst (λ (z : List (Vec (Option Item) Global)). ArePutTo body 0 z from from)
          (sym {A = List (Vec (Option Item) Global)} c.new-rows.ensures.items) (rows_start body from),
      rows_left body c.args.count from,
      λ h. h,
    )

pub put_rows-put_body-requires : goal.put_rows-put_body-requires
put_rows-put_body-requires t c =
    let body = body_among (nodes_of c.args.templates.now) c.args.body.now in
    let given = c.args.given.now in
    let d : 3 * length (drop c.args.at given) + 2 ≡ t = c.decreases in
    let less = rows_shorter body c.loop-i._i c.loop-i.rows.items (drop c.args.at given) (drop c.loop-i.place given) c.loop-i.invariant.0 in
    let next = next_shorter ElementStart (drop c.loop-i.place given) (drop c.in_ok-next.next given) c.in_ok-next.ensures.found in
    let smaller : 3 * length (drop c.in_ok-next.next given) + 2 < t = omega (arith, d, less, next) in
    (smaller, c.requires)

pub put_rows-returns-in_err-push-clause-none : goal.put_rows-returns-in_err-push-clause-none
put_rows-returns-in_err-push-clause-none t c =
    let due = HasNoRows (body_among (nodes_of c.args.templates.now) c.args.body.now) c.args.count (map event_data (drop c.args.at c.args.given.now)) in
    let p = err_from_is_err_and c.from_residual-in_err-push.result c.from_residual-in_err-push.ensures.1 in
    rw p.1 (subst (OnMisplaced due) (sym p.2) tt)

pub put_rows-returns-in_err-push-clause-within : goal.put_rows-returns-in_err-push-clause-within
put_rows-returns-in_err-push-clause-within t c = λ h.
    let p = err_from_is_err_and c.from_residual-in_err-push.result c.from_residual-in_err-push.ensures.1 in
    rw p.1 (subst (IsWithin (length c.args.given.now)) (sym p.2) tt)

pub put_rows-loop-i-smaller : goal.put_rows-loop-i-smaller
put_rows-loop-i-smaller t c =
    let inside : c.loop-i._i < c.args.count = c.loop-i-test.true in
    let smaller : c.args.count - (c.loop-i._i + 1) < c.args.count - c.loop-i._i = omega (arith, inside) in
    smaller

pub put_slot-returns-in_default-clause-passes : goal.put_slot-returns-in_default-clause-passes
put_slot-returns-in_default-clause-passes t c =
    let nodes = nodes_of c.args.templates.now in
    let from = map event_data (drop c.args.at c.args.given.now) in
    pass_none nodes c.args.node from (never_at_end (instruction_in nodes c.args.node) from c.in_default.ensures.none)

pub put_slot-node-requires : goal.put_slot-node-requires
put_slot-node-requires t c = c.requires

pub put_slot-overflow_add-at : goal.put_slot-overflow_add-at
put_slot-overflow_add-at t c = search rules

pub put_slot-overflow_add-at-in-Sequence : goal.put_slot-overflow_add-at-in-Sequence
put_slot-overflow_add-at-in-Sequence t c = search rules

pub put_slot-overflow_add-result : goal.put_slot-overflow_add-result
put_slot-overflow_add-result t c = search rules

pub put_slot-put_body-requires : goal.put_slot-put_body-requires
put_slot-put_body-requires t c =
    let given = c.args.given.now in
    let d : 3 * length (drop c.args.at given) + 1 ≡ t = c.decreases in
    let next = next_shorter (event_data c.in-Some.first) (drop c.args.at given) (drop (c.args.at + 1) given) c.in-Some.ensures.first in
    let smaller : 3 * length (drop (c.args.at + 1) given) + 2 < t = omega (arith, d, next) in
    let later = subst (λ (z : Shape). AreBetween c.args.node (length (nodes_of c.args.templates.now)) (numbers_of z)) c.in-Group.is c.node.ensures.body in
    (smaller, rw c.deref.ensures.value (λ k h. (later k h).1))

pub put_slot-put_rows-requires : goal.put_slot-put_rows-requires
put_slot-put_rows-requires t c =
    let given = c.args.given.now in
    let d : 3 * length (drop c.args.at given) + 1 ≡ t = c.decreases in
    let next = next_shorter (event_data c.in-Some.first) (drop c.args.at given) (drop (c.args.at + 1) given) c.in-Some.ensures.first in
    let smaller : 3 * length (drop (c.args.at + 1) given) + 2 < t = omega (arith, d, next) in
    let later = subst (λ (z : Shape). AreBetween c.args.node (length (nodes_of c.args.templates.now)) (numbers_of z)) c.in-Sequence.is c.node.ensures.body in
    (smaller, rw c.deref-in-Sequence.ensures.value (λ k h. (later k h).1))

pub put_slot-returns-in_err-value-in-Field-clause-none : goal.put_slot-returns-in_err-value-in-Field-clause-none
put_slot-returns-in_err-value-in-Field-clause-none t c =
    let due = IsStuck (nodes_of c.args.templates.now) c.args.node (map event_data (drop c.args.at c.args.given.now)) in
    let p = err_from_is_err_and c.from_residual-in_err-value-in-Field.result c.from_residual-in_err-value-in-Field.ensures.1 in
    rw p.1 (subst (OnMisplaced due) (sym p.2) tt)

pub put_slot-returns-in_err-value-in-Field-clause-within : goal.put_slot-returns-in_err-value-in-Field-clause-within
put_slot-returns-in_err-value-in-Field-clause-within t c = λ h.
    let p = err_from_is_err_and c.from_residual-in_err-value-in-Field.result c.from_residual-in_err-value-in-Field.ensures.1 in
    rw p.1 (subst (IsWithin (length c.args.given.now)) (sym p.2) tt)

pub put_slot-returns-in_ok-value-in-Field-clause-next : goal.put_slot-returns-in_ok-value-in-Field-clause-next
put_slot-returns-in_ok-value-in-Field-clause-next t c = λ h. omega (arith, c.in-Some.ensures.inside)
