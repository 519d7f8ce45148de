-- Each slot by its node, each element by its body.
use Rattle.std.proofs.Common.{◌≡◌, ◌<◌, ◌+◌, ◌*◌, ◌≤◌, ◌∙◌, length, refl, ap, subst, arith}
use Rattle.std.specs.Prelude.{◌^◌, false, Some, option_map}
use Rattle.std.proofs.lemmas.Bool.{false≢true}
use Rattle.fast_value.specs.declared.messages.Item.{Item}
use Rattle.fast_value.specs.meaning.Messages.{one, group as group_item, sequence as sequence_item, count}
use Rattle.fast_value.specs.meaning.Values.{value_data}
use Rattle.fast_value.specs.meaning.Views.{item_data, slots_data, elements_data}
use Rattle.fast_value.proofs.ItemViews.{item_data-One, item_data-Group, item_data-Sequence, count-elements_data}
use Rattle.fast_tree.specs.declared.instructions.Shape.{Shape}
use Rattle.fast_tree.specs.declared.instructions.Shape.TheVariants.{Field, Decimal, Group, Sequence}
use Rattle.fast_tree.specs.meaning.Nodes.{field_data, body_among}
use Rattle.fast_tree.specs.meaning.Numbers.{numbers_of, AreBetween}
use Rattle.fast_template.specs.meaning.Flat.{nodes_of}
use Rattle.fast_spelling.specs.meaning.Suiting.{AreRight, SuitsBody}
use Rattle.fast_spelling.proofs.limits.Depths.{item_depth, option_depth, slots_depth, rows_depth, option_depth_at, row_depth}
use Rattle.fast_spelling.proofs.limits.Suited.{suits_length, slot_suits, slot_fails, no_slot_suits, row_suits, row_fails, no_row_suits}
use Rattle.fast_spelling.proofs.limits.Suited.{suits_at, fails, decimal_right}
use Rattle.fast_spelling.proofs.suiting.+suits.Goals as goal

pub suits_body-returns-then-not-has_slot_for_each : goal.suits_body-returns-then-not-has_slot_for_each
suits_body-returns-then-not-has_slot_for_each t c =
    fails (SuitsBody (body_among (nodes_of c.args.templates.now) c.args.body.now) (slots_data c.args.slots.now))
    (λ h. false≢true (c.if-not-has_slot_for_each.ensures.1
    (suits_length (nodes_of c.args.templates.now) c.args.body.now c.args.slots.now h)))

pub suits_body-suits_slot-requires : goal.suits_body-suits_slot-requires
suits_body-suits_slot-requires t c =
    let i = c.loop-i.i in
    let x = c.index-slots-i.result in
    let inside : i < length c.args.body.now = omega (arith, c.if-not-has_slot_for_each.ensures.0 refl, c.loop-i-test.true) in
    let d : 4 * slots_depth (slots_data c.args.slots.now) + 2 ≡ t = c.decreases in
    let deep : option_depth (option_map item_data x) ≤ slots_depth (slots_data c.args.slots.now) =
    option_depth_at c.args.slots.now i x c.loop-i-test.true c.index-slots-i.is in
    let smaller : 4 * option_depth (option_map item_data x) + 1 < t = omega (arith, d, deep) in
    (smaller, c.requires i inside)

pub suits_body-loop-i-preserved : goal.suits_body-loop-i-preserved
suits_body-loop-i-preserved t c =
    let i = c.loop-i.i in
    let inside : i < length c.args.body.now = omega (arith, c.if-not-has_slot_for_each.ensures.0 refl, c.loop-i-test.true) in
    slot_suits (nodes_of c.args.templates.now) c.args.body.now c.args.slots.now i c.index-slots-i.result inside c.loop-i-test.true c.index-slots-i.is
    (SuitsBody (body_among (nodes_of c.args.templates.now) c.args.body.now) (slots_data c.args.slots.now)) c.loop-i.invariant
    (c.if-not-suits_slot.ensures.0 refl)

pub suits_body-returns : goal.suits_body-returns
suits_body-returns t c =
    let past : length c.args.body.now ≤ c.loop-i.i = omega (arith, c.if-not-has_slot_for_each.ensures.0 refl, c.loop-i-test.false) in
    (λ _. c.loop-i.invariant.0 (no_slot_suits (nodes_of c.args.templates.now) c.args.body.now c.args.slots.now c.loop-i.i past c.loop-i-test.false), λ _. refl)

pub suits_body-returns-then-not-suits_slot : goal.suits_body-returns-then-not-suits_slot
suits_body-returns-then-not-suits_slot t c =
    let i = c.loop-i.i in
    let inside : i < length c.args.body.now = omega (arith, c.if-not-has_slot_for_each.ensures.0 refl, c.loop-i-test.true) in
    let P = SuitsBody (body_among (nodes_of c.args.templates.now) c.args.body.now) (slots_data c.args.slots.now) in
    fails P (slot_fails (nodes_of c.args.templates.now) c.args.body.now c.args.slots.now i c.index-slots-i.result inside c.loop-i-test.true
    c.index-slots-i.is P c.loop-i.invariant (λ h. false≢true (c.if-not-suits_slot.ensures.1 h)))

pub suits_item-suits_body-requires : goal.suits_item-suits_body-requires
suits_item-suits_body-requires t c =
    let later = subst (λ (z : Shape). AreBetween c.args.node (length (nodes_of c.args.templates.now)) (numbers_of z)) c.in-Group-Group.is-0
    c.node.ensures.body in
    let d : 4 * item_depth (item_data c.args.item.now) ≡ t = c.decreases in
    let deep : item_depth (item_data c.args.item.now) ≡ item_depth (group_item (slots_data c.in-Group-Group.slots.items)) =
    ap item_depth (ap item_data c.in-Group-Group.is-1 ∙ item_data-Group c.in-Group-Group.slots) in
    let smaller : 4 * slots_depth (slots_data c.deref-in-Group-Group.result.now) + 2 < t = rw c.deref-in-Group-Group.ensures.value (omega (arith, d, deep)) in
    (smaller, rw c.deref.ensures.value (λ k h. (later k h).1))

pub suits_item-suits_rows-requires : goal.suits_item-suits_rows-requires
suits_item-suits_rows-requires t c =
    let later = subst (λ (z : Shape). AreBetween c.args.node (length (nodes_of c.args.templates.now)) (numbers_of z))
    c.in-Sequence-Sequence.is-0 c.node.ensures.body in
    let d : 4 * item_depth (item_data c.args.item.now) ≡ t = c.decreases in
    let deep : item_depth (item_data c.args.item.now) ≡ item_depth (sequence_item (elements_data c.in-Sequence-Sequence.rows.items)) =
    ap item_depth (ap item_data c.in-Sequence-Sequence.is-1 ∙ item_data-Sequence c.in-Sequence-Sequence.rows) in
    let smaller : 4 * rows_depth (elements_data c.deref-in-Sequence-Sequence-2.result.now) + 3 < t =
    rw c.deref-in-Sequence-Sequence-2.ensures.value (omega (arith, d, deep)) in
    (smaller, rw c.deref-in-Sequence-Sequence.ensures.value (λ k h. (later k h).1))

pub suits_item-returns-in-Field-One : goal.suits_item-returns-in-Field-One
suits_item-returns-in-Field-One t c =
    suits_at (nodes_of c.args.templates.now) c.args.node c.node.result.now
    (Field c.in-Field-One.field) c.node.ensures.found c.node.ensures.body c.in-Field-One.is-0 c.is_right.result
    (Some (item_data c.args.item.now)) (Some (one (value_data c.in-Field-One.value)))
    (ap (λ (z : Item). Some (item_data z)) c.in-Field-One.is-1 ∙ ap Some (item_data-One c.in-Field-One.value))
    c.is_right.ensures

pub suits_item-returns-in-Decimal-One : goal.suits_item-returns-in-Decimal-One
suits_item-returns-in-Decimal-One t c =
    suits_at (nodes_of c.args.templates.now) c.args.node c.node.result.now
    (Decimal c.in-Decimal-One.exponent-0 c.in-Decimal-One.mantissa-0) c.node.ensures.found c.node.ensures.body c.in-Decimal-One.is-0
    c.is_right-in-Decimal-One.result
    (Some (item_data c.args.item.now)) (Some (one (value_data c.in-Decimal-One.value)))
    (ap (λ (z : Item). Some (item_data z)) c.in-Decimal-One.is-1 ∙ ap Some (item_data-One c.in-Decimal-One.value))
    (let same = decimal_right (field_data c.in-Decimal-One.exponent-0) (value_data c.in-Decimal-One.value) in
    (λ h. same.0 (c.is_right-in-Decimal-One.ensures.0 h), λ h. c.is_right-in-Decimal-One.ensures.1 (same.1 h)))

pub suits_item-returns-in-Group-Group : goal.suits_item-returns-in-Group-Group
suits_item-returns-in-Group-Group t c =
    suits_at (nodes_of c.args.templates.now) c.args.node c.node.result.now
    (Group c.in-Group-Group.optional-0 c.in-Group-Group.body) c.node.ensures.found c.node.ensures.body c.in-Group-Group.is-0
    c.suits_body.result
    (Some (item_data c.args.item.now)) (Some (group_item (slots_data c.in-Group-Group.slots.items)))
    (ap (λ (z : Item). Some (item_data z)) c.in-Group-Group.is-1 ∙ ap Some (item_data-Group c.in-Group-Group.slots))
    (rw (c.deref.ensures.value, c.deref-in-Group-Group.ensures.value) at c.suits_body.ensures)

pub suits_item-returns-in-Sequence-Sequence : goal.suits_item-returns-in-Sequence-Sequence
suits_item-returns-in-Sequence-Sequence t c =
    suits_at (nodes_of c.args.templates.now) c.args.node c.node.result.now
    (Sequence c.in-Sequence-Sequence.length-0 c.in-Sequence-Sequence.body) c.node.ensures.found c.node.ensures.body
    c.in-Sequence-Sequence.is-0 c.suits_rows.result
    (Some (item_data c.args.item.now)) (Some (sequence_item (elements_data c.in-Sequence-Sequence.rows.items)))
    (ap (λ (z : Item). Some (item_data z)) c.in-Sequence-Sequence.is-1 ∙ ap Some (item_data-Sequence c.in-Sequence-Sequence.rows))
    (rw (c.deref-in-Sequence-Sequence.ensures.value, c.deref-in-Sequence-Sequence-2.ensures.value) at c.suits_rows.ensures)

pub suits_item-returns-in-Field-Group : goal.suits_item-returns-in-Field-Group
suits_item-returns-in-Field-Group t c =
    suits_at (nodes_of c.args.templates.now) c.args.node c.node.result.now
    (Field c.in-Field-Group.field-0-0) c.node.ensures.found c.node.ensures.body c.in-Field-Group.is-0 false
    (Some (item_data c.args.item.now)) (Some (group_item (slots_data c.in-Field-Group.field-0-1.items)))
    (ap (λ (z : Item). Some (item_data z)) c.in-Field-Group.is-1 ∙ ap Some (item_data-Group c.in-Field-Group.field-0-1))
    (fails ⊥ (λ h. h))

pub suits_item-returns-in-Field-Group-2 : goal.suits_item-returns-in-Field-Group-2
suits_item-returns-in-Field-Group-2 t c =
    suits_at (nodes_of c.args.templates.now) c.args.node c.node.result.now
    (Field c.in-Field-Group.field-0-0) c.node.ensures.found c.node.ensures.body c.in-Field-Group.is-0 false
    (Some (item_data c.args.item.now)) (Some (sequence_item (elements_data c.in-Field-Group.field-0-1.items)))
    (ap (λ (z : Item). Some (item_data z)) c.in-Field-Group.is-1 ∙ ap Some (item_data-Sequence c.in-Field-Group.field-0-1))
    (fails ⊥ (λ h. h))

pub suits_item-returns-in-Field-Group-3 : goal.suits_item-returns-in-Field-Group-3
suits_item-returns-in-Field-Group-3 t c =
    suits_at (nodes_of c.args.templates.now) c.args.node c.node.result.now
    (Decimal c.in-Field-Group.field-0-0 c.in-Field-Group.field-1-0) c.node.ensures.found c.node.ensures.body c.in-Field-Group.is-0 false
    (Some (item_data c.args.item.now)) (Some (group_item (slots_data c.in-Field-Group.field-0-1.items)))
    (ap (λ (z : Item). Some (item_data z)) c.in-Field-Group.is-1 ∙ ap Some (item_data-Group c.in-Field-Group.field-0-1))
    (fails ⊥ (λ h. h))

pub suits_item-returns-in-Field-Group-4 : goal.suits_item-returns-in-Field-Group-4
suits_item-returns-in-Field-Group-4 t c =
    suits_at (nodes_of c.args.templates.now) c.args.node c.node.result.now
    (Decimal c.in-Field-Group.field-0-0 c.in-Field-Group.field-1-0) c.node.ensures.found c.node.ensures.body c.in-Field-Group.is-0 false
    (Some (item_data c.args.item.now)) (Some (sequence_item (elements_data c.in-Field-Group.field-0-1.items)))
    (ap (λ (z : Item). Some (item_data z)) c.in-Field-Group.is-1 ∙ ap Some (item_data-Sequence c.in-Field-Group.field-0-1))
    (fails ⊥ (λ h. h))

pub suits_item-returns-in-Field-Group-5 : goal.suits_item-returns-in-Field-Group-5
suits_item-returns-in-Field-Group-5 t c =
    suits_at (nodes_of c.args.templates.now) c.args.node c.node.result.now
    (Group c.in-Field-Group.field-0-0 c.in-Field-Group.field-1-0) c.node.ensures.found c.node.ensures.body c.in-Field-Group.is-0 false
    (Some (item_data c.args.item.now)) (Some (one (value_data c.in-Field-Group.field-0-1)))
    (ap (λ (z : Item). Some (item_data z)) c.in-Field-Group.is-1 ∙ ap Some (item_data-One c.in-Field-Group.field-0-1))
    (fails ⊥ (λ h. h))

pub suits_item-returns-in-Field-Group-6 : goal.suits_item-returns-in-Field-Group-6
suits_item-returns-in-Field-Group-6 t c =
    suits_at (nodes_of c.args.templates.now) c.args.node c.node.result.now
    (Group c.in-Field-Group.field-0-0 c.in-Field-Group.field-1-0) c.node.ensures.found c.node.ensures.body c.in-Field-Group.is-0 false
    (Some (item_data c.args.item.now)) (Some (sequence_item (elements_data c.in-Field-Group.field-0-1.items)))
    (ap (λ (z : Item). Some (item_data z)) c.in-Field-Group.is-1 ∙ ap Some (item_data-Sequence c.in-Field-Group.field-0-1))
    (fails ⊥ (λ h. h))

pub suits_item-returns-in-Field-Group-7 : goal.suits_item-returns-in-Field-Group-7
suits_item-returns-in-Field-Group-7 t c =
    suits_at (nodes_of c.args.templates.now) c.args.node c.node.result.now
    (Sequence c.in-Field-Group.field-0-0 c.in-Field-Group.field-1-0) c.node.ensures.found c.node.ensures.body c.in-Field-Group.is-0
    false
    (Some (item_data c.args.item.now)) (Some (one (value_data c.in-Field-Group.field-0-1)))
    (ap (λ (z : Item). Some (item_data z)) c.in-Field-Group.is-1 ∙ ap Some (item_data-One c.in-Field-Group.field-0-1))
    (fails ⊥ (λ h. h))

pub suits_item-returns-in-Field-Group-8 : goal.suits_item-returns-in-Field-Group-8
suits_item-returns-in-Field-Group-8 t c =
    suits_at (nodes_of c.args.templates.now) c.args.node c.node.result.now
    (Sequence c.in-Field-Group.field-0-0 c.in-Field-Group.field-1-0) c.node.ensures.found c.node.ensures.body c.in-Field-Group.is-0
    false
    (Some (item_data c.args.item.now)) (Some (group_item (slots_data c.in-Field-Group.field-0-1.items)))
    (ap (λ (z : Item). Some (item_data z)) c.in-Field-Group.is-1 ∙ ap Some (item_data-Group c.in-Field-Group.field-0-1))
    (fails ⊥ (λ h. h))

pub suits_rows-returns-then-rows : goal.suits_rows-returns-then-rows
suits_rows-returns-then-rows t c =
    fails (AreRight (SuitsBody (body_among (nodes_of c.args.templates.now) c.args.body.now)) (elements_data c.args.rows.now)
    × (count (elements_data c.args.rows.now) < 2 ^ 32)) (λ h.
    let few : count (elements_data c.args.rows.now) < 4294967296 = h.1 in
    let long : count (elements_data c.args.rows.now) ≡ length c.args.rows.now = count-elements_data c.args.rows.now in
    omega (arith, few, long, c.if-rows.true))

pub suits_rows-suits_body-requires : goal.suits_rows-suits_body-requires
suits_rows-suits_body-requires t c =
    let r = c.row-item.result in
    let d : 4 * rows_depth (elements_data c.args.rows.now) + 3 ≡ t = c.decreases in
    let deep : slots_depth (slots_data r.items) ≤ rows_depth (elements_data c.args.rows.now) =
    row_depth c.args.rows.now c.loop-row.row-index r c.loop-row-test.true c.row-item.is in
    let smaller : 4 * slots_depth (slots_data c.deref.result.now) + 2 < t = rw c.deref.ensures.value (omega (arith, d, deep)) in
    (smaller, c.requires)

pub suits_rows-loop-row-preserved : goal.suits_rows-loop-row-preserved
suits_rows-loop-row-preserved t c =
    let right = SuitsBody (body_among (nodes_of c.args.templates.now) c.args.body.now) in
    row_suits right c.args.rows.now c.loop-row.row-index c.row-item.result c.loop-row-test.true c.row-item.is
    (AreRight right (elements_data c.args.rows.now)) c.loop-row.invariant
    (rw c.deref.ensures.value at (c.if-not-suits_body.ensures.0 refl))

pub suits_rows-returns-then-not-suits_body : goal.suits_rows-returns-then-not-suits_body
suits_rows-returns-then-not-suits_body t c =
    let right = SuitsBody (body_among (nodes_of c.args.templates.now) c.args.body.now) in
    let all = AreRight right (elements_data c.args.rows.now) in
    let unsuited = rw c.deref.ensures.value at c.if-not-suits_body.ensures in
    fails (all × (count (elements_data c.args.rows.now) < 2 ^ 32)) (λ h.
    row_fails right c.args.rows.now c.loop-row.row-index c.row-item.result c.loop-row-test.true c.row-item.is all c.loop-row.invariant
    (λ k. false≢true (unsuited.1 k)) h.0)

pub suits_rows-returns : goal.suits_rows-returns
suits_rows-returns t c =
    let long : count (elements_data c.args.rows.now) ≡ length c.args.rows.now = count-elements_data c.args.rows.now in
    let few : count (elements_data c.args.rows.now) < 4294967296 = omega (arith, long, c.if-rows.false) in (
      λ _. (
        c.loop-row.invariant.0 (no_row_suits (SuitsBody (body_among (nodes_of c.args.templates.now) c.args.body.now)) c.args.rows.now
            c.loop-row.row-index c.loop-row-test.false),
        few,
      ),
      λ _. refl,
    )
