-- Slots, groups and sequences are read as their events have them.
use Rattle.std.proofs.Common.{◌≡◌, ◌<◌, ◌+◌, List, [], ◌∷◌, ◌++◌, inl, inr, length, drop, refl, ap, sym, subst, ◌∙◌, arith, rules, ◌*◌, ◌-◌}
use Rattle.std.specs.Prelude.{◌^◌, Option, slice_index, Result, Ok, Err, IfOk, IsErrAnd}
use Rattle.std.specs.declared.vec.Vec.{Vec}
use Rattle.std.specs.declared.alloc.Global.{Global}
use Rattle.std.proofs.lemmas.List.{length-append}
use Rattle.std.proofs.lemmas.Result.{err_from_is_err_and}
use Rattle.fast_value.specs.declared.messages.Item.{Item}
use Rattle.fast_value.specs.declared.messages.Item.TheVariants as V
use Rattle.fast_value.specs.meaning.Views.{item_data, slots_data, elements_data}
use Rattle.fast_value.proofs.ItemViews.{item_data-Group, item_data-Sequence}
use Rattle.fast_tree.specs.declared.instructions.Shape.TheVariants.{Field, Decimal, Group, Sequence}
use Rattle.fast_tree.specs.meaning.Nodes.{field_data, label_of, body_among}
use Rattle.fast_template.specs.meaning.Flat.{nodes_of, tree_of}
use Rattle.fast_spelling.specs.device.Nodes.{instruction_in}
use Rattle.fast_spelling.proofs.encodings.Instructions.{at_shape}
use Rattle.fast_messages.specs.device.Naming.{IsValue}
use Rattle.fast_messages.specs.device.Progress.{IsReadTo, AreReadTo}
use Rattle.fast_messages.proofs.readings.Bodies.{read_start, item_at, mandatory_at, body_unended, absent_at, present_at, body_ended, rows_more, rows_done}
use Rattle.fast_messages.proofs.names.Named.{holds, numbered}
use Rattle.fast_messages.proofs.readings.Parts.{group_read, sequence_read}
use Rattle.fast_messages.specs.declared.endings.Ending.TheVariants as Ends
use Rattle.fast_messages.specs.meaning.Reading.{OnBadLine}
use Rattle.fast_messages.specs.device.Refusing.{HasNoNext}
use Rattle.fast_messages.specs.meaning.Unsaid.{HasNoBody, HasNoItem, HasNoRows}
use Rattle.fast_messages.proofs.refusals.Refused.{on_bad, always, item_next, group_refused, sequence_refused}
use Rattle.fast_messages.proofs.refusals.RefusedBodies.{place_refused, rows_next, rows_surplus, rows_element, rows_misplaced, rows_missing}
use Rattle.fast_tree.specs.declared.instructions.Shape.{Shape}
use Rattle.fast_tree.specs.meaning.Numbers.{numbers_of, AreBetween}
use Rattle.fast_messages.specs.device.Cursors.{ahead}
use Rattle.fast_messages.proofs.readings.Shorter.{said_shorter, advance_shorter}
use Rattle.fast_messages.proofs.messages.+reading.Goals as goal
use Rattle.fast_messages.proofs.messages.+reading.Goals.{read_body-then-names+in_ok-item+in_ok-push, read_body-else-names+then-may_be_passed+in_ok-push-2}

-- of what a `?` hands on, nothing is said of Ok
on_handed_on : {R E : Type 0} (P : R → Type 0) (Q : E → Type 0) (r : Result R E) → IsErrAnd r Q → IfOk r P
on_handed_on P Q (Ok x) h = absurd h
on_handed_on P Q (Err e) h = tt

pub read_body-loop-i-preserved : goal.read_body-loop-i-preserved
read_body-loop-i-preserved t c =
    let set = tree_of c.args.templates.now in
    let nodes = nodes_of c.args.templates.now in
    let body = c.args.body.now in
    let i = c.loop-i.i in
    let xs = c.loop-i.slots.items in
    let inside : i < length body = omega arith in
    let own = numbered c.args.templates.now (slice_index body i) (c.requires i inside) in
    elim c.if-names.branch [
      | read_body-then-names+in_ok-item+in_ok-push w ↦
          rw (w.place-is, w.slots-is) (
          subst (λ (z : List (Option Item)). IsReadTo set (body_among nodes body) z
          (body_among nodes (drop (i + 1) body)) c.args.at w.in_ok-item.next) (sym {A = List (Option Item)} w.in_ok-push.ensures.ok)
          (present_at set nodes body i (slice_index body i) inside refl own xs c.args.at c.loop-i.place c.loop-i.invariant
          w.in_ok-item.item w.in_ok-item.next (c.names.ensures.0 w.if-names.true) w.in_ok-item.ensures.ok)
          )
      | read_body-else-names+then-may_be_passed+in_ok-push-2 w ↦
          rw (w.place-is, w.slots-is) (
          subst (λ (z : List (Option Item)). IsReadTo set (body_among nodes body) z
          (body_among nodes (drop (i + 1) body)) c.args.at c.loop-i.place) (sym {A = List (Option Item)} w.in_ok-push-2.ensures.ok)
          (absent_at set nodes body i (slice_index body i) inside refl own xs c.args.at c.loop-i.place c.loop-i.invariant
          (λ h. absurd (cc (w.if-names.false, c.names.ensures.1 h))) (w.may_be_passed.ensures.0 w.if-may_be_passed.true))
          )
    ]

pub read_body-returns-clause-ok : goal.read_body-returns-clause-ok
read_body-returns-clause-ok t c =
    body_ended (tree_of c.args.templates.now) (nodes_of c.args.templates.now) c.args.body.now c.loop-i.i c.loop-i.slots.items c.args.ending
    c.args.at c.loop-i.place c.in_ok-next.next c.loop-i-test.false c.loop-i.invariant
    (c.if-not-is_ending.ensures.0 refl) c.in_ok-next.ensures.ok

pub read_item-read_value-requires-clause-field : goal.read_item-read_value-requires-clause-field
read_item-read_value-requires-clause-field t c =
    elim c.in-Field.is [
      | inl w ↦ holds c.args.templates.now c.args.node c.node.result.now c.node.ensures.found c.node.ensures.body IsValue (Field w.0) w.1 tt
      | inr w ↦ holds c.args.templates.now c.args.node c.node.result.now c.node.ensures.found c.node.ensures.body IsValue (Decimal w.0 w.1) w.2 tt
    ]

pub read_item-returns-in_ok-slots-in-Group-clause-ok : goal.read_item-returns-in_ok-slots-in-Group-clause-ok
read_item-returns-in_ok-slots-in-Group-clause-ok t c =
    let nodes = nodes_of c.args.templates.now in
    let n = c.args.node in
    let v = c.node.result.now in
    let slots = c.in_ok-slots-in-Group.slots in
    group_read (tree_of c.args.templates.now) n (instruction_in nodes n) (label_of n v) c.in-Group.optional
    (body_among nodes c.in-Group.body.items) (slots_data slots.items)
    (item_data (V.Group slots)) c.args.at c.in_ok-next-in-Group.next c.in_ok-slots-in-Group.next
    (at_shape nodes n v (Group c.in-Group.optional c.in-Group.body) c.node.ensures.found c.node.ensures.body c.in-Group.is) refl
    (item_data-Group slots) c.requires.named c.in_ok-next-in-Group.ensures.ok
    (rw c.deref.ensures.value at c.in_ok-slots-in-Group.ensures.ok)

pub read_item-returns-in_ok-rows-in-Sequence-clause-ok : goal.read_item-returns-in_ok-rows-in-Sequence-clause-ok
read_item-returns-in_ok-rows-in-Sequence-clause-ok t c =
    let nodes = nodes_of c.args.templates.now in
    let n = c.args.node in
    let v = c.node.result.now in
    let rows = c.in_ok-rows-in-Sequence.rows in
    let few : c.count_of-count.result < 2 ^ 32 = search rules in
    sequence_read (tree_of c.args.templates.now) n (instruction_in nodes n) (label_of n v) (field_data c.in-Sequence.length)
    (body_among nodes c.in-Sequence.body.items) (elements_data rows.items) c.count_of-count.result
    (item_data (V.Sequence rows)) c.args.at c.in_ok-next-in-Sequence.next c.in_ok-rows-in-Sequence.next
    (at_shape nodes n v (Sequence c.in-Sequence.length c.in-Sequence.body) c.node.ensures.found c.node.ensures.body c.in-Sequence.is) refl
    (item_data-Sequence rows) few c.count_of-count.ensures c.requires.named c.in_ok-next-in-Sequence.ensures.ok
    (rw c.deref-in-Sequence.ensures.value at c.in_ok-rows-in-Sequence.ensures.ok)

pub read_rows-loop-rows-preserved : goal.read_rows-loop-rows-preserved
read_rows-loop-rows-preserved t c =
    let set = tree_of c.args.templates.now in
    let body = body_among (nodes_of c.args.templates.now) c.args.body.now in
    let rs = c.loop-rows.rows.items in
    let r = c.in_ok-row.row in
    let long : c.len.result ≡ length rs = c.len.ensures ∙ c.loop-rows.rows.ok.0 in
    let grown : length c.push.new.items.items ≡ length (rs ++ r ∷ []) = ap length c.in_ok-push.ensures.ok in
    let one = length-append rs (r ∷ []) in
    let few = c.loop-rows.invariant.few in
    record {
      read = subst (λ (z : List (Vec (Option Item) Global)). AreReadTo set body z c.args.at c.in_ok-row.next) (sym c.in_ok-push.ensures.ok)
          (rows_more set body rs r c.args.at c.loop-rows.place c.in_ok-next.next c.in_ok-row.next c.loop-rows.invariant.read
          (c.is_element.ensures.0 c.loop-rows-test.true) c.in_ok-next.ensures.ok c.in_ok-row.ensures.ok);
      few = grind (arith, long, grown, one, few, c.has_all.ensures.1, c.if-has_all.false);
    }

pub read_rows-returns-clause-ok : goal.read_rows-returns-clause-ok
read_rows-returns-clause-ok t c =
    let rs = c.loop-rows.rows.items in
    let long : c.len-2.result ≡ length rs = c.len-2.ensures ∙ c.loop-rows.rows.ok.0 in
    let few = c.loop-rows.invariant.few in
    let many : length rs ≡ c.args.count = grind (arith, long, few, c.lacks_some.ensures.1, c.if-lacks_some.false) in
    rows_done (tree_of c.args.templates.now) (body_among (nodes_of c.args.templates.now) c.args.body.now) rs c.args.count c.args.at
    c.loop-rows.place c.in_ok-next-2.next c.loop-rows.invariant.read many
    (c.if-not-is_sequence_end.ensures.0 refl) c.in_ok-next-2.ensures.ok

pub read_body-loop-i-init : goal.read_body-loop-i-init
read_body-loop-i-init t c =
    let set = tree_of c.args.templates.now in
    let nodes = nodes_of c.args.templates.now in
    let body = c.args.body.now in
    let whole = body_among nodes body in
    subst (λ (z : List (Option Item)). IsReadTo set whole z whole c.args.at c.args.at)
    (sym {A = List (Option Item)} c.new-slots.ensures.items) (read_start set whole c.args.at)

pub read_body-returns-in_err-item-clause-refused : goal.read_body-returns-in_err-item-clause-refused
read_body-returns-in_err-item-clause-refused t c =
    let set = tree_of c.args.templates.now in
    let nodes = nodes_of c.args.templates.now in
    let body = c.args.body.now in
    let whole = body_among nodes body in
    let i = c.loop-i.i in
    let inside : i < length body = omega arith in
    let own = numbered c.args.templates.now (slice_index body i) (c.requires i inside) in
    let p = err_from_is_err_and c.from_residual.result c.from_residual.ensures.1 in
    rw p.1 (subst (OnBadLine (HasNoBody set whole c.args.ending c.args.at)) (sym p.2)
    (on_bad (HasNoItem set (instruction_in nodes (slice_index body i)) c.loop-i.place) (HasNoBody set whole c.args.ending c.args.at)
    (λ none. item_at set nodes body i (slice_index body i) inside refl own c.loop-i.slots.items c.args.at c.loop-i.place c.loop-i.invariant
    c.args.ending (c.names.ensures.0 c.if-names.true) none)
    c.in_err-item.field-0.0 (c.in_err-item.ensures.refused)))

pub read_body-returns-else-may_be_passed-clause-refused : goal.read_body-returns-else-may_be_passed-clause-refused
read_body-returns-else-may_be_passed-clause-refused t c =
    let set = tree_of c.args.templates.now in
    let nodes = nodes_of c.args.templates.now in
    let body = c.args.body.now in
    let whole = body_among nodes body in
    let i = c.loop-i.i in
    let inside : i < length body = omega arith in
    let own = numbered c.args.templates.now (slice_index body i) (c.requires i inside) in
    mandatory_at set nodes body i (slice_index body i) inside refl own c.loop-i.slots.items c.args.at c.loop-i.place c.loop-i.invariant
    c.args.ending (λ h. absurd (cc (c.if-names.false, c.names.ensures.1 h)))
    (λ h. absurd (cc (c.if-may_be_passed.false, c.may_be_passed.ensures.1 h)))

pub read_body-returns-then-not-is_ending-clause-refused : goal.read_body-returns-then-not-is_ending-clause-refused
read_body-returns-then-not-is_ending-clause-refused t c =
    let set = tree_of c.args.templates.now in
    let nodes = nodes_of c.args.templates.now in
    let body = c.args.body.now in
    let whole = body_among nodes body in
    always (HasNoBody set whole c.args.ending c.args.at) c.fault.result
    (body_unended set nodes body c.loop-i.i c.loop-i.slots.items c.args.ending c.args.at c.loop-i.place c.loop-i-test.false
    c.loop-i.invariant (λ h. absurd (cc (c.if-not-is_ending.true, c.is_ending.ensures.1 h))))

pub read_body-returns-in_err-next-clause-refused : goal.read_body-returns-in_err-next-clause-refused
read_body-returns-in_err-next-clause-refused t c =
    let set = tree_of c.args.templates.now in
    let nodes = nodes_of c.args.templates.now in
    let body = c.args.body.now in
    let whole = body_among nodes body in
    let p = err_from_is_err_and c.from_residual-in_err-next.result c.from_residual-in_err-next.ensures.1 in
    rw p.1 (subst (OnBadLine (HasNoBody set whole c.args.ending c.args.at)) (sym p.2)
    (on_bad (HasNoNext c.loop-i.place) (HasNoBody set whole c.args.ending c.args.at)
    (λ none. place_refused set whole (body_among nodes (drop c.loop-i.i body)) c.loop-i.slots.items c.args.ending c.args.at c.loop-i.place
    c.loop-i.invariant none)
    c.in_err-next.field-0.0 (c.in_err-next.ensures.refused)))

pub read_item-returns-in_err-next-in-Group-clause-refused : goal.read_item-returns-in_err-next-in-Group-clause-refused
read_item-returns-in_err-next-in-Group-clause-refused t c =
    let set = tree_of c.args.templates.now in
    let nodes = nodes_of c.args.templates.now in
    let n = c.args.node in
    let v = c.node.result.now in
    let i = instruction_in nodes n in
    let p = err_from_is_err_and c.from_residual.result c.from_residual.ensures.1 in
    rw p.1 (subst (OnBadLine (HasNoItem set i c.args.at)) (sym p.2) (on_bad (HasNoNext c.args.at) (HasNoItem set i c.args.at)
    (λ none. item_next set i c.args.at none)
    c.in_err-next-in-Group.field-0.0 (c.in_err-next-in-Group.ensures.refused)))

pub read_item-returns-in_err-slots-in-Group-clause-refused : goal.read_item-returns-in_err-slots-in-Group-clause-refused
read_item-returns-in_err-slots-in-Group-clause-refused t c =
    let set = tree_of c.args.templates.now in
    let nodes = nodes_of c.args.templates.now in
    let n = c.args.node in
    let v = c.node.result.now in
    let i = instruction_in nodes n in
    let inner = body_among nodes c.in-Group.body.items in
    let p = err_from_is_err_and c.from_residual-in_err-slots-in-Group.result c.from_residual-in_err-slots-in-Group.ensures.1 in
    rw p.1 (subst (OnBadLine (HasNoItem set i c.args.at)) (sym p.2)
    (on_bad (HasNoBody set inner Ends.Group c.in_ok-next-in-Group.next) (HasNoItem set i c.args.at)
    (λ none. group_refused set i (label_of n v) c.in-Group.optional inner c.args.at c.in_ok-next-in-Group.next
    (at_shape nodes n v (Group c.in-Group.optional c.in-Group.body) c.node.ensures.found c.node.ensures.body c.in-Group.is)
    c.in_ok-next-in-Group.ensures.ok none)
    c.in_err-slots-in-Group.field-0.0 (rw c.deref.ensures.value at c.in_err-slots-in-Group.ensures.refused)))

pub read_item-returns-in_err-next-in-Sequence-clause-refused : goal.read_item-returns-in_err-next-in-Sequence-clause-refused
read_item-returns-in_err-next-in-Sequence-clause-refused t c =
    let set = tree_of c.args.templates.now in
    let nodes = nodes_of c.args.templates.now in
    let n = c.args.node in
    let v = c.node.result.now in
    let i = instruction_in nodes n in
    let p = err_from_is_err_and c.from_residual-in_err-next-in-Sequence.result c.from_residual-in_err-next-in-Sequence.ensures.1 in
    rw p.1 (subst (OnBadLine (HasNoItem set i c.args.at)) (sym p.2) (on_bad (HasNoNext c.args.at) (HasNoItem set i c.args.at)
    (λ none. item_next set i c.args.at none)
    c.in_err-next-in-Sequence.field-0.0 (c.in_err-next-in-Sequence.ensures.refused)))

pub read_item-returns-in_err-rows-in-Sequence-clause-refused : goal.read_item-returns-in_err-rows-in-Sequence-clause-refused
read_item-returns-in_err-rows-in-Sequence-clause-refused t c =
    let set = tree_of c.args.templates.now in
    let nodes = nodes_of c.args.templates.now in
    let n = c.args.node in
    let v = c.node.result.now in
    let i = instruction_in nodes n in
    let inner = body_among nodes c.in-Sequence.body.items in
    let p = err_from_is_err_and c.from_residual-in_err-rows-in-Sequence.result c.from_residual-in_err-rows-in-Sequence.ensures.1 in
    rw p.1 (subst (OnBadLine (HasNoItem set i c.args.at)) (sym p.2)
    (on_bad (HasNoRows set inner c.count_of-count.result c.in_ok-next-in-Sequence.next) (HasNoItem set i c.args.at)
    (λ none. sequence_refused set i (label_of n v) (field_data c.in-Sequence.length) inner c.count_of-count.result c.args.at
    c.in_ok-next-in-Sequence.next (at_shape nodes n v (Sequence c.in-Sequence.length c.in-Sequence.body) c.node.ensures.found
    c.node.ensures.body c.in-Sequence.is) c.count_of-count.ensures c.in_ok-next-in-Sequence.ensures.ok none)
    c.in_err-rows-in-Sequence.field-0.0 (rw c.deref-in-Sequence.ensures.value at c.in_err-rows-in-Sequence.ensures.refused)))

pub read_rows-returns-then-has_all-clause-refused : goal.read_rows-returns-then-has_all-clause-refused
read_rows-returns-then-has_all-clause-refused t c =
    let set = tree_of c.args.templates.now in
    let body = body_among (nodes_of c.args.templates.now) c.args.body.now in
    let rs = c.loop-rows.rows.items in
    let long : c.len.result ≡ length rs = c.len.ensures ∙ c.loop-rows.rows.ok.0 in
    let all : length rs ≡ c.args.count = sym long ∙ c.has_all.ensures.0 c.if-has_all.true in
    always (HasNoRows set body c.args.count c.args.at) c.fault.result
    (rows_surplus set body rs c.args.count c.args.at c.loop-rows.place c.loop-rows.invariant.read
    (c.is_element.ensures.0 c.loop-rows-test.true) all)

pub read_rows-returns-in_err-next-clause-refused : goal.read_rows-returns-in_err-next-clause-refused
read_rows-returns-in_err-next-clause-refused t c =
    let set = tree_of c.args.templates.now in
    let body = body_among (nodes_of c.args.templates.now) c.args.body.now in
    let rs = c.loop-rows.rows.items in
    let p = err_from_is_err_and c.from_residual.result c.from_residual.ensures.1 in
    rw p.1 (subst (OnBadLine (HasNoRows set body c.args.count c.args.at)) (sym p.2)
    (on_bad (HasNoNext c.loop-rows.place) (HasNoRows set body c.args.count c.args.at)
    (λ none. rows_next set body rs c.args.count c.args.at c.loop-rows.place c.loop-rows.invariant.read none)
    c.in_err-next.field-0.0 (c.in_err-next.ensures.refused)))

pub read_rows-returns-in_err-row-clause-refused : goal.read_rows-returns-in_err-row-clause-refused
read_rows-returns-in_err-row-clause-refused t c =
    let set = tree_of c.args.templates.now in
    let body = body_among (nodes_of c.args.templates.now) c.args.body.now in
    let rs = c.loop-rows.rows.items in
    let p = err_from_is_err_and c.from_residual-in_err-row.result c.from_residual-in_err-row.ensures.1 in
    rw p.1 (subst (OnBadLine (HasNoRows set body c.args.count c.args.at)) (sym p.2)
    (on_bad (HasNoBody set body Ends.Element c.in_ok-next.next) (HasNoRows set body c.args.count c.args.at)
    (λ none. rows_element set body rs c.args.count c.args.at c.loop-rows.place c.loop-rows.invariant.read c.in_ok-next.next
    (c.is_element.ensures.0 c.loop-rows-test.true) c.in_ok-next.ensures.ok none)
    c.in_err-row.field-0.0 (c.in_err-row.ensures.refused)))

pub read_rows-returns-then-not-is_sequence_end-clause-refused : goal.read_rows-returns-then-not-is_sequence_end-clause-refused
read_rows-returns-then-not-is_sequence_end-clause-refused t c =
    let set = tree_of c.args.templates.now in
    let body = body_among (nodes_of c.args.templates.now) c.args.body.now in
    let rs = c.loop-rows.rows.items in
    always (HasNoRows set body c.args.count c.args.at) c.fault-then-not-is_sequence_end.result
    (rows_misplaced set body rs c.args.count c.args.at c.loop-rows.place c.loop-rows.invariant.read
    (λ h. absurd (cc (c.loop-rows-test.false, c.is_element.ensures.1 h)))
    (λ h. absurd (cc (c.if-not-is_sequence_end.true, c.is_sequence_end.ensures.1 h))))

pub read_rows-returns-then-lacks_some-clause-refused : goal.read_rows-returns-then-lacks_some-clause-refused
read_rows-returns-then-lacks_some-clause-refused t c =
    let set = tree_of c.args.templates.now in
    let body = body_among (nodes_of c.args.templates.now) c.args.body.now in
    let rs = c.loop-rows.rows.items in
    let long : c.len-2.result ≡ length rs = c.len-2.ensures ∙ c.loop-rows.rows.ok.0 in
    let few : length rs < c.args.count = omega (arith, long, c.lacks_some.ensures.0 c.if-lacks_some.true) in
    always (HasNoRows set body c.args.count c.args.at) c.fault-then-lacks_some.result
    (rows_missing set body rs c.args.count c.args.at c.loop-rows.place c.loop-rows.invariant.read
    (λ h. absurd (cc (c.loop-rows-test.false, c.is_element.ensures.1 h))) few)

pub read_rows-returns-in_err-next-2-clause-refused : goal.read_rows-returns-in_err-next-2-clause-refused
read_rows-returns-in_err-next-2-clause-refused t c =
    let set = tree_of c.args.templates.now in
    let body = body_among (nodes_of c.args.templates.now) c.args.body.now in
    let rs = c.loop-rows.rows.items in
    let p = err_from_is_err_and c.from_residual-in_err-next-2.result c.from_residual-in_err-next-2.ensures.1 in
    rw p.1 (subst (OnBadLine (HasNoRows set body c.args.count c.args.at)) (sym p.2)
    (on_bad (HasNoNext c.loop-rows.place) (HasNoRows set body c.args.count c.args.at)
    (λ none. rows_next set body rs c.args.count c.args.at c.loop-rows.place c.loop-rows.invariant.read none)
    c.in_err-next-2.field-0.0 (c.in_err-next-2.ensures.refused)))

pub read_body-returns-in_err-item-clause-ok : goal.read_body-returns-in_err-item-clause-ok
read_body-returns-in_err-item-clause-ok t c = on_handed_on _ _ c.from_residual.result c.from_residual.ensures.1

pub read_body-returns-in_err-push-clause-ok : goal.read_body-returns-in_err-push-clause-ok
read_body-returns-in_err-push-clause-ok t c = on_handed_on _ _ c.from_residual-in_err-push.result c.from_residual-in_err-push.ensures.1

pub read_body-returns-in_err-push-2-clause-ok : goal.read_body-returns-in_err-push-2-clause-ok
read_body-returns-in_err-push-2-clause-ok t c = on_handed_on _ _ c.from_residual-in_err-push-2.result c.from_residual-in_err-push-2.ensures.1

pub read_body-returns-in_err-next-clause-ok : goal.read_body-returns-in_err-next-clause-ok
read_body-returns-in_err-next-clause-ok t c = on_handed_on _ _ c.from_residual-in_err-next.result c.from_residual-in_err-next.ensures.1

pub read_item-returns-in_err-next-in-Group-clause-ok : goal.read_item-returns-in_err-next-in-Group-clause-ok
read_item-returns-in_err-next-in-Group-clause-ok t c = on_handed_on _ _ c.from_residual.result c.from_residual.ensures.1

pub read_item-returns-in_err-slots-in-Group-clause-ok : goal.read_item-returns-in_err-slots-in-Group-clause-ok
read_item-returns-in_err-slots-in-Group-clause-ok t c =
    on_handed_on _ _ c.from_residual-in_err-slots-in-Group.result c.from_residual-in_err-slots-in-Group.ensures.1

pub read_item-returns-in_err-next-in-Sequence-clause-ok : goal.read_item-returns-in_err-next-in-Sequence-clause-ok
read_item-returns-in_err-next-in-Sequence-clause-ok t c =
    on_handed_on _ _ c.from_residual-in_err-next-in-Sequence.result c.from_residual-in_err-next-in-Sequence.ensures.1

pub read_item-returns-in_err-rows-in-Sequence-clause-ok : goal.read_item-returns-in_err-rows-in-Sequence-clause-ok
read_item-returns-in_err-rows-in-Sequence-clause-ok t c =
    on_handed_on _ _ c.from_residual-in_err-rows-in-Sequence.result c.from_residual-in_err-rows-in-Sequence.ensures.1

pub read_rows-returns-in_err-next-clause-ok : goal.read_rows-returns-in_err-next-clause-ok
read_rows-returns-in_err-next-clause-ok t c = on_handed_on _ _ c.from_residual.result c.from_residual.ensures.1

pub read_rows-returns-in_err-row-clause-ok : goal.read_rows-returns-in_err-row-clause-ok
read_rows-returns-in_err-row-clause-ok t c = on_handed_on _ _ c.from_residual-in_err-row.result c.from_residual-in_err-row.ensures.1

pub read_rows-returns-in_err-push-clause-ok : goal.read_rows-returns-in_err-push-clause-ok
read_rows-returns-in_err-push-clause-ok t c = on_handed_on _ _ c.from_residual-in_err-push.result c.from_residual-in_err-push.ensures.1

pub read_rows-returns-in_err-next-2-clause-ok : goal.read_rows-returns-in_err-next-2-clause-ok
read_rows-returns-in_err-next-2-clause-ok t c = on_handed_on _ _ c.from_residual-in_err-next-2.result c.from_residual-in_err-next-2.ensures.1

pub read_item-read_value-requires-clause-node : goal.read_item-read_value-requires-clause-node
read_item-read_value-requires-clause-node t c = c.requires.node

pub read_item-read_value-requires-clause-named : goal.read_item-read_value-requires-clause-named
read_item-read_value-requires-clause-named t c = c.requires.named

pub read_item-returns-in-Field-clause-ok : goal.read_item-returns-in-Field-clause-ok
read_item-returns-in-Field-clause-ok t c = c.read_value.ensures.ok

pub read_item-returns-in-Field-clause-line : goal.read_item-returns-in-Field-clause-line
read_item-returns-in-Field-clause-line t c = c.read_value.ensures.line

pub read_item-returns-in-Field-clause-refused : goal.read_item-returns-in-Field-clause-refused
read_item-returns-in-Field-clause-refused t c = c.read_value.ensures.refused

pub read_body-returns-else-may_be_passed-clause-ok : goal.read_body-returns-else-may_be_passed-clause-ok
read_body-returns-else-may_be_passed-clause-ok t c = tt

pub read_body-returns-then-not-is_ending-clause-ok : goal.read_body-returns-then-not-is_ending-clause-ok
read_body-returns-then-not-is_ending-clause-ok t c = tt

pub read_rows-returns-then-has_all-clause-ok : goal.read_rows-returns-then-has_all-clause-ok
read_rows-returns-then-has_all-clause-ok t c = tt

pub read_rows-returns-then-not-is_sequence_end-clause-ok : goal.read_rows-returns-then-not-is_sequence_end-clause-ok
read_rows-returns-then-not-is_sequence_end-clause-ok t c = tt

pub read_rows-returns-then-lacks_some-clause-ok : goal.read_rows-returns-then-lacks_some-clause-ok
read_rows-returns-then-lacks_some-clause-ok t c = tt

pub read_body-returns-clause-line : goal.read_body-returns-clause-line
read_body-returns-clause-line t c = tt

pub read_body-returns-clause-refused : goal.read_body-returns-clause-refused
read_body-returns-clause-refused t c = tt

pub read_rows-returns-clause-line : goal.read_rows-returns-clause-line
read_rows-returns-clause-line t c = tt

pub read_rows-returns-clause-refused : goal.read_rows-returns-clause-refused
read_rows-returns-clause-refused t c = tt

pub read_item-returns-in_ok-slots-in-Group-clause-line : goal.read_item-returns-in_ok-slots-in-Group-clause-line
read_item-returns-in_ok-slots-in-Group-clause-line t c = tt

pub read_item-returns-in_ok-slots-in-Group-clause-refused : goal.read_item-returns-in_ok-slots-in-Group-clause-refused
read_item-returns-in_ok-slots-in-Group-clause-refused t c = tt

pub read_item-returns-in_ok-rows-in-Sequence-clause-line : goal.read_item-returns-in_ok-rows-in-Sequence-clause-line
read_item-returns-in_ok-rows-in-Sequence-clause-line t c = tt

pub read_item-returns-in_ok-rows-in-Sequence-clause-refused : goal.read_item-returns-in_ok-rows-in-Sequence-clause-refused
read_item-returns-in_ok-rows-in-Sequence-clause-refused t c = tt

pub read_body-read_item-requires : goal.read_body-read_item-requires
read_body-read_item-requires t c =
    let inside : c.loop-i.i < length c.args.body.now = omega arith in
    let d : 3 * length (ahead c.args.at) + 2 ≡ t = c.decreases in
    let shorter = said_shorter (tree_of c.args.templates.now) c.loop-i.invariant.read c.args.at c.loop-i.place c.loop-i.invariant.said in
    let smaller : 3 * length (ahead c.loop-i.place) + 1 < t = omega (arith, d, shorter) in
    (smaller, (c.requires c.loop-i.i inside, c.names.ensures.0 c.if-names.true))

pub read_item-read_body-requires : goal.read_item-read_body-requires
read_item-read_body-requires t c =
    let d : 3 * length (ahead c.args.at) + 1 ≡ t = c.decreases in
    let shorter = advance_shorter c.args.at c.in_ok-next-in-Group.next c.in_ok-next-in-Group.ensures.ok in
    let smaller : 3 * length (ahead c.in_ok-next-in-Group.next) + 2 < t = omega (arith, d, shorter) in
    let shape = Group c.in-Group.optional c.in-Group.body in
    let later = subst (λ (z : Shape). AreBetween c.args.node (length (nodes_of c.args.templates.now)) (numbers_of z)) c.in-Group.is c.node.ensures.body in
    (smaller, rw c.deref.ensures.value (λ k h. (later k h).1))

pub read_item-read_rows-requires : goal.read_item-read_rows-requires
read_item-read_rows-requires t c =
    let d : 3 * length (ahead c.args.at) + 1 ≡ t = c.decreases in
    let shorter = advance_shorter c.args.at c.in_ok-next-in-Sequence.next c.in_ok-next-in-Sequence.ensures.ok in
    let smaller : 3 * length (ahead c.in_ok-next-in-Sequence.next) + 2 < t = omega (arith, d, shorter) in
    let later = subst (λ (z : Shape). AreBetween c.args.node (length (nodes_of c.args.templates.now)) (numbers_of z)) c.in-Sequence.is c.node.ensures.body in
    (smaller, rw c.deref-in-Sequence.ensures.value (λ k h. (later k h).1))

pub read_rows-read_body-requires : goal.read_rows-read_body-requires
read_rows-read_body-requires t c =
    let d : 3 * length (ahead c.args.at) + 2 ≡ t = c.decreases in
    let shorter = said_shorter (tree_of c.args.templates.now) _ c.args.at c.loop-rows.place c.loop-rows.invariant.read.said in
    let next = advance_shorter c.loop-rows.place c.in_ok-next.next c.in_ok-next.ensures.ok in
    let smaller : 3 * length (ahead c.in_ok-next.next) + 2 < t = omega (arith, d, shorter, next) in
    (smaller, c.requires)

pub read_rows-loop-rows-smaller : goal.read_rows-loop-rows-smaller
read_rows-loop-rows-smaller t c =
    let shorter = advance_shorter c.loop-rows.place c.in_ok-next.next c.in_ok-next.ensures.ok in
    let next = said_shorter (tree_of c.args.templates.now) _ c.in_ok-next.next c.in_ok-row.next c.in_ok-row.ensures.ok.said in
    let smaller : length (ahead c.in_ok-row.next) < length (ahead c.loop-rows.place) = omega (arith, shorter, next) in
    smaller

pub read_body-loop-i-smaller : goal.read_body-loop-i-smaller
read_body-loop-i-smaller t c =
    let smaller : length c.args.body.now - (c.loop-i.i + 1) < length c.args.body.now - c.loop-i.i = omega arith in
    smaller
