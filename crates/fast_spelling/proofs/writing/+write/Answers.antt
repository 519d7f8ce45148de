-- Slots, groups and sequences are written as they are encoded.
use Rattle.std.proofs.Common.{◌≡◌, ◌<◌, ◌≤◌, ◌+◌, ◌*◌, ℕ, List, inl, inr, get_or, length, ap, sym, subst, ◌∙◌, arith}
use Rattle.std.specs.Prelude.{true, drop, nat_lt, Option, Some, None, slice_index}
use Rattle.std.proofs.lemmas.Result.{err_from_is_err_and}
use mathlib.Core.List.{not-mem-nil}
use Rattle.fast_value.specs.declared.messages.Item.{Item}
use Rattle.fast_value.specs.meaning.Kinds.{ScalarData, U, text_of}
use Rattle.fast_value.specs.meaning.Messages.{ItemData, one, group as group_item, sequence as sequence_item, count}
use Rattle.fast_value.specs.meaning.Values.{value_data}
use Rattle.fast_value.specs.meaning.Views.{item_data, slots_data, elements_data}
use Rattle.fast_value.proofs.ItemViews.{item_data-One, item_data-Group, item_data-Sequence, count-elements_data}
use Rattle.fast_tree.specs.declared.instructions.Shape.TheVariants.{Field, Decimal, Group, Sequence}
use Rattle.fast_tree.specs.meaning.Nodes.{label_of, body_among}
use Rattle.fast_template.specs.meaning.Flat.{nodes_of, tree_of, field_data}
use Rattle.fast_tree.specs.device.Bodies.{instruction_among}
use Rattle.fast_spelling.specs.device.Drafts.{IsTold}
use Rattle.fast_tree.specs.meaning.Tree.{FieldData}
use Rattle.fast_spelling.specs.device.Nodes.{instruction_in, Keeps}
use Rattle.fast_spelling.specs.meaning.Refusals.{HaveNoMap, RefusesField, Refuses, RefusesBody}
use Rattle.fast_spelling.proofs.encodings.Instructions.{at_shape, usable_at, short_at, served, told, told_at, suits_as, encodes_as}
use Rattle.fast_spelling.proofs.encodings.Instructions.{refuses_as, field_encodes, field_refuses, decimal_encodes, decimal_refuses}
use Rattle.fast_spelling.proofs.encodings.Instructions.{group_encodes, group_refuses, sequence_encodes, length_refuses, elements_refuse}
use Rattle.fast_spelling.proofs.encodings.Instructions.{IsWithinOption}
use Rattle.fast_spelling.proofs.bytes.Spelling.{on_ok}
use Rattle.fast_spelling.proofs.limits.Depths.{item_depth, slots_depth, rows_depth, slot_depth, row_depth}
use Rattle.std.specs.declared.vec.Vec.{Vec}
use Rattle.std.specs.declared.alloc.Global.{Global}
use Rattle.fast_spelling.specs.declared.faults.EncodeFault.{EncodeFault}
use Rattle.fast_spelling.specs.declared.faults.EncodeFault.TheVariants.{E3}
use Rattle.fast_spelling.specs.meaning.Encoding.{EncodesField, EncodesBody, EncodesSegment, EncodesElements}
use Rattle.fast_spelling.specs.device.Fields.{Wrote}
use Rattle.fast_tree.specs.declared.instructions.Shape.{Shape}
use Rattle.fast_tree.specs.meaning.Numbers.{numbers_of, AreBetween}
use Rattle.fast_spelling.proofs.encodings.Progress.{written_start, more_at, refused_at, suits_more, fits_more, all_written, ready_kept}
use Rattle.fast_spelling.proofs.encodings.Progress.{keeps_on, keeps_all, on_both, suits_here, fits_here, closed, unclosed, row_more}
use Rattle.fast_spelling.proofs.encodings.Progress.{row_refused, row_right, row_fits, rows_start, rows_done, has_bits, on_handed_on}
use Rattle.fast_spelling.proofs.writing.+write.Goals as goal
use Rattle.fast_spelling.proofs.writing.+write.Goals.{write_body-in-None+in_ok-write_absent-in-None, write_body-in-Some+in_ok-write_item-in-Some}

pub write_body-loop-i-init : goal.write_body-loop-i-init
write_body-loop-i-init t c =
    record {
      written = written_start c.args.limits (body_among (nodes_of c.args.templates.now) c.args.body.now)
          (slots_data c.args.slots.now) c.args.ledger.now.now c.args.draft.now;
      suits = c.requires.suits;
      fits = c.requires.fits;
      ready = c.requires.ready;
      keeps = keeps_all c.args.ledger.now;
    }

pub write_body-returns-in_err-write_absent-in-None-clause-err : goal.write_body-returns-in_err-write_absent-in-None-clause-err
write_body-returns-in_err-write_absent-in-None-clause-err t c =
    let p = err_from_is_err_and c.from_residual.result c.from_residual.ensures.1 in
    let nodes = nodes_of c.args.templates.now in
    let i = c.loop-i.i in
    let f = c.in_err-write_absent-in-None.field-0.0 in
    let Q = RefusesBody c.args.limits (body_among nodes c.args.body.now) c.args.ledger.now.now (slots_data c.args.slots.now) in
    let h = told_at (Refuses c.args.limits (instruction_in nodes (slice_index c.args.body.now i)) c.loop-i.ledger.now None) Q f
    c.in_err-write_absent-in-None.ensures.err
    (λ r. refused_at c.args.limits nodes c.args.body.now c.args.slots.now i None (omega arith) c.loop-i-test.true
    (sym c.in-None.is ∙ c.index-slots-i.is ∙ ap (λ (z : Option Item). get_or c.args.slots.now i z) c.in-None.is) c.args.ledger.now.now
    c.args.draft.now c.loop-i.ledger.now c.loop-i.draft f c.loop-i.invariant.written r) in
    rw p.1 (subst (IsTold Q) (sym p.2) h)

pub write_body-returns-in_err-write_item-in-Some-clause-err : goal.write_body-returns-in_err-write_item-in-Some-clause-err
write_body-returns-in_err-write_item-in-Some-clause-err t c =
    let p = err_from_is_err_and c.from_residual-in_err-write_item-in-Some.result c.from_residual-in_err-write_item-in-Some.ensures.1 in
    let nodes = nodes_of c.args.templates.now in
    let i = c.loop-i.i in
    let f = c.in_err-write_item-in-Some.field-0.0 in
    let Q = RefusesBody c.args.limits (body_among nodes c.args.body.now) c.args.ledger.now.now (slots_data c.args.slots.now) in
    let h = told_at (Refuses c.args.limits (instruction_in nodes (slice_index c.args.body.now i)) c.loop-i.ledger.now
    (Some (item_data c.in-Some.item))) Q f c.in_err-write_item-in-Some.ensures.err
    (λ r. refused_at c.args.limits nodes c.args.body.now c.args.slots.now i (Some c.in-Some.item) (omega arith) c.loop-i-test.true
    (sym c.in-Some.is ∙ c.index-slots-i.is ∙ ap (λ (z : Option Item). get_or c.args.slots.now i z) c.in-Some.is) c.args.ledger.now.now
    c.args.draft.now c.loop-i.ledger.now c.loop-i.draft f c.loop-i.invariant.written r) in
    rw p.1 (subst (IsTold Q) (sym p.2) h)

pub write_body-loop-i-preserved : goal.write_body-loop-i-preserved
write_body-loop-i-preserved t c =
    elim c.match-slot.branch [
      | write_body-in-None+in_ok-write_absent-in-None w ↦
          let nodes = nodes_of c.args.templates.now in
          let i = c.loop-i.i in
          let inside : i < length c.args.body.now = omega arith in
          let slot = sym w.in-None.is ∙ c.index-slots-i.is ∙ ap (λ (z : Option Item). get_or c.args.slots.now i z) w.in-None.is in
          rw (w.draft-is, w.ledger-is) (record {
            written = more_at c.args.limits nodes c.args.body.now c.args.slots.now i None inside c.loop-i-test.true slot
                c.args.ledger.now.now c.args.draft.now c.loop-i.ledger.now w.write_absent.new.ledger.now c.loop-i.draft
                w.write_absent.new.draft c.loop-i.invariant.written w.in_ok-write_absent-in-None.ensures.ok;
            suits = suits_more c.args.limits nodes c.args.body.now c.args.slots.now i None inside c.loop-i-test.true slot c.loop-i.invariant.suits;
            fits = fits_more c.args.limits nodes c.args.body.now c.args.slots.now i None inside c.loop-i-test.true slot c.loop-i.invariant.fits;
            ready = ready_kept c.args.templates.now c.args.limits c.loop-i.ledger w.write_absent.new.ledger c.loop-i.invariant.ready
                w.write_absent.ensures.keeps;
            keeps = keeps_on c.args.ledger.now c.loop-i.ledger w.write_absent.new.ledger c.loop-i.invariant.keeps w.write_absent.ensures.keeps;
          })
      | write_body-in-Some+in_ok-write_item-in-Some w ↦
          let nodes = nodes_of c.args.templates.now in
          let i = c.loop-i.i in
          let inside : i < length c.args.body.now = omega arith in
          let slot = sym w.in-Some.is ∙ c.index-slots-i.is ∙ ap (λ (z : Option Item). get_or c.args.slots.now i z) w.in-Some.is in
          rw (w.draft-is, w.ledger-is) (record {
            written = more_at c.args.limits nodes c.args.body.now c.args.slots.now i
                (Some w.in-Some.item) inside c.loop-i-test.true slot c.args.ledger.now.now c.args.draft.now c.loop-i.ledger.now
                w.write_item.new.ledger.now c.loop-i.draft w.write_item.new.draft c.loop-i.invariant.written
                w.in_ok-write_item-in-Some.ensures.ok;
            suits = suits_more c.args.limits nodes c.args.body.now c.args.slots.now i
                (Some w.in-Some.item) inside c.loop-i-test.true slot c.loop-i.invariant.suits;
            fits = fits_more c.args.limits nodes c.args.body.now c.args.slots.now i
                (Some w.in-Some.item) inside c.loop-i-test.true slot c.loop-i.invariant.fits;
            ready = ready_kept c.args.templates.now c.args.limits c.loop-i.ledger w.write_item.new.ledger c.loop-i.invariant.ready w.write_item.ensures.keeps;
            keeps = keeps_on c.args.ledger.now c.loop-i.ledger w.write_item.new.ledger c.loop-i.invariant.keeps w.write_item.ensures.keeps;
          })
    ]

pub write_body-returns-clause-ok : goal.write_body-returns-clause-ok
write_body-returns-clause-ok t c =
    all_written c.args.limits (nodes_of c.args.templates.now) c.args.body.now c.args.slots.now c.loop-i.i c.args.ledger.now.now
    c.args.draft.now c.loop-i.ledger.now c.loop-i.draft c.loop-i-test.false c.loop-i.invariant.suits c.loop-i.invariant.written

pub write_item-write_field-requires-clause-served : goal.write_item-write_field-requires-clause-served
write_item-write_field-requires-clause-served t c =
    served c.args.templates.now c.args.limits c.args.ledger.now (field_data c.in-Field-One.field) c.requires.ready
    (usable_at (tree_of c.args.templates.now).entries c.node.result.now
    (Field c.in-Field-One.field) c.in-Field-One.is-0 c.node.ensures.usable)
    (λ m none long. short_at (nodes_of c.args.templates.now) c.args.node c.node.result.now
    (Field c.in-Field-One.field) m c.node.ensures.found c.in-Field-One.is-0 none long)

pub write_item-write_field-requires-clause-suited : goal.write_item-write_field-requires-clause-suited
write_item-write_field-requires-clause-suited t c =
    let nodes = nodes_of c.args.templates.now in
    let v = c.node.result.now in
    let at = label_of c.args.node v in
    let i = instruction_in nodes c.args.node in
    let j = instruction_among nodes at (Field c.in-Field-One.field) in
    let y : Option ItemData = Some (one (value_data c.in-Field-One.value)) in
    let here : i ≡ j = at_shape nodes c.args.node v (Field c.in-Field-One.field) c.node.ensures.found c.node.ensures.body c.in-Field-One.is-0 in
    let item : Some (item_data c.args.item.now) ≡ y = ap (λ (z : Item). Some (item_data z)) c.in-Field-One.is-1
    ∙ ap Some (item_data-One c.in-Field-One.value) in
    let right = suits_as i j (Some (item_data c.args.item.now)) y here item c.requires.suits in
    let short : length (text_of (value_data c.in-Field-One.value)) ≤ c.args.limits.max_text = subst (IsWithinOption c.args.limits) item c.requires.fits in
    rw c.as_scalar.ensures (right, subst (λ (m : ℕ). length (text_of (value_data c.in-Field-One.value)) ≤ m) c.requires.ready.room short)

pub write_item-write_decimal-requires-clause-exponent : goal.write_item-write_decimal-requires-clause-exponent
write_item-write_decimal-requires-clause-exponent t c =
    served c.args.templates.now c.args.limits c.args.ledger.now (field_data c.in-Decimal-One.exponent) c.requires.ready
    (usable_at (tree_of c.args.templates.now).entries c.node.result.now
    (Decimal c.in-Decimal-One.exponent c.in-Decimal-One.mantissa) c.in-Decimal-One.is-0 c.node.ensures.usable).0
    (λ m none long. short_at (nodes_of c.args.templates.now) c.args.node c.node.result.now
    (Decimal c.in-Decimal-One.exponent c.in-Decimal-One.mantissa) m c.node.ensures.found c.in-Decimal-One.is-0 none (inl long))

pub write_item-write_decimal-requires-clause-mantissa : goal.write_item-write_decimal-requires-clause-mantissa
write_item-write_decimal-requires-clause-mantissa t c =
    served c.args.templates.now c.args.limits c.args.ledger.now (field_data c.in-Decimal-One.mantissa) c.requires.ready
    (usable_at (tree_of c.args.templates.now).entries c.node.result.now
    (Decimal c.in-Decimal-One.exponent c.in-Decimal-One.mantissa) c.in-Decimal-One.is-0 c.node.ensures.usable).1
    (λ m none long. short_at (nodes_of c.args.templates.now) c.args.node c.node.result.now
    (Decimal c.in-Decimal-One.exponent c.in-Decimal-One.mantissa) m c.node.ensures.found c.in-Decimal-One.is-0 none (inr long))

pub write_item-write_decimal-requires-clause-right : goal.write_item-write_decimal-requires-clause-right
write_item-write_decimal-requires-clause-right t c =
    suits_as (instruction_in (nodes_of c.args.templates.now) c.args.node)
    (instruction_among (nodes_of c.args.templates.now) (label_of c.args.node c.node.result.now)
    (Decimal c.in-Decimal-One.exponent c.in-Decimal-One.mantissa)) (Some (item_data c.args.item.now))
    (Some (one (value_data c.in-Decimal-One.value)))
    (at_shape (nodes_of c.args.templates.now) c.args.node c.node.result.now
    (Decimal c.in-Decimal-One.exponent c.in-Decimal-One.mantissa) c.node.ensures.found c.node.ensures.body c.in-Decimal-One.is-0)
    (ap (λ (z : Item). Some (item_data z)) c.in-Decimal-One.is-1 ∙ ap Some (item_data-One c.in-Decimal-One.value)) c.requires.suits

pub write_item-write_body-requires : goal.write_item-write_body-requires
write_item-write_body-requires t c =
    let nodes = nodes_of c.args.templates.now in
    let v = c.node.result.now in
    let at = label_of c.args.node v in
    let i = instruction_in nodes c.args.node in
    let j = instruction_among nodes at (Group c.in-Group-Group.optional c.in-Group-Group.body) in
    let y : Option ItemData = Some (group_item (slots_data c.in-Group-Group.slots.items)) in
    let here : i ≡ j = at_shape nodes c.args.node v (Group c.in-Group-Group.optional c.in-Group-Group.body) c.node.ensures.found
    c.node.ensures.body c.in-Group-Group.is-0 in
    let item : Some (item_data c.args.item.now) ≡ y = ap (λ (z : Item). Some (item_data z)) c.in-Group-Group.is-1
    ∙ ap Some (item_data-Group c.in-Group-Group.slots) in
    let right = suits_as i j (Some (item_data c.args.item.now)) y here item c.requires.suits in
    let fits = subst (IsWithinOption c.args.limits) item c.requires.fits in
    let later = subst (λ (z : Shape). AreBetween c.args.node (length nodes) (numbers_of z)) c.in-Group-Group.is-0 c.node.ensures.body in
    let d : 2 * item_depth (item_data c.args.item.now) ≡ t = c.decreases in
    let deep : item_depth (item_data c.args.item.now) ≡ item_depth (group_item (slots_data c.in-Group-Group.slots.items)) =
    ap item_depth (ap item_data c.in-Group-Group.is-1 ∙ item_data-Group c.in-Group-Group.slots) in
    let smaller : 2 * slots_depth (slots_data c.deref-in-Group-Group.result.now) + 1 < t = rw c.deref-in-Group-Group.ensures.value (omega (arith, d, deep)) in (
      smaller,
      (
        rw c.deref.ensures.value (λ k h. (later k h).1),
        (
          c.requires.ready,
          (rw (c.deref.ensures.value, c.deref-in-Group-Group.ensures.value) right, rw c.deref-in-Group-Group.ensures.value fits),
        ),
      ),
    )

pub write_item-returns-in_err-write_body-in-Group-Group-clause-err : goal.write_item-returns-in_err-write_body-in-Group-Group-clause-err
write_item-returns-in_err-write_body-in-Group-Group-clause-err t c =
    let nodes = nodes_of c.args.templates.now in
    let v = c.node.result.now in
    let at = label_of c.args.node v in
    let i = instruction_in nodes c.args.node in
    let j = instruction_among nodes at (Group c.in-Group-Group.optional c.in-Group-Group.body) in
    let y : Option ItemData = Some (group_item (slots_data c.in-Group-Group.slots.items)) in
    let here : i ≡ j = at_shape nodes c.args.node v (Group c.in-Group-Group.optional c.in-Group-Group.body) c.node.ensures.found
    c.node.ensures.body c.in-Group-Group.is-0 in
    let item : Some (item_data c.args.item.now) ≡ y = ap (λ (z : Item). Some (item_data z)) c.in-Group-Group.is-1
    ∙ ap Some (item_data-Group c.in-Group-Group.slots) in
    let p = err_from_is_err_and c.from_residual-in_err-write_body-in-Group-Group.result c.from_residual-in_err-write_body-in-Group-Group.ensures.1 in
    let f = c.in_err-write_body-in-Group-Group.field-0.0 in
    let body = body_among nodes c.in-Group-Group.body.items in
    let vs = slots_data c.in-Group-Group.slots.items in
    let Q = Refuses c.args.limits i c.args.ledger.now.now (Some (item_data c.args.item.now)) in
    let told_there = rw (c.deref.ensures.value, c.deref-in-Group-Group.ensures.value) at c.in_err-write_body-in-Group-Group.ensures.err in
    let h = told_at (RefusesBody c.args.limits body c.args.ledger.now.now vs) Q f told_there
    (λ r. refuses_as c.args.limits i j (Some (item_data c.args.item.now)) y c.args.ledger.now.now f here item
    (group_refuses c.args.limits at c.in-Group-Group.optional body vs c.args.ledger.now.now f (inl r))) in
    rw p.1 (subst (IsTold Q) (sym p.2) h)

pub write_item-write_field-requires-in-Sequence-Sequence-clause-served : goal.write_item-write_field-requires-in-Sequence-Sequence-clause-served
write_item-write_field-requires-in-Sequence-Sequence-clause-served t c =
    served c.args.templates.now c.args.limits c.args.ledger.now (field_data c.in-Sequence-Sequence.length) c.requires.ready
    (usable_at (tree_of c.args.templates.now).entries c.node.result.now
    (Sequence c.in-Sequence-Sequence.length c.in-Sequence-Sequence.body) c.in-Sequence-Sequence.is-0 c.node.ensures.usable).0
    (λ m none long. short_at (nodes_of c.args.templates.now) c.args.node c.node.result.now
    (Sequence c.in-Sequence-Sequence.length c.in-Sequence-Sequence.body) m c.node.ensures.found c.in-Sequence-Sequence.is-0 none long)

pub write_item-write_field-requires-in-Sequence-Sequence-clause-suited : goal.write_item-write_field-requires-in-Sequence-Sequence-clause-suited
write_item-write_field-requires-in-Sequence-Sequence-clause-suited t c =
    let nodes = nodes_of c.args.templates.now in
    let v = c.node.result.now in
    let at = label_of c.args.node v in
    let i = instruction_in nodes c.args.node in
    let j = instruction_among nodes at (Sequence c.in-Sequence-Sequence.length c.in-Sequence-Sequence.body) in
    let y : Option ItemData = Some (sequence_item (elements_data c.in-Sequence-Sequence.rows.items)) in
    let here : i ≡ j = at_shape nodes c.args.node v (Sequence c.in-Sequence-Sequence.length c.in-Sequence-Sequence.body)
    c.node.ensures.found c.node.ensures.body c.in-Sequence-Sequence.is-0 in
    let item : Some (item_data c.args.item.now) ≡ y = ap (λ (z : Item). Some (item_data z)) c.in-Sequence-Sequence.is-1
    ∙ ap Some (item_data-Sequence c.in-Sequence-Sequence.rows) in
    let right = suits_as i j (Some (item_data c.args.item.now)) y here item c.requires.suits in
    let long : c.len.result ≡ count (elements_data c.in-Sequence-Sequence.rows.items) = c.len.ensures ∙ c.in-Sequence-Sequence.rows.ok.0
    ∙ sym (count-elements_data c.in-Sequence-Sequence.rows.items) in (
      rw (usable_at (tree_of c.args.templates.now).entries v
          (Sequence c.in-Sequence-Sequence.length c.in-Sequence-Sequence.body) c.in-Sequence-Sequence.is-0 c.node.ensures.usable).1
          (0, omega (arith, right.1, long)),
      omega arith,
    )

pub write_item-returns-in_err-write_field-in-Sequence-Sequence-clause-err : goal.write_item-returns-in_err-write_field-in-Sequence-Sequence-clause-err
write_item-returns-in_err-write_field-in-Sequence-Sequence-clause-err t c =
    let nodes = nodes_of c.args.templates.now in
    let v = c.node.result.now in
    let at = label_of c.args.node v in
    let i = instruction_in nodes c.args.node in
    let j = instruction_among nodes at (Sequence c.in-Sequence-Sequence.length c.in-Sequence-Sequence.body) in
    let y : Option ItemData = Some (sequence_item (elements_data c.in-Sequence-Sequence.rows.items)) in
    let here : i ≡ j = at_shape nodes c.args.node v (Sequence c.in-Sequence-Sequence.length c.in-Sequence-Sequence.body)
    c.node.ensures.found c.node.ensures.body c.in-Sequence-Sequence.is-0 in
    let item : Some (item_data c.args.item.now) ≡ y = ap (λ (z : Item). Some (item_data z)) c.in-Sequence-Sequence.is-1
    ∙ ap Some (item_data-Sequence c.in-Sequence-Sequence.rows) in
    let long : c.len.result ≡ count (elements_data c.in-Sequence-Sequence.rows.items) = c.len.ensures ∙ c.in-Sequence-Sequence.rows.ok.0
    ∙ sym (count-elements_data c.in-Sequence-Sequence.rows.items) in
    let f : FieldData = field_data c.in-Sequence-Sequence.length in
    let body = body_among nodes c.in-Sequence-Sequence.body.items in
    let rows = elements_data c.in-Sequence-Sequence.rows.items in
    let p = err_from_is_err_and c.from_residual-in_err-write_field-in-Sequence-Sequence.result
    c.from_residual-in_err-write_field-in-Sequence-Sequence.ensures.1 in
    let g = c.in_err-write_field-in-Sequence-Sequence.field-0.0 in
    let Q = Refuses c.args.limits i c.args.ledger.now.now (Some (item_data c.args.item.now)) in
    let h = told_at (RefusesField f c.args.ledger.now.now (Some (U c.len.result))) Q g c.in_err-write_field-in-Sequence-Sequence.ensures.err
    (λ r. refuses_as c.args.limits i j (Some (item_data c.args.item.now)) y c.args.ledger.now.now g here item
    (length_refuses c.args.limits at f body rows c.args.ledger.now.now g
    (subst (λ (z : ℕ). RefusesField f c.args.ledger.now.now (Some (U z)) g) long r))) in
    rw p.1 (subst (IsTold Q) (sym p.2) h)

pub write_item-loop-row-init : goal.write_item-loop-row-init
write_item-loop-row-init t c =
    let nodes = nodes_of c.args.templates.now in
    let v = c.node.result.now in
    let at = label_of c.args.node v in
    let i = instruction_in nodes c.args.node in
    let j = instruction_among nodes at (Sequence c.in-Sequence-Sequence.length c.in-Sequence-Sequence.body) in
    let y : Option ItemData = Some (sequence_item (elements_data c.in-Sequence-Sequence.rows.items)) in
    let here : i ≡ j = at_shape nodes c.args.node v (Sequence c.in-Sequence-Sequence.length c.in-Sequence-Sequence.body)
    c.node.ensures.found c.node.ensures.body c.in-Sequence-Sequence.is-0 in
    let item : Some (item_data c.args.item.now) ≡ y = ap (λ (z : Item). Some (item_data z)) c.in-Sequence-Sequence.is-1
    ∙ ap Some (item_data-Sequence c.in-Sequence-Sequence.rows) in
    let body = body_among nodes c.in-Sequence-Sequence.body.items in
    let right = suits_as i j (Some (item_data c.args.item.now)) y here item c.requires.suits in
    let fits = subst (IsWithinOption c.args.limits) item c.requires.fits in
    let after = c.write_field-in-Sequence-Sequence.new in
    let kept : Keeps c.args.ledger.now after.ledger = record {
      before = c.write_field-in-Sequence-Sequence.ensures.before;
      room = c.write_field-in-Sequence-Sequence.ensures.max_text;
      count = c.write_field-in-Sequence-Sequence.ensures.length;
    } in
    record {
      written = rows_start c.args.limits body (elements_data c.deref-row-items.result.now) after.ledger.now after.draft;
      right = rw c.deref-row-items.ensures.value right.0;
      fits = rw c.deref-row-items.ensures.value fits.1;
      ready = ready_kept c.args.templates.now c.args.limits c.args.ledger.now after.ledger c.requires.ready kept;
      keeps = kept;
    }

pub write_item-write_body-requires-in-loop-row : goal.write_item-write_body-requires-in-loop-row
write_item-write_body-requires-in-loop-row t c =
    let nodes = nodes_of c.args.templates.now in
    let v = c.node.result.now in
    let at = label_of c.args.node v in
    let i = instruction_in nodes c.args.node in
    let j = instruction_among nodes at (Sequence c.in-Sequence-Sequence.length c.in-Sequence-Sequence.body) in
    let y : Option ItemData = Some (sequence_item (elements_data c.in-Sequence-Sequence.rows.items)) in
    let here : i ≡ j = at_shape nodes c.args.node v (Sequence c.in-Sequence-Sequence.length c.in-Sequence-Sequence.body)
    c.node.ensures.found c.node.ensures.body c.in-Sequence-Sequence.is-0 in
    let item : Some (item_data c.args.item.now) ≡ y = ap (λ (z : Item). Some (item_data z)) c.in-Sequence-Sequence.is-1
    ∙ ap Some (item_data-Sequence c.in-Sequence-Sequence.rows) in
    let body = body_among nodes c.in-Sequence-Sequence.body.items in
    let inv = c.loop-row.invariant in
    let later = subst (λ (z : Shape). AreBetween c.args.node (length nodes) (numbers_of z)) c.in-Sequence-Sequence.is-0 c.node.ensures.body in
    let d : 2 * item_depth (item_data c.args.item.now) ≡ t = c.decreases in
    let deep : item_depth (item_data c.args.item.now) ≡ item_depth (sequence_item (elements_data c.in-Sequence-Sequence.rows.items)) =
    ap item_depth (ap item_data c.in-Sequence-Sequence.is-1 ∙ item_data-Sequence c.in-Sequence-Sequence.rows) in
    let own : slots_depth (slots_data c.row-item.result.items) ≤ rows_depth (elements_data c.in-Sequence-Sequence.rows.items) =
    rw c.deref-row-items.ensures.value at (row_depth c.deref-row-items.result.now c.loop-row.row-index c.row-item.result
    c.loop-row-test.true c.row-item.is) in
    let smaller : 2 * slots_depth (slots_data c.deref-in-loop-row-2.result.now) + 1 < t =
    rw c.deref-in-loop-row-2.ensures.value (omega (arith, d, deep, own)) in (
      smaller,
      (
        rw c.deref-in-loop-row.ensures.value (λ k h. (later k h).1),
        (
          inv.ready,
          (
            rw (c.deref-in-loop-row.ensures.value, c.deref-in-loop-row-2.ensures.value)
                (row_right c.args.limits body c.deref-row-items.result.now c.loop-row.row-index c.row-item.result c.loop-row-test.true
                c.row-item.is inv.right).0,
            rw c.deref-in-loop-row-2.ensures.value
                (row_fits c.args.limits body c.deref-row-items.result.now c.loop-row.row-index c.row-item.result c.loop-row-test.true
                c.row-item.is inv.fits).0,
          ),
        ),
      ),
    )

pub write_item-returns-in_err-write_body-in-Sequence-Sequence-clause-err : goal.write_item-returns-in_err-write_body-in-Sequence-Sequence-clause-err
write_item-returns-in_err-write_body-in-Sequence-Sequence-clause-err t c =
    let nodes = nodes_of c.args.templates.now in
    let v = c.node.result.now in
    let at = label_of c.args.node v in
    let i = instruction_in nodes c.args.node in
    let j = instruction_among nodes at (Sequence c.in-Sequence-Sequence.length c.in-Sequence-Sequence.body) in
    let y : Option ItemData = Some (sequence_item (elements_data c.in-Sequence-Sequence.rows.items)) in
    let here : i ≡ j = at_shape nodes c.args.node v (Sequence c.in-Sequence-Sequence.length c.in-Sequence-Sequence.body)
    c.node.ensures.found c.node.ensures.body c.in-Sequence-Sequence.is-0 in
    let item : Some (item_data c.args.item.now) ≡ y = ap (λ (z : Item). Some (item_data z)) c.in-Sequence-Sequence.is-1
    ∙ ap Some (item_data-Sequence c.in-Sequence-Sequence.rows) in
    let long : c.len.result ≡ count (elements_data c.in-Sequence-Sequence.rows.items) = c.len.ensures ∙ c.in-Sequence-Sequence.rows.ok.0
    ∙ sym (count-elements_data c.in-Sequence-Sequence.rows.items) in
    let f : FieldData = field_data c.in-Sequence-Sequence.length in
    let body = body_among nodes c.in-Sequence-Sequence.body.items in
    let rows = elements_data c.in-Sequence-Sequence.rows.items in
    let first = subst (λ (z : ℕ). Wrote (EncodesField c.args.limits f c.args.ledger.now.now (Some (U z))) c.args.draft.now
    c.write_field-in-Sequence-Sequence.new.draft c.write_field-in-Sequence-Sequence.new.ledger.now) long
    (c.in_ok-write_field-in-Sequence-Sequence.ensures.ok c.args.limits c.requires.ready.room) in
    let after = c.write_field-in-Sequence-Sequence.new in
    let whole = c.deref-row-items.ensures.value in
    let inv = c.loop-row.invariant in
    let p = err_from_is_err_and c.from_residual-in_err-write_body-in-Sequence-Sequence.result
    c.from_residual-in_err-write_body-in-Sequence-Sequence.ensures.1 in
    let g = c.in_err-write_body-in-Sequence-Sequence.field-0.0 in
    let Q = Refuses c.args.limits i c.args.ledger.now.now (Some (item_data c.args.item.now)) in
    let h = told_at (RefusesBody c.args.limits body c.loop-row.ledger.now (slots_data c.row-item.result.items)) Q g
    (rw (c.deref-in-loop-row.ensures.value, c.deref-in-loop-row-2.ensures.value) at
    c.in_err-write_body-in-Sequence-Sequence.ensures.err)
    (λ r. refuses_as c.args.limits i j (Some (item_data c.args.item.now)) y c.args.ledger.now.now g here item
    (elements_refuse c.args.limits at f body rows c.args.ledger.now.now after.ledger.now c.args.draft.now after.draft g first
    (rw whole at (row_refused c.args.limits body c.deref-row-items.result.now c.loop-row.row-index c.row-item.result c.loop-row-test.true
    c.row-item.is after.ledger.now after.draft c.loop-row.ledger.now c.loop-row.draft g inv.written (inl r))))) in
    rw p.1 (subst (IsTold Q) (sym p.2) h)

pub write_item-returns-in_err-write_body-in-Sequence-Sequence-clause-keeps : goal.write_item-returns-in_err-write_body-in-Sequence-Sequence-clause-keeps
write_item-returns-in_err-write_body-in-Sequence-Sequence-clause-keeps t c =
    keeps_on c.args.ledger.now c.loop-row.ledger c.write_body-in-loop-row.new.ledger c.loop-row.invariant.keeps c.write_body-in-loop-row.ensures.keeps

pub write_item-returns-in_err-close-in-Sequence-Sequence-clause-err : goal.write_item-returns-in_err-close-in-Sequence-Sequence-clause-err
write_item-returns-in_err-close-in-Sequence-Sequence-clause-err t c =
    let nodes = nodes_of c.args.templates.now in
    let v = c.node.result.now in
    let at = label_of c.args.node v in
    let i = instruction_in nodes c.args.node in
    let j = instruction_among nodes at (Sequence c.in-Sequence-Sequence.length c.in-Sequence-Sequence.body) in
    let y : Option ItemData = Some (sequence_item (elements_data c.in-Sequence-Sequence.rows.items)) in
    let here : i ≡ j = at_shape nodes c.args.node v (Sequence c.in-Sequence-Sequence.length c.in-Sequence-Sequence.body)
    c.node.ensures.found c.node.ensures.body c.in-Sequence-Sequence.is-0 in
    let item : Some (item_data c.args.item.now) ≡ y = ap (λ (z : Item). Some (item_data z)) c.in-Sequence-Sequence.is-1
    ∙ ap Some (item_data-Sequence c.in-Sequence-Sequence.rows) in
    let long : c.len.result ≡ count (elements_data c.in-Sequence-Sequence.rows.items) = c.len.ensures ∙ c.in-Sequence-Sequence.rows.ok.0
    ∙ sym (count-elements_data c.in-Sequence-Sequence.rows.items) in
    let f : FieldData = field_data c.in-Sequence-Sequence.length in
    let body = body_among nodes c.in-Sequence-Sequence.body.items in
    let rows = elements_data c.in-Sequence-Sequence.rows.items in
    let first = subst (λ (z : ℕ). Wrote (EncodesField c.args.limits f c.args.ledger.now.now (Some (U z))) c.args.draft.now
    c.write_field-in-Sequence-Sequence.new.draft c.write_field-in-Sequence-Sequence.new.ledger.now) long
    (c.in_ok-write_field-in-Sequence-Sequence.ensures.ok c.args.limits c.requires.ready.room) in
    let after = c.write_field-in-Sequence-Sequence.new in
    let whole = c.deref-row-items.ensures.value in
    let inv = c.loop-row.invariant in
    let has = has_bits nodes c.segment_bits-in-loop-row.result v (Sequence c.in-Sequence-Sequence.length c.in-Sequence-Sequence.body)
    (c.segment_bits-in-loop-row.ensures v c.node.ensures.found) c.in-Sequence-Sequence.is-0 in
    let wrote = rw (c.deref-in-loop-row.ensures.value, c.deref-in-loop-row-2.ensures.value) at c.in_ok-write_body-in-Sequence-Sequence.ensures.ok in
    let p = err_from_is_err_and c.from_residual-in_err-close-in-Sequence-Sequence.result c.from_residual-in_err-close-in-Sequence-Sequence.ensures.1 in
    let g = c.in_err-close-in-Sequence-Sequence.field-0.0 in
    let Q = Refuses c.args.limits i c.args.ledger.now.now (Some (item_data c.args.item.now)) in
    let h = told_at (λ (e : EncodeFault). (e ≡ E3) × (nat_lt 0 c.segment_bits-in-loop-row.result ≡ true)
    × HaveNoMap (drop c.mark-mark-in-loop-row.result.bits c.write_body-in-loop-row.new.draft.bits)) Q g
    c.in_err-close-in-Sequence-Sequence.ensures.err
    (λ r. refuses_as c.args.limits i j (Some (item_data c.args.item.now)) y c.args.ledger.now.now g here item
    (elements_refuse c.args.limits at f body rows c.args.ledger.now.now after.ledger.now c.args.draft.now after.draft g first
    (rw whole at (row_refused c.args.limits body c.deref-row-items.result.now c.loop-row.row-index c.row-item.result c.loop-row-test.true
    c.row-item.is after.ledger.now after.draft c.loop-row.ledger.now c.loop-row.draft g inv.written
    (unclosed c.args.limits body (slots_data c.row-item.result.items) c.loop-row.ledger.now c.write_body-in-loop-row.new.ledger.now
    c.loop-row.draft c.write_body-in-loop-row.new.draft _ _ g c.mark-mark-in-loop-row.ensures.1 wrote has r))))) in
    rw p.1 (subst (IsTold Q) (sym p.2) h)

pub write_item-returns-in_err-close-in-Sequence-Sequence-clause-keeps : goal.write_item-returns-in_err-close-in-Sequence-Sequence-clause-keeps
write_item-returns-in_err-close-in-Sequence-Sequence-clause-keeps t c =
    keeps_on c.args.ledger.now c.loop-row.ledger c.write_body-in-loop-row.new.ledger c.loop-row.invariant.keeps c.write_body-in-loop-row.ensures.keeps

pub write_item-returns-in-Field-One-clause-ok : goal.write_item-returns-in-Field-One-clause-ok
write_item-returns-in-Field-One-clause-ok t c =
    let nodes = nodes_of c.args.templates.now in
    let v = c.node.result.now in
    let at = label_of c.args.node v in
    let i = instruction_in nodes c.args.node in
    let j = instruction_among nodes at (Field c.in-Field-One.field) in
    let y : Option ItemData = Some (one (value_data c.in-Field-One.value)) in
    let here : i ≡ j = at_shape nodes c.args.node v (Field c.in-Field-One.field) c.node.ensures.found c.node.ensures.body c.in-Field-One.is-0 in
    let item : Some (item_data c.args.item.now) ≡ y = ap (λ (z : Item). Some (item_data z)) c.in-Field-One.is-1
    ∙ ap Some (item_data-One c.in-Field-One.value) in
    on_ok c.write_field.result c.write_field.ensures.ok (λ k. encodes_as c.args.limits i j
    (Some (item_data c.args.item.now)) y c.args.ledger.now.now c.args.draft.now c.write_field.new.draft c.write_field.new.ledger.now
    here item
    (field_encodes c.args.limits at (field_data c.in-Field-One.field)
    (value_data c.in-Field-One.value) c.args.ledger.now.now c.args.draft.now c.write_field.new.draft c.write_field.new.ledger.now
    (subst (λ (z : ScalarData). Wrote (EncodesField c.args.limits (field_data c.in-Field-One.field) c.args.ledger.now.now (Some z))
    c.args.draft.now c.write_field.new.draft c.write_field.new.ledger.now) c.as_scalar.ensures
    (k c.args.limits c.requires.ready.room))))

pub write_item-returns-in-Field-One-clause-err : goal.write_item-returns-in-Field-One-clause-err
write_item-returns-in-Field-One-clause-err t c =
    let nodes = nodes_of c.args.templates.now in
    let v = c.node.result.now in
    let at = label_of c.args.node v in
    let i = instruction_in nodes c.args.node in
    let j = instruction_among nodes at (Field c.in-Field-One.field) in
    let y : Option ItemData = Some (one (value_data c.in-Field-One.value)) in
    let here : i ≡ j = at_shape nodes c.args.node v (Field c.in-Field-One.field) c.node.ensures.found c.node.ensures.body c.in-Field-One.is-0 in
    let item : Some (item_data c.args.item.now) ≡ y = ap (λ (z : Item). Some (item_data z)) c.in-Field-One.is-1
    ∙ ap Some (item_data-One c.in-Field-One.value) in
    told c.write_field.result c.write_field.ensures.err (λ f k. refuses_as c.args.limits i j
    (Some (item_data c.args.item.now)) y c.args.ledger.now.now f here item
    (field_refuses c.args.limits at (field_data c.in-Field-One.field) (value_data c.in-Field-One.value) c.args.ledger.now.now f
    (subst (λ (z : ScalarData). RefusesField (field_data c.in-Field-One.field) c.args.ledger.now.now (Some z) f) c.as_scalar.ensures k)))

pub write_item-returns-in-Decimal-One-clause-ok : goal.write_item-returns-in-Decimal-One-clause-ok
write_item-returns-in-Decimal-One-clause-ok t c =
    let nodes = nodes_of c.args.templates.now in
    let v = c.node.result.now in
    let at = label_of c.args.node v in
    let i = instruction_in nodes c.args.node in
    let j = instruction_among nodes at (Decimal c.in-Decimal-One.exponent c.in-Decimal-One.mantissa) in
    let y : Option ItemData = Some (one (value_data c.in-Decimal-One.value)) in
    let here : i ≡ j = at_shape nodes c.args.node v (Decimal c.in-Decimal-One.exponent c.in-Decimal-One.mantissa) c.node.ensures.found
    c.node.ensures.body c.in-Decimal-One.is-0 in
    let item : Some (item_data c.args.item.now) ≡ y = ap (λ (z : Item). Some (item_data z)) c.in-Decimal-One.is-1
    ∙ ap Some (item_data-One c.in-Decimal-One.value) in
    on_ok c.write_decimal.result c.write_decimal.ensures.ok
    (λ k. encodes_as c.args.limits i j (Some (item_data c.args.item.now)) y c.args.ledger.now.now c.args.draft.now
    c.write_decimal.new.draft c.write_decimal.new.ledger.now here item
    (decimal_encodes c.args.limits at (field_data c.in-Decimal-One.exponent) (field_data c.in-Decimal-One.mantissa)
    (value_data c.in-Decimal-One.value) c.args.ledger.now.now c.args.draft.now c.write_decimal.new.draft c.write_decimal.new.ledger.now
    (k c.args.limits c.requires.ready.room)))

pub write_item-returns-in-Decimal-One-clause-err : goal.write_item-returns-in-Decimal-One-clause-err
write_item-returns-in-Decimal-One-clause-err t c =
    let nodes = nodes_of c.args.templates.now in
    let v = c.node.result.now in
    let at = label_of c.args.node v in
    let i = instruction_in nodes c.args.node in
    let j = instruction_among nodes at (Decimal c.in-Decimal-One.exponent c.in-Decimal-One.mantissa) in
    let y : Option ItemData = Some (one (value_data c.in-Decimal-One.value)) in
    let here : i ≡ j = at_shape nodes c.args.node v (Decimal c.in-Decimal-One.exponent c.in-Decimal-One.mantissa) c.node.ensures.found
    c.node.ensures.body c.in-Decimal-One.is-0 in
    let item : Some (item_data c.args.item.now) ≡ y = ap (λ (z : Item). Some (item_data z)) c.in-Decimal-One.is-1
    ∙ ap Some (item_data-One c.in-Decimal-One.value) in
    told c.write_decimal.result c.write_decimal.ensures.err
    (λ f k. refuses_as c.args.limits i j (Some (item_data c.args.item.now)) y c.args.ledger.now.now f here item
    (decimal_refuses c.args.limits at (field_data c.in-Decimal-One.exponent) (field_data c.in-Decimal-One.mantissa)
    (value_data c.in-Decimal-One.value) c.args.ledger.now.now f (k c.args.limits c.requires.ready.room)))

pub write_item-returns-in_ok-write_body-in-Group-Group-clause-ok : goal.write_item-returns-in_ok-write_body-in-Group-Group-clause-ok
write_item-returns-in_ok-write_body-in-Group-Group-clause-ok t c =
    let nodes = nodes_of c.args.templates.now in
    let v = c.node.result.now in
    let at = label_of c.args.node v in
    let i = instruction_in nodes c.args.node in
    let j = instruction_among nodes at (Group c.in-Group-Group.optional c.in-Group-Group.body) in
    let y : Option ItemData = Some (group_item (slots_data c.in-Group-Group.slots.items)) in
    let here : i ≡ j = at_shape nodes c.args.node v (Group c.in-Group-Group.optional c.in-Group-Group.body) c.node.ensures.found
    c.node.ensures.body c.in-Group-Group.is-0 in
    let item : Some (item_data c.args.item.now) ≡ y = ap (λ (z : Item). Some (item_data z)) c.in-Group-Group.is-1
    ∙ ap Some (item_data-Group c.in-Group-Group.slots) in
    let body = body_among nodes c.in-Group-Group.body.items in
    let vs = slots_data c.in-Group-Group.slots.items in
    let has = has_bits nodes c.segment_bits.result v (Group c.in-Group-Group.optional c.in-Group-Group.body)
    (c.segment_bits.ensures v c.node.ensures.found) c.in-Group-Group.is-0 in
    let wrote = rw (c.deref.ensures.value, c.deref-in-Group-Group.ensures.value) at c.in_ok-write_body-in-Group-Group.ensures.ok in
    let m = c.mark-mark.ensures.0 ∙ c.push_bit_if.new.self.bytes.ok.0 in
    on_both c.close.result c.close.ensures.ok c.close.ensures.bits (λ k e.
    let z = closed c.args.limits body vs c.args.ledger.now.now c.write_body.new.ledger.now c.push_bit_if.new.self c.write_body.new.draft
    c.close.new.self _ _ _ wrote has m c.mark-mark.ensures.1 k e in
    encodes_as c.args.limits i j (Some (item_data c.args.item.now)) y c.args.ledger.now.now c.args.draft.now c.close.new.self
    c.write_body.new.ledger.now here item
    (group_encodes c.args.limits at c.in-Group-Group.optional body vs c.args.ledger.now.now c.args.draft.now c.push_bit_if.new.self
    c.close.new.self z.bytes c.write_body.new.ledger.now c.in_ok-push_bit_if-in-Group-Group.ensures.bits c.push_bit_if.ensures.bytes
    z.bits_are z.bytes_are z.says))

pub write_item-returns-in_ok-write_body-in-Group-Group-clause-err : goal.write_item-returns-in_ok-write_body-in-Group-Group-clause-err
write_item-returns-in_ok-write_body-in-Group-Group-clause-err t c =
    let nodes = nodes_of c.args.templates.now in
    let v = c.node.result.now in
    let at = label_of c.args.node v in
    let i = instruction_in nodes c.args.node in
    let j = instruction_among nodes at (Group c.in-Group-Group.optional c.in-Group-Group.body) in
    let y : Option ItemData = Some (group_item (slots_data c.in-Group-Group.slots.items)) in
    let here : i ≡ j = at_shape nodes c.args.node v (Group c.in-Group-Group.optional c.in-Group-Group.body) c.node.ensures.found
    c.node.ensures.body c.in-Group-Group.is-0 in
    let item : Some (item_data c.args.item.now) ≡ y = ap (λ (z : Item). Some (item_data z)) c.in-Group-Group.is-1
    ∙ ap Some (item_data-Group c.in-Group-Group.slots) in
    let body = body_among nodes c.in-Group-Group.body.items in
    let vs = slots_data c.in-Group-Group.slots.items in
    let has = has_bits nodes c.segment_bits.result v (Group c.in-Group-Group.optional c.in-Group-Group.body)
    (c.segment_bits.ensures v c.node.ensures.found) c.in-Group-Group.is-0 in
    let wrote = rw (c.deref.ensures.value, c.deref-in-Group-Group.ensures.value) at c.in_ok-write_body-in-Group-Group.ensures.ok in
    let m = c.mark-mark.ensures.0 ∙ c.push_bit_if.new.self.bytes.ok.0 in
    told c.close.result c.close.ensures.err (λ f k. refuses_as c.args.limits i j (Some (item_data c.args.item.now)) y c.args.ledger.now.now f here item
    (group_refuses c.args.limits at c.in-Group-Group.optional body vs c.args.ledger.now.now f
    (unclosed c.args.limits body vs c.args.ledger.now.now c.write_body.new.ledger.now c.push_bit_if.new.self c.write_body.new.draft _
    _ f c.mark-mark.ensures.1 wrote has k)))

pub write_item-returns-after-loop-row-clause-ok : goal.write_item-returns-after-loop-row-clause-ok
write_item-returns-after-loop-row-clause-ok t c =
    let nodes = nodes_of c.args.templates.now in
    let v = c.node.result.now in
    let at = label_of c.args.node v in
    let i = instruction_in nodes c.args.node in
    let j = instruction_among nodes at (Sequence c.in-Sequence-Sequence.length c.in-Sequence-Sequence.body) in
    let y : Option ItemData = Some (sequence_item (elements_data c.in-Sequence-Sequence.rows.items)) in
    let here : i ≡ j = at_shape nodes c.args.node v (Sequence c.in-Sequence-Sequence.length c.in-Sequence-Sequence.body)
    c.node.ensures.found c.node.ensures.body c.in-Sequence-Sequence.is-0 in
    let item : Some (item_data c.args.item.now) ≡ y = ap (λ (z : Item). Some (item_data z)) c.in-Sequence-Sequence.is-1
    ∙ ap Some (item_data-Sequence c.in-Sequence-Sequence.rows) in
    let long : c.len.result ≡ count (elements_data c.in-Sequence-Sequence.rows.items) = c.len.ensures ∙ c.in-Sequence-Sequence.rows.ok.0
    ∙ sym (count-elements_data c.in-Sequence-Sequence.rows.items) in
    let f : FieldData = field_data c.in-Sequence-Sequence.length in
    let body = body_among nodes c.in-Sequence-Sequence.body.items in
    let rows = elements_data c.in-Sequence-Sequence.rows.items in
    let first = subst (λ (z : ℕ). Wrote (EncodesField c.args.limits f c.args.ledger.now.now (Some (U z))) c.args.draft.now
    c.write_field-in-Sequence-Sequence.new.draft c.write_field-in-Sequence-Sequence.new.ledger.now) long
    (c.in_ok-write_field-in-Sequence-Sequence.ensures.ok c.args.limits c.requires.ready.room) in
    let after = c.write_field-in-Sequence-Sequence.new in
    let whole = c.deref-row-items.ensures.value in
    let inv = c.loop-row.invariant in
    let z = rows_done c.args.limits body c.deref-row-items.result.now c.loop-row.row-index after.ledger.now after.draft
    c.loop-row.ledger.now c.loop-row.draft c.loop-row-test.false inv.written in
    encodes_as c.args.limits i j (Some (item_data c.args.item.now)) y c.args.ledger.now.now c.args.draft.now c.loop-row.draft c.loop-row.ledger.now here item
    (sequence_encodes c.args.limits at f body rows c.args.ledger.now.now after.ledger.now c.args.draft.now after.draft c.loop-row.draft z.0
    c.loop-row.ledger.now first z.1 z.2 (subst (λ (rs : List (Vec (Option Item) Global)). EncodesElements
    (EncodesSegment body (EncodesBody c.args.limits body)) after.ledger.now (elements_data rs) z.0 c.loop-row.ledger.now) whole z.3))

pub write_item-returns-after-loop-row-clause-keeps : goal.write_item-returns-after-loop-row-clause-keeps
write_item-returns-after-loop-row-clause-keeps t c =
    c.loop-row.invariant.keeps

pub write_item-loop-row-preserved : goal.write_item-loop-row-preserved
write_item-loop-row-preserved t c =
    let nodes = nodes_of c.args.templates.now in
    let v = c.node.result.now in
    let at = label_of c.args.node v in
    let i = instruction_in nodes c.args.node in
    let j = instruction_among nodes at (Sequence c.in-Sequence-Sequence.length c.in-Sequence-Sequence.body) in
    let y : Option ItemData = Some (sequence_item (elements_data c.in-Sequence-Sequence.rows.items)) in
    let here : i ≡ j = at_shape nodes c.args.node v (Sequence c.in-Sequence-Sequence.length c.in-Sequence-Sequence.body)
    c.node.ensures.found c.node.ensures.body c.in-Sequence-Sequence.is-0 in
    let item : Some (item_data c.args.item.now) ≡ y = ap (λ (z : Item). Some (item_data z)) c.in-Sequence-Sequence.is-1
    ∙ ap Some (item_data-Sequence c.in-Sequence-Sequence.rows) in
    let body = body_among nodes c.in-Sequence-Sequence.body.items in
    let inv = c.loop-row.invariant in
    let after = c.write_field-in-Sequence-Sequence.new in
    let has = has_bits nodes c.segment_bits-in-loop-row.result v (Sequence c.in-Sequence-Sequence.length c.in-Sequence-Sequence.body)
    (c.segment_bits-in-loop-row.ensures v c.node.ensures.found) c.in-Sequence-Sequence.is-0 in
    let wrote = rw (c.deref-in-loop-row.ensures.value, c.deref-in-loop-row-2.ensures.value) at c.in_ok-write_body-in-Sequence-Sequence.ensures.ok in
    let m = c.mark-mark-in-loop-row.ensures.0 ∙ c.loop-row.draft.bytes.ok.0 in
    let z = closed c.args.limits body (slots_data c.row-item.result.items) c.loop-row.ledger.now c.write_body-in-loop-row.new.ledger.now
    c.loop-row.draft c.write_body-in-loop-row.new.draft c.close-in-loop-row.new.self _ _ _
    wrote has m c.mark-mark-in-loop-row.ensures.1
    c.in_ok-close-in-Sequence-Sequence.ensures.ok c.in_ok-close-in-Sequence-Sequence.ensures.bits in
    record {
      written = row_more c.args.limits body c.deref-row-items.result.now c.loop-row.row-index c.row-item.result c.loop-row-test.true
          c.row-item.is after.ledger.now after.draft c.loop-row.ledger.now c.write_body-in-loop-row.new.ledger.now c.loop-row.draft
          c.close-in-loop-row.new.self inv.written z;
      right = (row_right c.args.limits body c.deref-row-items.result.now c.loop-row.row-index c.row-item.result c.loop-row-test.true c.row-item.is inv.right).1;
      fits = (row_fits c.args.limits body c.deref-row-items.result.now c.loop-row.row-index c.row-item.result c.loop-row-test.true c.row-item.is inv.fits).1;
      ready = ready_kept c.args.templates.now c.args.limits c.loop-row.ledger c.write_body-in-loop-row.new.ledger inv.ready
          c.write_body-in-loop-row.ensures.keeps;
      keeps = keeps_on c.args.ledger.now c.loop-row.ledger c.write_body-in-loop-row.new.ledger inv.keeps c.write_body-in-loop-row.ensures.keeps;
    }

pub write_body-write_item-requires : goal.write_body-write_item-requires
write_body-write_item-requires t c =
    let nodes = nodes_of c.args.templates.now in
    let i = c.loop-i.i in
    let inside : i < length c.args.body.now = omega arith in
    let slot = sym c.in-Some.is ∙ c.index-slots-i.is ∙ ap (λ (z : Option Item). get_or c.args.slots.now i z) c.in-Some.is in
    let d : 2 * slots_depth (slots_data c.args.slots.now) + 1 ≡ t = c.decreases in
    let deep : item_depth (item_data c.in-Some.item) ≤ slots_depth (slots_data c.args.slots.now) =
    slot_depth c.args.slots.now i c.in-Some.item c.loop-i-test.true slot in
    let smaller : 2 * item_depth (item_data c.in-Some.item) < t = omega (arith, d, deep) in (
      smaller,
      (
        c.requires.nodes i inside,
        (
          c.loop-i.invariant.ready,
          (
            suits_here c.args.limits nodes c.args.body.now c.args.slots.now i (Some c.in-Some.item) inside c.loop-i-test.true slot c.loop-i.invariant.suits,
            fits_here c.args.limits nodes c.args.body.now c.args.slots.now i (Some c.in-Some.item) inside c.loop-i-test.true slot c.loop-i.invariant.fits,
          ),
        ),
      ),
    )

pub write_item-returns-in-Field-Group-clause-err : goal.write_item-returns-in-Field-Group-clause-err
write_item-returns-in-Field-Group-clause-err t c =
    let nodes = nodes_of c.args.templates.now in
    let v = c.node.result.now in
    absurd (suits_as (instruction_in nodes c.args.node) (instruction_among nodes (label_of c.args.node v)
    (Field c.in-Field-Group.field-0-0)) (Some (item_data c.args.item.now))
    (Some (group_item (slots_data c.in-Field-Group.field-0-1.items)))
    (at_shape nodes c.args.node v (Field c.in-Field-Group.field-0-0) c.node.ensures.found c.node.ensures.body c.in-Field-Group.is-0)
    (ap (λ (z : Item). Some (item_data z)) c.in-Field-Group.is-1 ∙ ap Some (item_data-Group c.in-Field-Group.field-0-1))
    c.requires.suits)

pub write_item-returns-in-Field-Group-2-clause-err : goal.write_item-returns-in-Field-Group-2-clause-err
write_item-returns-in-Field-Group-2-clause-err t c =
    let nodes = nodes_of c.args.templates.now in
    let v = c.node.result.now in
    absurd (suits_as (instruction_in nodes c.args.node) (instruction_among nodes (label_of c.args.node v)
    (Field c.in-Field-Group.field-0-0)) (Some (item_data c.args.item.now))
    (Some (sequence_item (elements_data c.in-Field-Group.field-0-1.items)))
    (at_shape nodes c.args.node v (Field c.in-Field-Group.field-0-0) c.node.ensures.found c.node.ensures.body c.in-Field-Group.is-0)
    (ap (λ (z : Item). Some (item_data z)) c.in-Field-Group.is-1 ∙ ap Some (item_data-Sequence c.in-Field-Group.field-0-1))
    c.requires.suits)

pub write_item-returns-in-Field-Group-3-clause-err : goal.write_item-returns-in-Field-Group-3-clause-err
write_item-returns-in-Field-Group-3-clause-err t c =
    let nodes = nodes_of c.args.templates.now in
    let v = c.node.result.now in
    absurd (suits_as (instruction_in nodes c.args.node) (instruction_among nodes (label_of c.args.node v)
    (Decimal c.in-Field-Group.field-0-0 c.in-Field-Group.field-1-0)) (Some (item_data c.args.item.now))
    (Some (group_item (slots_data c.in-Field-Group.field-0-1.items)))
    (at_shape nodes c.args.node v (Decimal c.in-Field-Group.field-0-0 c.in-Field-Group.field-1-0) c.node.ensures.found c.node.ensures.body
    c.in-Field-Group.is-0) (ap (λ (z : Item). Some (item_data z)) c.in-Field-Group.is-1
    ∙ ap Some (item_data-Group c.in-Field-Group.field-0-1)) c.requires.suits)

pub write_item-returns-in-Field-Group-4-clause-err : goal.write_item-returns-in-Field-Group-4-clause-err
write_item-returns-in-Field-Group-4-clause-err t c =
    let nodes = nodes_of c.args.templates.now in
    let v = c.node.result.now in
    absurd (suits_as (instruction_in nodes c.args.node) (instruction_among nodes (label_of c.args.node v)
    (Decimal c.in-Field-Group.field-0-0 c.in-Field-Group.field-1-0)) (Some (item_data c.args.item.now))
    (Some (sequence_item (elements_data c.in-Field-Group.field-0-1.items)))
    (at_shape nodes c.args.node v (Decimal c.in-Field-Group.field-0-0 c.in-Field-Group.field-1-0) c.node.ensures.found c.node.ensures.body
    c.in-Field-Group.is-0) (ap (λ (z : Item). Some (item_data z)) c.in-Field-Group.is-1
    ∙ ap Some (item_data-Sequence c.in-Field-Group.field-0-1)) c.requires.suits)

pub write_item-returns-in-Field-Group-5-clause-err : goal.write_item-returns-in-Field-Group-5-clause-err
write_item-returns-in-Field-Group-5-clause-err t c =
    let nodes = nodes_of c.args.templates.now in
    let v = c.node.result.now in
    absurd (suits_as (instruction_in nodes c.args.node) (instruction_among nodes (label_of c.args.node v)
    (Group c.in-Field-Group.field-0-0 c.in-Field-Group.field-1-0)) (Some (item_data c.args.item.now))
    (Some (one (value_data c.in-Field-Group.field-0-1)))
    (at_shape nodes c.args.node v (Group c.in-Field-Group.field-0-0 c.in-Field-Group.field-1-0) c.node.ensures.found c.node.ensures.body
    c.in-Field-Group.is-0) (ap (λ (z : Item). Some (item_data z)) c.in-Field-Group.is-1
    ∙ ap Some (item_data-One c.in-Field-Group.field-0-1)) c.requires.suits)

pub write_item-returns-in-Field-Group-6-clause-err : goal.write_item-returns-in-Field-Group-6-clause-err
write_item-returns-in-Field-Group-6-clause-err t c =
    let nodes = nodes_of c.args.templates.now in
    let v = c.node.result.now in
    absurd (suits_as (instruction_in nodes c.args.node) (instruction_among nodes (label_of c.args.node v)
    (Group c.in-Field-Group.field-0-0 c.in-Field-Group.field-1-0)) (Some (item_data c.args.item.now))
    (Some (sequence_item (elements_data c.in-Field-Group.field-0-1.items)))
    (at_shape nodes c.args.node v (Group c.in-Field-Group.field-0-0 c.in-Field-Group.field-1-0) c.node.ensures.found c.node.ensures.body
    c.in-Field-Group.is-0) (ap (λ (z : Item). Some (item_data z)) c.in-Field-Group.is-1
    ∙ ap Some (item_data-Sequence c.in-Field-Group.field-0-1)) c.requires.suits)

pub write_item-returns-in-Field-Group-7-clause-err : goal.write_item-returns-in-Field-Group-7-clause-err
write_item-returns-in-Field-Group-7-clause-err t c =
    let nodes = nodes_of c.args.templates.now in
    let v = c.node.result.now in
    absurd (suits_as (instruction_in nodes c.args.node) (instruction_among nodes (label_of c.args.node v)
    (Sequence c.in-Field-Group.field-0-0 c.in-Field-Group.field-1-0)) (Some (item_data c.args.item.now))
    (Some (one (value_data c.in-Field-Group.field-0-1)))
    (at_shape nodes c.args.node v (Sequence c.in-Field-Group.field-0-0 c.in-Field-Group.field-1-0) c.node.ensures.found c.node.ensures.body
    c.in-Field-Group.is-0) (ap (λ (z : Item). Some (item_data z)) c.in-Field-Group.is-1
    ∙ ap Some (item_data-One c.in-Field-Group.field-0-1)) c.requires.suits)

pub write_item-returns-in-Field-Group-8-clause-err : goal.write_item-returns-in-Field-Group-8-clause-err
write_item-returns-in-Field-Group-8-clause-err t c =
    let nodes = nodes_of c.args.templates.now in
    let v = c.node.result.now in
    absurd (suits_as (instruction_in nodes c.args.node) (instruction_among nodes (label_of c.args.node v)
    (Sequence c.in-Field-Group.field-0-0 c.in-Field-Group.field-1-0)) (Some (item_data c.args.item.now))
    (Some (group_item (slots_data c.in-Field-Group.field-0-1.items)))
    (at_shape nodes c.args.node v (Sequence c.in-Field-Group.field-0-0 c.in-Field-Group.field-1-0) c.node.ensures.found c.node.ensures.body
    c.in-Field-Group.is-0) (ap (λ (z : Item). Some (item_data z)) c.in-Field-Group.is-1
    ∙ ap Some (item_data-Group c.in-Field-Group.field-0-1)) c.requires.suits)

pub write_body-returns-then-i-body-clause-keeps : goal.write_body-returns-then-i-body-clause-keeps
write_body-returns-then-i-body-clause-keeps t c = c.loop-i.invariant.keeps

pub write_body-write_absent-requires-clause-ready : goal.write_body-write_absent-requires-clause-ready
write_body-write_absent-requires-clause-ready t c = c.loop-i.invariant.ready

pub write_body-returns-in_err-write_absent-in-None-clause-keeps : goal.write_body-returns-in_err-write_absent-in-None-clause-keeps
write_body-returns-in_err-write_absent-in-None-clause-keeps t c =
    keeps_on c.args.ledger.now c.loop-i.ledger c.write_absent.new.ledger c.loop-i.invariant.keeps c.write_absent.ensures.keeps

pub write_body-returns-in_err-write_item-in-Some-clause-keeps : goal.write_body-returns-in_err-write_item-in-Some-clause-keeps
write_body-returns-in_err-write_item-in-Some-clause-keeps t c =
    keeps_on c.args.ledger.now c.loop-i.ledger c.write_item.new.ledger c.loop-i.invariant.keeps c.write_item.ensures.keeps

pub write_body-returns-clause-keeps : goal.write_body-returns-clause-keeps
write_body-returns-clause-keeps t c = c.loop-i.invariant.keeps

pub write_item-returns-in_err-push_bit_if-in-Group-Group-clause-keeps : goal.write_item-returns-in_err-push_bit_if-in-Group-Group-clause-keeps
write_item-returns-in_err-push_bit_if-in-Group-Group-clause-keeps t c = keeps_all c.args.ledger.now

pub write_item-returns-in_err-write_body-in-Group-Group-clause-keeps : goal.write_item-returns-in_err-write_body-in-Group-Group-clause-keeps
write_item-returns-in_err-write_body-in-Group-Group-clause-keeps t c = c.write_body.ensures.keeps

pub write_item-returns-in_ok-write_body-in-Group-Group-clause-keeps : goal.write_item-returns-in_ok-write_body-in-Group-Group-clause-keeps
write_item-returns-in_ok-write_body-in-Group-Group-clause-keeps t c = c.write_body.ensures.keeps

pub write_item-returns-in_err-write_field-in-Sequence-Sequence-clause-keeps : goal.write_item-returns-in_err-write_field-in-Sequence-Sequence-clause-keeps
write_item-returns-in_err-write_field-in-Sequence-Sequence-clause-keeps t c = record {
  before = c.write_field-in-Sequence-Sequence.ensures.before;
  room = c.write_field-in-Sequence-Sequence.ensures.max_text;
  count = c.write_field-in-Sequence-Sequence.ensures.length;
}

pub write_item-returns-in-Field-One-clause-keeps : goal.write_item-returns-in-Field-One-clause-keeps
write_item-returns-in-Field-One-clause-keeps t c = record {
  before = c.write_field.ensures.before;
  room = c.write_field.ensures.max_text;
  count = c.write_field.ensures.length;
}

pub write_item-returns-in-Decimal-One-clause-keeps : goal.write_item-returns-in-Decimal-One-clause-keeps
write_item-returns-in-Decimal-One-clause-keeps t c = c.write_decimal.ensures.keeps

pub write_item-returns-in-Field-Group-clause-ok : goal.write_item-returns-in-Field-Group-clause-ok
write_item-returns-in-Field-Group-clause-ok t c = tt

pub write_item-returns-in-Field-Group-clause-keeps : goal.write_item-returns-in-Field-Group-clause-keeps
write_item-returns-in-Field-Group-clause-keeps t c = keeps_all c.args.ledger.now

pub write_item-returns-in-Field-Group-2-clause-ok : goal.write_item-returns-in-Field-Group-2-clause-ok
write_item-returns-in-Field-Group-2-clause-ok t c = tt

pub write_item-returns-in-Field-Group-2-clause-keeps : goal.write_item-returns-in-Field-Group-2-clause-keeps
write_item-returns-in-Field-Group-2-clause-keeps t c = keeps_all c.args.ledger.now

pub write_item-returns-in-Field-Group-3-clause-ok : goal.write_item-returns-in-Field-Group-3-clause-ok
write_item-returns-in-Field-Group-3-clause-ok t c = tt

pub write_item-returns-in-Field-Group-3-clause-keeps : goal.write_item-returns-in-Field-Group-3-clause-keeps
write_item-returns-in-Field-Group-3-clause-keeps t c = keeps_all c.args.ledger.now

pub write_item-returns-in-Field-Group-4-clause-ok : goal.write_item-returns-in-Field-Group-4-clause-ok
write_item-returns-in-Field-Group-4-clause-ok t c = tt

pub write_item-returns-in-Field-Group-4-clause-keeps : goal.write_item-returns-in-Field-Group-4-clause-keeps
write_item-returns-in-Field-Group-4-clause-keeps t c = keeps_all c.args.ledger.now

pub write_item-returns-in-Field-Group-5-clause-ok : goal.write_item-returns-in-Field-Group-5-clause-ok
write_item-returns-in-Field-Group-5-clause-ok t c = tt

pub write_item-returns-in-Field-Group-5-clause-keeps : goal.write_item-returns-in-Field-Group-5-clause-keeps
write_item-returns-in-Field-Group-5-clause-keeps t c = keeps_all c.args.ledger.now

pub write_item-returns-in-Field-Group-6-clause-ok : goal.write_item-returns-in-Field-Group-6-clause-ok
write_item-returns-in-Field-Group-6-clause-ok t c = tt

pub write_item-returns-in-Field-Group-6-clause-keeps : goal.write_item-returns-in-Field-Group-6-clause-keeps
write_item-returns-in-Field-Group-6-clause-keeps t c = keeps_all c.args.ledger.now

pub write_item-returns-in-Field-Group-7-clause-ok : goal.write_item-returns-in-Field-Group-7-clause-ok
write_item-returns-in-Field-Group-7-clause-ok t c = tt

pub write_item-returns-in-Field-Group-7-clause-keeps : goal.write_item-returns-in-Field-Group-7-clause-keeps
write_item-returns-in-Field-Group-7-clause-keeps t c = keeps_all c.args.ledger.now

pub write_item-returns-in-Field-Group-8-clause-ok : goal.write_item-returns-in-Field-Group-8-clause-ok
write_item-returns-in-Field-Group-8-clause-ok t c = tt

pub write_item-returns-in-Field-Group-8-clause-keeps : goal.write_item-returns-in-Field-Group-8-clause-keeps
write_item-returns-in-Field-Group-8-clause-keeps t c = keeps_all c.args.ledger.now

pub write_body-returns-in_err-write_absent-in-None-clause-ok : goal.write_body-returns-in_err-write_absent-in-None-clause-ok
write_body-returns-in_err-write_absent-in-None-clause-ok t c = on_handed_on _ _ c.from_residual.result c.from_residual.ensures.1

pub write_body-returns-in_err-write_item-in-Some-clause-ok : goal.write_body-returns-in_err-write_item-in-Some-clause-ok
write_body-returns-in_err-write_item-in-Some-clause-ok t c =
    on_handed_on _ _ c.from_residual-in_err-write_item-in-Some.result c.from_residual-in_err-write_item-in-Some.ensures.1

pub write_item-returns-in_err-push_bit_if-in-Group-Group-clause-ok : goal.write_item-returns-in_err-push_bit_if-in-Group-Group-clause-ok
write_item-returns-in_err-push_bit_if-in-Group-Group-clause-ok t c = on_handed_on _ _ c.from_residual.result c.from_residual.ensures.1

pub write_item-returns-in_err-write_body-in-Group-Group-clause-ok : goal.write_item-returns-in_err-write_body-in-Group-Group-clause-ok
write_item-returns-in_err-write_body-in-Group-Group-clause-ok t c =
    on_handed_on _ _ c.from_residual-in_err-write_body-in-Group-Group.result c.from_residual-in_err-write_body-in-Group-Group.ensures.1

pub write_item-returns-in_err-write_field-in-Sequence-Sequence-clause-ok : goal.write_item-returns-in_err-write_field-in-Sequence-Sequence-clause-ok
write_item-returns-in_err-write_field-in-Sequence-Sequence-clause-ok t c =
    on_handed_on _ _ c.from_residual-in_err-write_field-in-Sequence-Sequence.result
    c.from_residual-in_err-write_field-in-Sequence-Sequence.ensures.1

pub write_item-returns-in_err-write_body-in-Sequence-Sequence-clause-ok : goal.write_item-returns-in_err-write_body-in-Sequence-Sequence-clause-ok
write_item-returns-in_err-write_body-in-Sequence-Sequence-clause-ok t c =
    on_handed_on _ _ c.from_residual-in_err-write_body-in-Sequence-Sequence.result
    c.from_residual-in_err-write_body-in-Sequence-Sequence.ensures.1

pub write_item-returns-in_err-close-in-Sequence-Sequence-clause-ok : goal.write_item-returns-in_err-close-in-Sequence-Sequence-clause-ok
write_item-returns-in_err-close-in-Sequence-Sequence-clause-ok t c =
    on_handed_on _ _ c.from_residual-in_err-close-in-Sequence-Sequence.result c.from_residual-in_err-close-in-Sequence-Sequence.ensures.1

pub write_body-branch-write_absent-requires : goal.write_body-branch-write_absent-requires
write_body-branch-write_absent-requires t c κs = (λ a m. absurd (not-mem-nil m), λ a m. absurd (not-mem-nil m))

pub write_body-from_residual-requires : goal.write_body-from_residual-requires
write_body-from_residual-requires t c κs = (λ a m. absurd (not-mem-nil m), (λ a m. absurd (not-mem-nil m), λ a m. absurd (not-mem-nil m)))

pub write_body-branch-write_item-requires : goal.write_body-branch-write_item-requires
write_body-branch-write_item-requires t c κs = (λ a m. absurd (not-mem-nil m), λ a m. absurd (not-mem-nil m))

pub write_body-from_residual-requires-in_err-write_item-in-Some : goal.write_body-from_residual-requires-in_err-write_item-in-Some
write_body-from_residual-requires-in_err-write_item-in-Some t c κs =
    (λ a m. absurd (not-mem-nil m), (λ a m. absurd (not-mem-nil m), λ a m. absurd (not-mem-nil m)))

pub write_item-branch-push_bit_if-requires : goal.write_item-branch-push_bit_if-requires
write_item-branch-push_bit_if-requires t c κs = (λ a m. absurd (not-mem-nil m), λ a m. absurd (not-mem-nil m))

pub write_item-from_residual-requires : goal.write_item-from_residual-requires
write_item-from_residual-requires t c κs = (λ a m. absurd (not-mem-nil m), (λ a m. absurd (not-mem-nil m), λ a m. absurd (not-mem-nil m)))

pub write_item-deref-requires : goal.write_item-deref-requires
write_item-deref-requires t c κs = (λ a m. absurd (not-mem-nil m), λ a m. absurd (not-mem-nil m))

pub write_item-deref-requires-in-Group-Group : goal.write_item-deref-requires-in-Group-Group
write_item-deref-requires-in-Group-Group t c κs = (λ a m. absurd (not-mem-nil m), λ a m. absurd (not-mem-nil m))

pub write_item-branch-write_body-requires : goal.write_item-branch-write_body-requires
write_item-branch-write_body-requires t c κs = (λ a m. absurd (not-mem-nil m), λ a m. absurd (not-mem-nil m))

pub write_item-from_residual-requires-in_err-write_body-in-Group-Group : goal.write_item-from_residual-requires-in_err-write_body-in-Group-Group
write_item-from_residual-requires-in_err-write_body-in-Group-Group t c κs =
    (λ a m. absurd (not-mem-nil m), (λ a m. absurd (not-mem-nil m), λ a m. absurd (not-mem-nil m)))

pub write_item-len-requires : goal.write_item-len-requires
write_item-len-requires t c κs = (λ a m. absurd (not-mem-nil m), λ a m. absurd (not-mem-nil m))

pub write_item-branch-write_field-requires : goal.write_item-branch-write_field-requires
write_item-branch-write_field-requires t c κs = (λ a m. absurd (not-mem-nil m), λ a m. absurd (not-mem-nil m))

pub write_item-from_residual-requires-in_err-write_field-in-Sequence-Sequence : goal.write_item-from_residual-requires-in_err-write_field-in-Sequence-Sequence
write_item-from_residual-requires-in_err-write_field-in-Sequence-Sequence t c κs =
    (λ a m. absurd (not-mem-nil m), (λ a m. absurd (not-mem-nil m), λ a m. absurd (not-mem-nil m)))

pub write_item-deref-row-items-requires : goal.write_item-deref-row-items-requires
write_item-deref-row-items-requires t c κs = (λ a m. absurd (not-mem-nil m), λ a m. absurd (not-mem-nil m))

pub write_item-deref-requires-in-loop-row : goal.write_item-deref-requires-in-loop-row
write_item-deref-requires-in-loop-row t c κs = (λ a m. absurd (not-mem-nil m), λ a m. absurd (not-mem-nil m))

pub write_item-deref-requires-in-loop-row-2 : goal.write_item-deref-requires-in-loop-row-2
write_item-deref-requires-in-loop-row-2 t c κs = (λ a m. absurd (not-mem-nil m), λ a m. absurd (not-mem-nil m))

pub write_item-branch-write_body-requires-in-loop-row : goal.write_item-branch-write_body-requires-in-loop-row
write_item-branch-write_body-requires-in-loop-row t c κs = (λ a m. absurd (not-mem-nil m), λ a m. absurd (not-mem-nil m))

pub write_item-from_residual-requires-in_err-write_body-in-Sequence-Sequence : goal.write_item-from_residual-requires-in_err-write_body-in-Sequence-Sequence
write_item-from_residual-requires-in_err-write_body-in-Sequence-Sequence t c κs =
    (λ a m. absurd (not-mem-nil m), (λ a m. absurd (not-mem-nil m), λ a m. absurd (not-mem-nil m)))

pub write_item-branch-close-requires : goal.write_item-branch-close-requires
write_item-branch-close-requires t c κs = (λ a m. absurd (not-mem-nil m), λ a m. absurd (not-mem-nil m))

pub write_item-from_residual-requires-in_err-close-in-Sequence-Sequence : goal.write_item-from_residual-requires-in_err-close-in-Sequence-Sequence
write_item-from_residual-requires-in_err-close-in-Sequence-Sequence t c κs =
    (λ a m. absurd (not-mem-nil m), (λ a m. absurd (not-mem-nil m), λ a m. absurd (not-mem-nil m)))
