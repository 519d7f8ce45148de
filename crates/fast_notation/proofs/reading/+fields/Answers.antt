use Rattle.std.proofs.Common.{◌≡◌, ◌+◌, ◌*◌, ◌≤◌, ℕ, map, drop, ap, sym, ◌∙◌, arith, Some, ◌++◌, ◌∷◌, [], List, codes, Bor}
use Rattle.std.specs.Prelude.{option_map}
use Rattle.fast_notation.specs.declared.written.WrittenInstruction.{WrittenInstruction}
use Rattle.std.proofs.lemmas.Result.{IfOk-weaker}
use Rattle.toml.specs.Data.{depth, items_depth, members_depth}
use Rattle.toml.specs.View.{view, items_view, table_view}
use Rattle.fast_notation.specs.device.Reading.{all_fields, field_of}
use Rattle.fast_notation.specs.device.WrittenSets.{instruction_data, fields_data}
use Rattle.fast_notation.proofs.lists.FieldLists.{fields_of_items, fields_of_none, items_below, item_below, front, front_more, front_stops}
use Rattle.fast_notation.proofs.lists.FieldLists.{front_ends, no_table, kind_unread, no_kind, other_read, group_read, sequence_read}
use Rattle.fast_notation.proofs.lists.FieldLists.{reference_read, group_unread, sequence_unread}
use Rattle.fast_notation.proofs.texts.ReadingSteps.{step, no_step, no_ok, ok_no_err, passed_on}
use Rattle.fast_notation.proofs.reading.+fields.Goals as goal

pub fields_in-instruction_in-requires : goal.fields_in-instruction_in-requires
fields_in-instruction_in-requires t c =
    let b = item_below c.args.items.now c.loop-item.item-index c.item-item.result c.loop-item-test.true in
    let i : depth (view c.item-item.result) ≤ items_depth (items_view c.args.items.now) = rw c.item-item.is b in
    let d : 3 * items_depth (items_view c.args.items.now) + 1 ≡ t = c.decreases in
    (omega (arith, i, d), tt)

pub fields_in-returns-in_err-field-clause-shape : goal.fields_in-returns-in_err-field-clause-shape
fields_in-returns-in_err-field-clause-shape t c e =
    let same = passed_on c.from_residual.result c.in_err-field.field-0.0 c.from_residual.ensures.1 e in
    let none = rw c.item-item.is at (c.in_err-field.ensures.shape same) in
    front_stops c.loop-item.fields.items c.args.items.now c.loop-item.item-index c.item-item.result
    (all_fields (items_view c.args.items.now)) c.loop-item-test.true none c.loop-item.invariant

pub fields_in-loop-item-preserved : goal.fields_in-loop-item-preserved
fields_in-loop-item-preserved t c =
    let items = c.args.items.now in
    let i = c.loop-item.item-index in
    let pushed : c.push.new.self.items ≡ c.loop-item.fields.items ++ c.in_ok-field.field ∷ [] = c.in-Ok.ensures.items in
    let read = rw c.item-item.is at c.in_ok-field.ensures.instruction in
    ap (λ (fs : List WrittenInstruction). front (map instruction_data fs) (all_fields (items_view (drop (i + 1) items)))) pushed
    ∙ front_more c.loop-item.fields.items c.in_ok-field.field items i c.item-item.result
    (all_fields (items_view items)) c.loop-item-test.true read c.loop-item.invariant

pub fields_in-returns-clause-fields : goal.fields_in-returns-clause-fields
fields_in-returns-clause-fields t c = front_ends c.loop-item.fields.items c.args.items.now c.loop-item.item-index
    (all_fields (items_view c.args.items.now)) c.loop-item-test.false c.loop-item.invariant

pub nested_fields-returns-in_err-items-clause-shape :
    goal.nested_fields-returns-in_err-items-clause-shape
nested_fields-returns-in_err-items-clause-shape t c e =
    let same = passed_on c.from_residual.result c.in_err-items.field-0.0 c.from_residual.ensures.1 e in
    fields_of_none (table_view c.args.table.now) (c.in_err-items.ensures.shape same)

pub nested_fields-fields_in-requires : goal.nested_fields-fields_in-requires
nested_fields-fields_in-requires t c =
    let b = items_below (codes "fields") (table_view c.args.table.now) (items_view c.in_ok-items.items.now) c.in_ok-items.ensures.items in
    let d : 3 * members_depth (table_view c.args.table.now) + 2 ≡ t = c.decreases in
    (omega (arith, b, d), tt)

pub nested_fields-returns-clause-fields : goal.nested_fields-returns-clause-fields
nested_fields-returns-clause-fields t c =
    IfOk-weaker c.fields_in.result _ _ (λ v found. fields_of_items (table_view c.args.table.now)
    (items_view c.in_ok-items.items.now) c.in_ok-items.ensures.items ∙ found) c.fields_in.ensures.fields

pub nested_fields-returns-clause-shape : goal.nested_fields-returns-clause-shape
nested_fields-returns-clause-shape t c e =
    fields_of_items (table_view c.args.table.now) (items_view c.in_ok-items.items.now) c.in_ok-items.ensures.items ∙ c.fields_in.ensures.shape e

pub instruction_in-returns-in_err-fields-in-group-clause-shape :
    goal.instruction_in-returns-in_err-fields-in-group-clause-shape
instruction_in-returns-in_err-fields-in-group-clause-shape t c e =
    let same = passed_on c.from_residual-in_err-fields-in-group.result c.in_err-fields-in-group.field-0.0 c.from_residual-in_err-fields-in-group.ensures.1 e in
    let some : option_map (λ (s : Bor (List ℕ)). s.now) c.in_ok-kind.field-0 ≡ Some c.in-Some-2.kind.now =
    ap (option_map (λ (s : Bor (List ℕ)). s.now)) c.in-Some-2.is in
    group_unread (view c.args.value.now) (table_view c.in-Some.table.now) (option_map (λ (s : Bor (List ℕ)). s.now) c.in_ok-kind.field-0) c.in-Some-2.kind.now
    (sym c.in-Some.ensures) c.in_ok-kind.ensures.text some c.in-group.is (c.in_err-fields-in-group.ensures.shape same)

pub instruction_in-returns-in_err-fields-in-sequence-clause-shape :
    goal.instruction_in-returns-in_err-fields-in-sequence-clause-shape
instruction_in-returns-in_err-fields-in-sequence-clause-shape t c e =
    let same = passed_on c.from_residual-in_err-fields-in-sequence.result c.in_err-fields-in-sequence.field-0.0
    c.from_residual-in_err-fields-in-sequence.ensures.1 e in
    let some : option_map (λ (s : Bor (List ℕ)). s.now) c.in_ok-kind.field-0 ≡ Some c.in-Some-2.kind.now =
    ap (option_map (λ (s : Bor (List ℕ)). s.now)) c.in-Some-2.is in
    sequence_unread (view c.args.value.now) (table_view c.in-Some.table.now)
    (option_map (λ (s : Bor (List ℕ)). s.now) c.in_ok-kind.field-0) c.in-Some-2.kind.now
    (sym c.in-Some.ensures) c.in_ok-kind.ensures.text some c.in-sequence.is (c.in_err-fields-in-sequence.ensures.shape same)

pub fields_in-returns-in_err-field-clause-fields : goal.fields_in-returns-in_err-field-clause-fields
fields_in-returns-in_err-field-clause-fields t c = no_ok c.from_residual.result _ _ c.from_residual.ensures.1

pub fields_in-returns-in-Err-clause-fields : goal.fields_in-returns-in-Err-clause-fields
fields_in-returns-in-Err-clause-fields t c = tt

pub fields_in-returns-clause-shape : goal.fields_in-returns-clause-shape
fields_in-returns-clause-shape t c e = ok_no_err e

pub fields_in-loop-item-init : goal.fields_in-loop-item-init
fields_in-loop-item-init t c = ap (λ (fs : List WrittenInstruction). front (map instruction_data fs)
    (all_fields (items_view c.args.items.now))) c.new-fields.ensures.items

pub nested_fields-returns-in_err-items-clause-fields : goal.nested_fields-returns-in_err-items-clause-fields
nested_fields-returns-in_err-items-clause-fields t c = no_ok c.from_residual.result _ _ c.from_residual.ensures.1

pub instruction_in-returns-in_default-clause-instruction : goal.instruction_in-returns-in_default-clause-instruction
instruction_in-returns-in_default-clause-instruction t c = tt

pub instruction_in-returns-in_default-clause-shape : goal.instruction_in-returns-in_default-clause-shape
instruction_in-returns-in_default-clause-shape t c e = no_table (view c.args.value.now) (sym c.in_default.ensures)

pub instruction_in-returns-in_err-kind-clause-instruction : goal.instruction_in-returns-in_err-kind-clause-instruction
instruction_in-returns-in_err-kind-clause-instruction t c = no_ok c.from_residual.result _ _ c.from_residual.ensures.1

pub instruction_in-returns-in_err-kind-clause-shape : goal.instruction_in-returns-in_err-kind-clause-shape
instruction_in-returns-in_err-kind-clause-shape t c e =
    kind_unread (view c.args.value.now) (table_view c.in-Some.table.now) (sym c.in-Some.ensures)
    (c.in_err-kind.ensures.shape (passed_on c.from_residual.result c.in_err-kind.field-0.0 c.from_residual.ensures.1 e))

pub instruction_in-returns-in_default-2-clause-instruction : goal.instruction_in-returns-in_default-2-clause-instruction
instruction_in-returns-in_default-2-clause-instruction t c = tt

pub instruction_in-returns-in_default-2-clause-shape : goal.instruction_in-returns-in_default-2-clause-shape
instruction_in-returns-in_default-2-clause-shape t c e =
    no_kind (view c.args.value.now) (table_view c.in-Some.table.now) (option_map (λ (s : Bor (List ℕ)). s.now) c.in_ok-kind.field-0)
    (sym c.in-Some.ensures) c.in_ok-kind.ensures.text (ap (option_map (λ (s : Bor (List ℕ)). s.now)) c.in_default-2.is)

pub instruction_in-returns-in_err-fields-in-group-clause-instruction : goal.instruction_in-returns-in_err-fields-in-group-clause-instruction
instruction_in-returns-in_err-fields-in-group-clause-instruction t c =
    no_ok c.from_residual-in_err-fields-in-group.result _ _ c.from_residual-in_err-fields-in-group.ensures.1

pub instruction_in-returns-in_ok-fields-in-group-clause-instruction : goal.instruction_in-returns-in_ok-fields-in-group-clause-instruction
instruction_in-returns-in_ok-fields-in-group-clause-instruction t c =
    let ms = table_view c.in-Some.table.now in
    let some : option_map (λ (s : Bor (List ℕ)). s.now) c.in_ok-kind.field-0 ≡ Some c.in-Some-2.kind.now =
    ap (option_map (λ (s : Bor (List ℕ)). s.now)) c.in-Some-2.is in
    let read = group_read (view c.args.value.now) ms (option_map (λ (s : Bor (List ℕ)). s.now) c.in_ok-kind.field-0) c.in-Some-2.kind.now
    (Some (fields_data c.in_ok-fields-in-group.fields.items))
    (sym c.in-Some.ensures) c.in_ok-kind.ensures.text some c.in-group.is c.in_ok-fields-in-group.ensures.fields in
    IfOk-weaker c.group_in.result _ _ (λ w h. read ∙ h) c.group_in.ensures.group

pub instruction_in-returns-in_ok-fields-in-group-clause-shape : goal.instruction_in-returns-in_ok-fields-in-group-clause-shape
instruction_in-returns-in_ok-fields-in-group-clause-shape t c e =
    let ms = table_view c.in-Some.table.now in
    let some : option_map (λ (s : Bor (List ℕ)). s.now) c.in_ok-kind.field-0 ≡ Some c.in-Some-2.kind.now =
    ap (option_map (λ (s : Bor (List ℕ)). s.now)) c.in-Some-2.is in
    let read = group_read (view c.args.value.now) ms (option_map (λ (s : Bor (List ℕ)). s.now) c.in_ok-kind.field-0) c.in-Some-2.kind.now
    (Some (fields_data c.in_ok-fields-in-group.fields.items))
    (sym c.in-Some.ensures) c.in_ok-kind.ensures.text some c.in-group.is c.in_ok-fields-in-group.ensures.fields in
    read ∙ c.group_in.ensures.shape e

pub instruction_in-returns-in_err-fields-in-sequence-clause-instruction : goal.instruction_in-returns-in_err-fields-in-sequence-clause-instruction
instruction_in-returns-in_err-fields-in-sequence-clause-instruction t c =
    no_ok c.from_residual-in_err-fields-in-sequence.result _ _ c.from_residual-in_err-fields-in-sequence.ensures.1

pub instruction_in-returns-in_ok-fields-in-sequence-clause-instruction : goal.instruction_in-returns-in_ok-fields-in-sequence-clause-instruction
instruction_in-returns-in_ok-fields-in-sequence-clause-instruction t c =
    let ms = table_view c.in-Some.table.now in
    let some : option_map (λ (s : Bor (List ℕ)). s.now) c.in_ok-kind.field-0 ≡ Some c.in-Some-2.kind.now =
    ap (option_map (λ (s : Bor (List ℕ)). s.now)) c.in-Some-2.is in
    let read = sequence_read (view c.args.value.now) ms (option_map (λ (s : Bor (List ℕ)). s.now) c.in_ok-kind.field-0)
    c.in-Some-2.kind.now (Some (fields_data c.in_ok-fields-in-sequence.fields.items))
    (sym c.in-Some.ensures) c.in_ok-kind.ensures.text some c.in-sequence.is c.in_ok-fields-in-sequence.ensures.fields in
    IfOk-weaker c.sequence_in.result _ _ (λ w h. read ∙ h) c.sequence_in.ensures.sequence

pub instruction_in-returns-in_ok-fields-in-sequence-clause-shape : goal.instruction_in-returns-in_ok-fields-in-sequence-clause-shape
instruction_in-returns-in_ok-fields-in-sequence-clause-shape t c e =
    let ms = table_view c.in-Some.table.now in
    let some : option_map (λ (s : Bor (List ℕ)). s.now) c.in_ok-kind.field-0 ≡ Some c.in-Some-2.kind.now =
    ap (option_map (λ (s : Bor (List ℕ)). s.now)) c.in-Some-2.is in
    let read = sequence_read (view c.args.value.now) ms (option_map (λ (s : Bor (List ℕ)). s.now) c.in_ok-kind.field-0)
    c.in-Some-2.kind.now (Some (fields_data c.in_ok-fields-in-sequence.fields.items))
    (sym c.in-Some.ensures) c.in_ok-kind.ensures.text some c.in-sequence.is c.in_ok-fields-in-sequence.ensures.fields in
    read ∙ c.sequence_in.ensures.shape e

pub instruction_in-returns-in-ref-clause-instruction : goal.instruction_in-returns-in-ref-clause-instruction
instruction_in-returns-in-ref-clause-instruction t c =
    let some : option_map (λ (s : Bor (List ℕ)). s.now) c.in_ok-kind.field-0 ≡ Some c.in-Some-2.kind.now =
    ap (option_map (λ (s : Bor (List ℕ)). s.now)) c.in-Some-2.is in
    let read = reference_read (view c.args.value.now) (table_view c.in-Some.table.now)
    (option_map (λ (s : Bor (List ℕ)). s.now) c.in_ok-kind.field-0) c.in-Some-2.kind.now
    (sym c.in-Some.ensures) c.in_ok-kind.ensures.text some c.in-ref.is in
    IfOk-weaker c.reference_in.result _ _ (λ w h. read ∙ h) c.reference_in.ensures.reference

pub instruction_in-returns-in-ref-clause-shape : goal.instruction_in-returns-in-ref-clause-shape
instruction_in-returns-in-ref-clause-shape t c e =
    let some : option_map (λ (s : Bor (List ℕ)). s.now) c.in_ok-kind.field-0 ≡ Some c.in-Some-2.kind.now =
    ap (option_map (λ (s : Bor (List ℕ)). s.now)) c.in-Some-2.is in
    let read = reference_read (view c.args.value.now) (table_view c.in-Some.table.now)
    (option_map (λ (s : Bor (List ℕ)). s.now) c.in_ok-kind.field-0) c.in-Some-2.kind.now
    (sym c.in-Some.ensures) c.in_ok-kind.ensures.text some c.in-ref.is in
    read ∙ c.reference_in.ensures.shape e

pub instruction_in-returns-in-Some-kind_named-clause-instruction : goal.instruction_in-returns-in-Some-kind_named-clause-instruction
instruction_in-returns-in-Some-kind_named-clause-instruction t c =
    let some : option_map (λ (s : Bor (List ℕ)). s.now) c.in_ok-kind.field-0 ≡ Some c.in-Some-2.kind.now =
    ap (option_map (λ (s : Bor (List ℕ)). s.now)) c.in-Some-2.is in
    let other = c.in_default-kind in
    let read = other_read (view c.args.value.now) (table_view c.in-Some.table.now)
    (option_map (λ (s : Bor (List ℕ)). s.now) c.in_ok-kind.field-0) c.in-Some-2.kind.now
    (sym c.in-Some.ensures) c.in_ok-kind.ensures.text some other.not-group other.not-sequence other.not-ref in
    let kind = step (λ k. field_of k (table_view c.in-Some.table.now)) (sym c.kind_named.ensures ∙ c.in-Some-kind_named.is) in
    IfOk-weaker c.field_in.result _ _ (λ w h. read ∙ kind ∙ h) c.field_in.ensures.field

pub instruction_in-returns-in-Some-kind_named-clause-shape : goal.instruction_in-returns-in-Some-kind_named-clause-shape
instruction_in-returns-in-Some-kind_named-clause-shape t c e =
    let some : option_map (λ (s : Bor (List ℕ)). s.now) c.in_ok-kind.field-0 ≡ Some c.in-Some-2.kind.now =
    ap (option_map (λ (s : Bor (List ℕ)). s.now)) c.in-Some-2.is in
    let other = c.in_default-kind in
    let read = other_read (view c.args.value.now) (table_view c.in-Some.table.now)
    (option_map (λ (s : Bor (List ℕ)). s.now) c.in_ok-kind.field-0) c.in-Some-2.kind.now
    (sym c.in-Some.ensures) c.in_ok-kind.ensures.text some other.not-group other.not-sequence other.not-ref in
    read ∙ step (λ k. field_of k (table_view c.in-Some.table.now)) (sym c.kind_named.ensures ∙ c.in-Some-kind_named.is) ∙ c.field_in.ensures.shape e

pub instruction_in-returns-in-None-clause-instruction : goal.instruction_in-returns-in-None-clause-instruction
instruction_in-returns-in-None-clause-instruction t c = tt

pub instruction_in-returns-in-None-clause-shape : goal.instruction_in-returns-in-None-clause-shape
instruction_in-returns-in-None-clause-shape t c e =
    let some : option_map (λ (s : Bor (List ℕ)). s.now) c.in_ok-kind.field-0 ≡ Some c.in-Some-2.kind.now =
    ap (option_map (λ (s : Bor (List ℕ)). s.now)) c.in-Some-2.is in
    let other = c.in_default-kind in
    let read = other_read (view c.args.value.now) (table_view c.in-Some.table.now)
    (option_map (λ (s : Bor (List ℕ)). s.now) c.in_ok-kind.field-0) c.in-Some-2.kind.now
    (sym c.in-Some.ensures) c.in_ok-kind.ensures.text some other.not-group other.not-sequence other.not-ref in
    read ∙ no_step (λ k. field_of k (table_view c.in-Some.table.now)) (sym c.kind_named.ensures ∙ c.in-None.is)
