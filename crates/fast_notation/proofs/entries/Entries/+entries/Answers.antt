use Rattle.std.proofs.Common.{◌≡◌, ◌∷◌, [], ap, ◌∙◌, string_bytes, subst, refl}
use Rattle.std.specs.Prelude.{option_map}
use Rattle.std.proofs.lemmas.List.{take_all}
use Rattle.std.proofs.lemmas.Result.{on_ok_weaker}
use Rattle.fast_tree.specs.meaning.AsWritten.{uses, scalar_use, exponent_use, mantissa_use, length_use}
use Rattle.fast_tree.specs.meaning.Entries.{Collects, in_scope}
use Rattle.fast_notation.specs.device.EntryKeys.{scope_data, use_data, entries_of}
use Rattle.fast_notation.specs.device.Sound.{uses_in}
use Rattle.fast_notation.specs.device.WrittenSets.{operator_data, instruction_data}
use Rattle.fast_notation.proofs.lists.EntryLists.{collects_both, collects_more}
use Rattle.fast_notation.proofs.texts.SoundUses.{uses_of_scalar, uses_of_parts, uses_of_group, uses_of_sequence}
use Rattle.fast_notation.proofs.texts.InstructionForms.{reference_form}
use Rattle.fast_notation.proofs.entries.Entries.+entries.Goals as goal

pub add_fields-loop-field-preserved : goal.add_fields-loop-field-preserved
add_fields-loop-field-preserved t c =
    let here = rw c.field-item.is at c.in_ok-add_instruction.ensures in
    collects_more (entries_of c.args.self.now) (entries_of c.loop-field.self) (entries_of c.add_instruction.new.self)
    (scope_data c.args.scope) c.args.fields.now c.loop-field.field-index c.field-item.result c.loop-field-test.true
    c.loop-field.invariant here

pub add_instruction-returns-in_ok-add_use-in-Parts :
    goal.add_instruction-returns-in_ok-add_use-in-Parts
add_instruction-returns-in_ok-add_use-in-Parts t c =
    let s = scope_data c.args.scope in
    let name = string_bytes c.in-Parts.name in
    let x = exponent_use name c.in-Parts.optional (operator_data c.in-Parts.exponent) in
    let m = mantissa_use name (operator_data c.in-Parts.mantissa) in
    let e = ap (λ i. uses (instruction_data i)) c.in-Parts.is ∙ uses_of_parts c.in-Parts.name c.in-Parts.optional c.in-Parts.exponent c.in-Parts.mantissa in
    let here : use_data c.exponent_use.result ≡ x = rw c.as_str-in-Parts.ensures.value at c.exponent_use.ensures.use_of in
    let there : use_data c.mantissa_use.result ≡ m = rw c.as_str-in-Parts-2.ensures.value at c.mantissa_use.ensures.use_of in
    let first = subst (λ u. Collects (entries_of c.args.self.now) ((s, u) ∷ []) (entries_of c.add_use-in-Parts.new.self)) here
    c.in_ok-add_use-in-Parts.ensures in
    rw e (on_ok_weaker c.add_use-in-Parts-2.result
    (λ h. collects_both (entries_of c.args.self.now) (entries_of c.add_use-in-Parts.new.self) (entries_of c.add_use-in-Parts-2.new.self)
    ((s, x) ∷ []) ((s, m) ∷ []) first
    (subst (λ u. Collects (entries_of c.add_use-in-Parts.new.self) ((s, u) ∷ []) (entries_of c.add_use-in-Parts-2.new.self)) there h))
    c.add_use-in-Parts-2.ensures)

pub add_instruction-returns-in_ok-add_use-in-Sequence :
    goal.add_instruction-returns-in_ok-add_use-in-Sequence
add_instruction-returns-in_ok-add_use-in-Sequence t c =
    let s = scope_data c.args.scope in
    let l = length_use (string_bytes c.in-Sequence.name) c.in-Sequence.optional (option_map string_bytes c.in-Sequence.length_name)
    (operator_data c.in-Sequence.length) in
    let e = ap (λ i. uses (instruction_data i)) c.in-Sequence.is
    ∙ uses_of_sequence c.in-Sequence.name c.in-Sequence.optional c.in-Sequence.length_name c.in-Sequence.length c.in-Sequence.fields in
    let here : use_data c.length_use.result ≡ l = rw c.as_str-in-Sequence.ensures.value at c.length_use.ensures.use_of in
    let first = subst (λ u. Collects (entries_of c.args.self.now) ((s, u) ∷ []) (entries_of c.add_use-in-Sequence.new.self)) here
    c.in_ok-add_use-in-Sequence.ensures in
    rw e (on_ok_weaker c.add_fields-in-Sequence.result
    (λ h. collects_both (entries_of c.args.self.now) (entries_of c.add_use-in-Sequence.new.self)
    (entries_of c.add_fields-in-Sequence.new.self) ((s, l) ∷ []) (in_scope s (uses_in c.in-Sequence.fields.items)) first
    (subst (λ fs. Collects (entries_of c.add_use-in-Sequence.new.self) (in_scope s (uses_in fs))
    (entries_of c.add_fields-in-Sequence.new.self)) c.deref-in-Sequence.ensures.value h))
    c.add_fields-in-Sequence.ensures)

pub add_fields-loop-field-init : goal.add_fields-loop-field-init
add_fields-loop-field-init t c = refl

pub add_fields-returns : goal.add_fields-returns
add_fields-returns t c =
    let all = take_all c.loop-field.field-index c.args.fields.now c.loop-field-test.false in
    subst (λ fs. Collects (entries_of c.args.self.now) (in_scope (scope_data c.args.scope) (uses_in fs)) (entries_of c.loop-field.self))
    all c.loop-field.invariant

pub add_instruction-returns-in-Scalar : goal.add_instruction-returns-in-Scalar
add_instruction-returns-in-Scalar t c =
    let s = scope_data c.args.scope in
    let w = operator_data c.in-Scalar.operator in
    let e = ap (λ i. uses (instruction_data i)) c.in-Scalar.is ∙ uses_of_scalar c.in-Scalar.name c.in-Scalar.optional c.in-Scalar.kind c.in-Scalar.operator in
    let here : use_data c.scalar_use.result ≡ scalar_use (string_bytes c.in-Scalar.name) c.in-Scalar.optional c.in-Scalar.kind w =
    rw c.as_str.ensures.value at c.scalar_use.ensures.use_of in
    rw e (on_ok_weaker c.add_use.result (λ h. subst (λ u. Collects (entries_of c.args.self.now) ((s, u) ∷ [])
    (entries_of c.add_use.new.self)) here h) c.add_use.ensures)

pub add_instruction-returns-in-Group : goal.add_instruction-returns-in-Group
add_instruction-returns-in-Group t c =
    let e = ap (λ i. uses (instruction_data i)) c.in-Group.is ∙ uses_of_group c.in-Group.name c.in-Group.optional c.in-Group.fields in
    rw e (rw c.deref.ensures.value at c.add_fields.ensures)

pub add_instruction-returns-in-Reference : goal.add_instruction-returns-in-Reference
add_instruction-returns-in-Reference t c =
    let e = ap (λ i. uses (instruction_data i)) c.in-Reference.is ∙ ap uses (reference_form c.in-Reference.field-0) in
    rw e refl
