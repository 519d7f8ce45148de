use Rattle.std.proofs.Common.{[], ◌∷◌, ap, ◌∙◌, false, string_bytes, subst}
use Rattle.std.specs.Prelude.{option_map, All}
use Rattle.std.proofs.lemmas.Result.{IfErr-weaker, err_from_is_err_and, on_ok_weaker}
use Rattle.fast_value.specs.declared.kinds.Kind.TheVariants.{Int32, Int64}
use Rattle.fast_notation.specs.declared.uses.OperatorPart.TheVariants.{Whole, Exponent, Mantissa}
use Rattle.fast_tree.specs.meaning.AsWritten.{exponent_use, mantissa_use, length_use, uses}
use Rattle.fast_notation.specs.device.WrittenSets.{operator_data, instruction_data}
use Rattle.fast_notation.specs.device.Sound.{bare_use, IsSound, HasFault, uses_in}
use Rattle.fast_notation.proofs.texts.SoundUses.{sound_more, all_sound, fault_at, fault_left, fault_right, fault_named, fault_of_length}
use Rattle.fast_notation.proofs.texts.SoundUses.{sound_length, sound_cons, uses_of_scalar, uses_of_parts, uses_of_group, uses_of_sequence}
use Rattle.fast_notation.proofs.uses.+uses.Goals as goal

pub check_fields-returns-in_err-check_instruction-clause-fault :
    goal.check_fields-returns-in_err-check_instruction-clause-fault
check_fields-returns-in_err-check_instruction-clause-fault t c =
    let r = err_from_is_err_and c.from_residual.result c.from_residual.ensures.1 in
    let f = rw c.field-item.is at c.in_err-check_instruction.ensures.fault in
    rw (r.1, r.2) (fault_at c.in_err-check_instruction.field-0.0 c.args.fields.now c.loop-field.field-index c.field-item.result c.loop-field-test.true f)

pub check_fields-loop-field-preserved : goal.check_fields-loop-field-preserved
check_fields-loop-field-preserved t c =
    let s = rw c.field-item.is at c.in_ok-check_instruction.ensures.sound in
    sound_more c.args.fields.now c.loop-field.field-index c.field-item.result c.loop-field-test.true c.loop-field.invariant s

pub check_fields-returns-clause-sound : goal.check_fields-returns-clause-sound
check_fields-returns-clause-sound t c = all_sound c.args.fields.now c.loop-field.field-index c.loop-field-test.false c.loop-field.invariant

pub check_instruction-returns-in-Scalar-clause-fault :
    goal.check_instruction-returns-in-Scalar-clause-fault
check_instruction-returns-in-Scalar-clause-fault t c =
    let e = ap (λ i. uses (instruction_data i)) c.in-Scalar.is ∙ uses_of_scalar _ c.in-Scalar.optional c.in-Scalar.kind c.in-Scalar.operator in
    rw e (IfErr-weaker c.check_use.result _ _ (λ code h. fault_named code
    (bare_use Whole c.in-Scalar.kind c.in-Scalar.optional (operator_data c.in-Scalar.operator)) _ h) c.check_use.ensures.fault)

pub check_instruction-returns-in_err-check_use-in-Parts-clause-fault :
    goal.check_instruction-returns-in_err-check_use-in-Parts-clause-fault
check_instruction-returns-in_err-check_use-in-Parts-clause-fault t c =
    let e = ap (λ i. uses (instruction_data i)) c.in-Parts.is ∙ uses_of_parts _ c.in-Parts.optional c.in-Parts.exponent c.in-Parts.mantissa in
    let r = err_from_is_err_and c.from_residual.result c.from_residual.ensures.1 in
    let name = string_bytes c.in-Parts.name in
    let x = bare_use Exponent Int32 c.in-Parts.optional (operator_data c.in-Parts.exponent) in
    let f = fault_named c.in_err-check_use-in-Parts.field-0.0 x name c.in_err-check_use-in-Parts.ensures.fault in
    rw (r.1, r.2, e) (fault_left c.in_err-check_use-in-Parts.field-0.0 (record x { name = name } ∷ [])
    (mantissa_use name (operator_data c.in-Parts.mantissa) ∷ []) f)

pub check_instruction-returns-in_ok-check_use-in-Parts-clause-fault :
    goal.check_instruction-returns-in_ok-check_use-in-Parts-clause-fault
check_instruction-returns-in_ok-check_use-in-Parts-clause-fault t c =
    let e = ap (λ i. uses (instruction_data i)) c.in-Parts.is ∙ uses_of_parts _ c.in-Parts.optional c.in-Parts.exponent c.in-Parts.mantissa in
    let name = string_bytes c.in-Parts.name in
    let x = exponent_use name c.in-Parts.optional (operator_data c.in-Parts.exponent) in
    let m = bare_use Mantissa Int64 false (operator_data c.in-Parts.mantissa) in
    rw e (IfErr-weaker c.check_use-in-Parts-2.result _ _ (λ code h. fault_right code (x ∷ []) (record m { name = name } ∷ [])
    (fault_named code m name h)) c.check_use-in-Parts-2.ensures.fault)

pub check_instruction-returns-in-Group-clause-sound :
    goal.check_instruction-returns-in-Group-clause-sound
check_instruction-returns-in-Group-clause-sound t c =
    let e = ap (λ i. uses (instruction_data i)) c.in-Group.is ∙ uses_of_group _ _ c.in-Group.fields in
    let d = c.deref.ensures.value in
    rw e (on_ok_weaker c.check_fields.result (λ (h : All IsSound (uses_in c.deref.result.now)). subst (λ fs. All IsSound (uses_in fs)) d h)
    c.check_fields.ensures.sound)

pub check_instruction-returns-in_err-check_length-in-Sequence-clause-fault :
    goal.check_instruction-returns-in_err-check_length-in-Sequence-clause-fault
check_instruction-returns-in_err-check_length-in-Sequence-clause-fault t c =
    let e = ap (λ i. uses (instruction_data i)) c.in-Sequence.is
    ∙ uses_of_sequence _ c.in-Sequence.optional c.in-Sequence.length_name c.in-Sequence.length c.in-Sequence.fields in
    let r = err_from_is_err_and c.from_residual-in_err-check_length-in-Sequence.result c.from_residual-in_err-check_length-in-Sequence.ensures.1 in
    let code = c.in_err-check_length-in-Sequence.field-0.0 in
    let name = string_bytes c.in-Sequence.name in
    let own = option_map string_bytes c.in-Sequence.length_name in
    let w = operator_data c.in-Sequence.length in
    let f = fault_of_length code name c.in-Sequence.optional own w c.in_err-check_length-in-Sequence.ensures.fault in
    rw (r.1, r.2, e) (fault_left code (length_use name c.in-Sequence.optional own w ∷ []) (uses_in c.in-Sequence.fields.items) f)

pub check_instruction-returns-in_ok-check_length-in-Sequence-clause-sound :
    goal.check_instruction-returns-in_ok-check_length-in-Sequence-clause-sound
check_instruction-returns-in_ok-check_length-in-Sequence-clause-sound t c =
    let e = ap (λ i. uses (instruction_data i)) c.in-Sequence.is
    ∙ uses_of_sequence _ c.in-Sequence.optional c.in-Sequence.length_name c.in-Sequence.length c.in-Sequence.fields in
    let name = string_bytes c.in-Sequence.name in
    let own = option_map string_bytes c.in-Sequence.length_name in
    let w = operator_data c.in-Sequence.length in
    let d = c.deref-in-Sequence.ensures.value in
    let here = sound_length name c.in-Sequence.optional own w c.in_ok-check_length-in-Sequence.ensures.sound in
    rw e (on_ok_weaker c.check_fields-in-Sequence.result
    (λ (h : All IsSound (uses_in c.deref-in-Sequence.result.now)). sound_cons (length_use name c.in-Sequence.optional own w)
    (uses_in c.in-Sequence.fields.items) here (subst (λ fs. All IsSound (uses_in fs)) d h))
    c.check_fields-in-Sequence.ensures.sound)

pub check_instruction-returns-in_ok-check_length-in-Sequence-clause-fault :
    goal.check_instruction-returns-in_ok-check_length-in-Sequence-clause-fault
check_instruction-returns-in_ok-check_length-in-Sequence-clause-fault t c =
    let e = ap (λ i. uses (instruction_data i)) c.in-Sequence.is
    ∙ uses_of_sequence _ c.in-Sequence.optional c.in-Sequence.length_name c.in-Sequence.length c.in-Sequence.fields in
    let name = string_bytes c.in-Sequence.name in
    let own = option_map string_bytes c.in-Sequence.length_name in
    let w = operator_data c.in-Sequence.length in
    let d = c.deref-in-Sequence.ensures.value in
    rw e (IfErr-weaker c.check_fields-in-Sequence.result _ _
    (λ code h. fault_right code (length_use name c.in-Sequence.optional own w ∷ []) (uses_in c.in-Sequence.fields.items)
    (subst (λ fs. HasFault code (uses_in fs)) d h))
    c.check_fields-in-Sequence.ensures.fault)
