use Rattle.std.proofs.Common.{ap, sym, string_bytes, ◌∙◌, Some}
use Rattle.std.specs.Prelude.{option_map}
use Rattle.fast_tree.specs.meaning.AsWritten.{sequence}
use Rattle.fast_notation.specs.device.WrittenSets.{operator_data, fields_data}
use Rattle.fast_notation.proofs.texts.InstructionForms.{sequence_form}
use Rattle.fast_notation.proofs.texts.ReadingSteps.{tested, untested, step, no_step, no_ok, ok_no_err, passed_on, memory_only}
use Rattle.fast_notation.proofs.reading.sequence_in.Goals as goal

pub returns-then-not-has_only-clause-sequence : goal.returns-then-not-has_only-clause-sequence
returns-then-not-has_only-clause-sequence c = tt

pub returns-then-not-has_only-clause-shape : goal.returns-then-not-has_only-clause-shape
returns-then-not-has_only-clause-shape c e = untested _ c.if-not-has_only.ensures

pub returns-in_err-name-clause-sequence : goal.returns-in_err-name-clause-sequence
returns-in_err-name-clause-sequence c = no_ok c.from_residual.result _ _ c.from_residual.ensures.1

pub returns-in_err-name-clause-shape : goal.returns-in_err-name-clause-shape
returns-in_err-name-clause-shape c e = tested c.if-not-has_only.ensures
    ∙ no_step _ (c.in_err-name.ensures.shape (passed_on c.from_residual.result c.in_err-name.field-0.0 c.from_residual.ensures.1 e))

pub returns-in_err-optional-clause-sequence : goal.returns-in_err-optional-clause-sequence
returns-in_err-optional-clause-sequence c = no_ok c.from_residual-in_err-optional.result _ _ c.from_residual-in_err-optional.ensures.1

pub returns-in_err-optional-clause-shape : goal.returns-in_err-optional-clause-shape
returns-in_err-optional-clause-shape c e = tested c.if-not-has_only.ensures ∙ step _ c.in_ok-name.ensures.name
    ∙ no_step _ (c.in_err-optional.ensures.shape (passed_on c.from_residual-in_err-optional.result c.in_err-optional.field-0.0
    c.from_residual-in_err-optional.ensures.1 e))

pub returns-in_err-length-clause-sequence : goal.returns-in_err-length-clause-sequence
returns-in_err-length-clause-sequence c = no_ok c.from_residual-in_err-length.result _ _ c.from_residual-in_err-length.ensures.1

pub returns-in_err-length-clause-shape : goal.returns-in_err-length-clause-shape
returns-in_err-length-clause-shape c e = tested c.if-not-has_only.ensures ∙ step _ c.in_ok-name.ensures.name
    ∙ step _ c.in_ok-optional.ensures.flag ∙ no_step _ (c.in_err-length.ensures.shape
    (passed_on c.from_residual-in_err-length.result c.in_err-length.field-0.0 c.from_residual-in_err-length.ensures.1 e))

pub returns-in_err-name-2-clause-sequence : goal.returns-in_err-name-2-clause-sequence
returns-in_err-name-2-clause-sequence c = no_ok c.from_residual-in_err-name-2.result _ _ c.from_residual-in_err-name-2.ensures.1

pub returns-in_err-name-2-clause-shape : goal.returns-in_err-name-2-clause-shape
returns-in_err-name-2-clause-shape c e = memory_only c.from_residual-in_err-name-2.result c.in_err-name-2.field-0.0
    c.from_residual-in_err-name-2.ensures.1 c.in_err-name-2.ensures.memory e

pub returns-clause-sequence : goal.returns-clause-sequence
returns-clause-sequence c = tested c.if-not-has_only.ensures ∙ step _ c.in_ok-name.ensures.name ∙ step _ c.in_ok-optional.ensures.flag
    ∙ step _ c.in_ok-length.ensures.length ∙ ap Some (ap (λ n. sequence n c.in_ok-optional.optional
    (option_map string_bytes c.in_ok-length.length.name) (operator_data c.in_ok-length.length.operator) (fields_data c.args.fields.items))
    (sym c.in_ok-name-2.ensures.text) ∙ sym (sequence_form c.in_ok-name-2.name c.in_ok-optional.optional c.in_ok-length.length.name
    c.in_ok-length.length.operator c.args.fields))

pub returns-clause-shape : goal.returns-clause-shape
returns-clause-shape c e = ok_no_err e
