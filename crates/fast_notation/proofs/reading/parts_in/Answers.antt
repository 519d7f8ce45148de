use Rattle.std.proofs.Common.{ap, sym, ◌∙◌, Some}
use Rattle.fast_tree.specs.meaning.AsWritten.{by_parts}
use Rattle.fast_notation.specs.device.WrittenSets.{operator_data}
use Rattle.fast_notation.proofs.texts.InstructionForms.{parts_form}
use Rattle.fast_notation.proofs.texts.ReadingSteps.{tested, untested, step, no_step, no_ok, ok_no_err, passed_on, memory_only}
use Rattle.fast_notation.proofs.reading.parts_in.Goals as goal

pub returns-then-not-has_only-clause-parts : goal.returns-then-not-has_only-clause-parts
returns-then-not-has_only-clause-parts c = tt

pub returns-then-not-has_only-clause-shape : goal.returns-then-not-has_only-clause-shape
returns-then-not-has_only-clause-shape c e = untested _ c.if-not-has_only.ensures

pub returns-in_err-name-clause-parts : goal.returns-in_err-name-clause-parts
returns-in_err-name-clause-parts c = no_ok c.from_residual.result _ _ c.from_residual.ensures.1

pub returns-in_err-name-clause-shape : goal.returns-in_err-name-clause-shape
returns-in_err-name-clause-shape c e = tested c.if-not-has_only.ensures
    ∙ no_step _ (c.in_err-name.ensures.shape (passed_on c.from_residual.result c.in_err-name.field-0.0 c.from_residual.ensures.1 e))

pub returns-in_err-optional-clause-parts : goal.returns-in_err-optional-clause-parts
returns-in_err-optional-clause-parts c = no_ok c.from_residual-in_err-optional.result _ _ c.from_residual-in_err-optional.ensures.1

pub returns-in_err-optional-clause-shape : goal.returns-in_err-optional-clause-shape
returns-in_err-optional-clause-shape c e = tested c.if-not-has_only.ensures ∙ step _ c.in_ok-name.ensures.name
    ∙ no_step _ (c.in_err-optional.ensures.shape (passed_on c.from_residual-in_err-optional.result c.in_err-optional.field-0.0
    c.from_residual-in_err-optional.ensures.1 e))

pub returns-in_err-exponent-clause-parts : goal.returns-in_err-exponent-clause-parts
returns-in_err-exponent-clause-parts c = no_ok c.from_residual-in_err-exponent.result _ _ c.from_residual-in_err-exponent.ensures.1

pub returns-in_err-exponent-clause-shape : goal.returns-in_err-exponent-clause-shape
returns-in_err-exponent-clause-shape c e = tested c.if-not-has_only.ensures ∙ step _ c.in_ok-name.ensures.name
    ∙ step _ c.in_ok-optional.ensures.flag ∙ no_step _ (c.in_err-exponent.ensures.shape
    (passed_on c.from_residual-in_err-exponent.result c.in_err-exponent.field-0.0 c.from_residual-in_err-exponent.ensures.1 e))

pub returns-in_err-mantissa-clause-parts : goal.returns-in_err-mantissa-clause-parts
returns-in_err-mantissa-clause-parts c = no_ok c.from_residual-in_err-mantissa.result _ _ c.from_residual-in_err-mantissa.ensures.1

pub returns-in_err-mantissa-clause-shape : goal.returns-in_err-mantissa-clause-shape
returns-in_err-mantissa-clause-shape c e = tested c.if-not-has_only.ensures ∙ step _ c.in_ok-name.ensures.name
    ∙ step _ c.in_ok-optional.ensures.flag ∙ step _ c.in_ok-exponent.ensures.part
    ∙ no_step _ (c.in_err-mantissa.ensures.shape (passed_on c.from_residual-in_err-mantissa.result c.in_err-mantissa.field-0.0
    c.from_residual-in_err-mantissa.ensures.1 e))

pub returns-in_err-name-2-clause-parts : goal.returns-in_err-name-2-clause-parts
returns-in_err-name-2-clause-parts c = no_ok c.from_residual-in_err-name-2.result _ _ c.from_residual-in_err-name-2.ensures.1

pub returns-in_err-name-2-clause-shape : goal.returns-in_err-name-2-clause-shape
returns-in_err-name-2-clause-shape c e = memory_only c.from_residual-in_err-name-2.result c.in_err-name-2.field-0.0
    c.from_residual-in_err-name-2.ensures.1 c.in_err-name-2.ensures.memory e

pub returns-clause-parts : goal.returns-clause-parts
returns-clause-parts c = tested c.if-not-has_only.ensures ∙ step _ c.in_ok-name.ensures.name ∙ step _ c.in_ok-optional.ensures.flag
    ∙ step _ c.in_ok-exponent.ensures.part ∙ step _ c.in_ok-mantissa.ensures.part
    ∙ ap Some (ap (λ n. by_parts n c.in_ok-optional.optional (operator_data c.in_ok-exponent.exponent)
    (operator_data c.in_ok-mantissa.mantissa)) (sym c.in_ok-name-2.ensures.text)
    ∙ sym (parts_form c.in_ok-name-2.name c.in_ok-optional.optional c.in_ok-exponent.exponent c.in_ok-mantissa.mantissa))

pub returns-clause-shape : goal.returns-clause-shape
returns-clause-shape c e = ok_no_err e
