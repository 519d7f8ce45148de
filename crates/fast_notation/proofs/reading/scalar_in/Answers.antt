use Rattle.std.proofs.Common.{ap, sym, ◌∙◌, Some}
use Rattle.fast_tree.specs.meaning.AsWritten.{scalar}
use Rattle.fast_notation.specs.device.WrittenSets.{operator_data}
use Rattle.fast_notation.proofs.texts.InstructionForms.{scalar_form}
use Rattle.fast_notation.proofs.texts.ReadingSteps.{tested, untested, step, no_step, no_ok, ok_no_err, passed_on, memory_only}
use Rattle.fast_notation.proofs.reading.scalar_in.Goals as goal

pub returns-then-not-has_only-clause-scalar : goal.returns-then-not-has_only-clause-scalar
returns-then-not-has_only-clause-scalar c = tt

pub returns-then-not-has_only-clause-shape : goal.returns-then-not-has_only-clause-shape
returns-then-not-has_only-clause-shape c e = untested _ c.if-not-has_only.ensures

pub returns-in_err-name-clause-scalar : goal.returns-in_err-name-clause-scalar
returns-in_err-name-clause-scalar c = no_ok c.from_residual.result _ _ c.from_residual.ensures.1

pub returns-in_err-name-clause-shape : goal.returns-in_err-name-clause-shape
returns-in_err-name-clause-shape c e = tested c.if-not-has_only.ensures
    ∙ no_step _ (c.in_err-name.ensures.shape (passed_on c.from_residual.result c.in_err-name.field-0.0 c.from_residual.ensures.1 e))

pub returns-in_err-optional-clause-scalar : goal.returns-in_err-optional-clause-scalar
returns-in_err-optional-clause-scalar c = no_ok c.from_residual-in_err-optional.result _ _ c.from_residual-in_err-optional.ensures.1

pub returns-in_err-optional-clause-shape : goal.returns-in_err-optional-clause-shape
returns-in_err-optional-clause-shape c e = tested c.if-not-has_only.ensures ∙ step _ c.in_ok-name.ensures.name
    ∙ no_step _ (c.in_err-optional.ensures.shape (passed_on c.from_residual-in_err-optional.result c.in_err-optional.field-0.0
    c.from_residual-in_err-optional.ensures.1 e))

pub returns-in_err-operator-clause-scalar : goal.returns-in_err-operator-clause-scalar
returns-in_err-operator-clause-scalar c = no_ok c.from_residual-in_err-operator.result _ _ c.from_residual-in_err-operator.ensures.1

pub returns-in_err-operator-clause-shape : goal.returns-in_err-operator-clause-shape
returns-in_err-operator-clause-shape c e = tested c.if-not-has_only.ensures ∙ step _ c.in_ok-name.ensures.name
    ∙ step _ c.in_ok-optional.ensures.flag ∙ no_step _ (c.in_err-operator.ensures.shape
    (passed_on c.from_residual-in_err-operator.result c.in_err-operator.field-0.0 c.from_residual-in_err-operator.ensures.1 e))

pub returns-in_err-name-2-clause-scalar : goal.returns-in_err-name-2-clause-scalar
returns-in_err-name-2-clause-scalar c = no_ok c.from_residual-in_err-name-2.result _ _ c.from_residual-in_err-name-2.ensures.1

pub returns-in_err-name-2-clause-shape : goal.returns-in_err-name-2-clause-shape
returns-in_err-name-2-clause-shape c e = memory_only c.from_residual-in_err-name-2.result c.in_err-name-2.field-0.0
    c.from_residual-in_err-name-2.ensures.1 c.in_err-name-2.ensures.memory e

pub returns-clause-scalar : goal.returns-clause-scalar
returns-clause-scalar c = tested c.if-not-has_only.ensures ∙ step _ c.in_ok-name.ensures.name ∙ step _ c.in_ok-optional.ensures.flag
    ∙ step _ c.in_ok-operator.ensures.written ∙ ap Some (ap
    (λ n. scalar n c.in_ok-optional.optional c.args.kind (operator_data c.in_ok-operator.operator)) (sym c.in_ok-name-2.ensures.text)
    ∙ sym (scalar_form c.in_ok-name-2.name c.in_ok-optional.optional c.args.kind c.in_ok-operator.operator))

pub returns-clause-shape : goal.returns-clause-shape
returns-clause-shape c e = ok_no_err e
