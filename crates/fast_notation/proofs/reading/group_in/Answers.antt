use Rattle.std.proofs.Common.{ap, sym, ◌∙◌, Some}
use Rattle.fast_tree.specs.meaning.AsWritten.{group}
use Rattle.fast_notation.specs.device.WrittenSets.{fields_data}
use Rattle.fast_notation.proofs.texts.InstructionForms.{group_form}
use Rattle.fast_notation.proofs.texts.ReadingSteps.{tested, untested, step, no_step, no_ok, ok_no_err, passed_on, memory_only}
use Rattle.fast_notation.proofs.reading.group_in.Goals as goal

pub returns-then-not-has_only-clause-group : goal.returns-then-not-has_only-clause-group
returns-then-not-has_only-clause-group c = tt

pub returns-then-not-has_only-clause-shape : goal.returns-then-not-has_only-clause-shape
returns-then-not-has_only-clause-shape c e = untested _ c.if-not-has_only.ensures

pub returns-in_err-name-clause-group : goal.returns-in_err-name-clause-group
returns-in_err-name-clause-group c = no_ok c.from_residual.result _ _ c.from_residual.ensures.1

pub returns-in_err-name-clause-shape : goal.returns-in_err-name-clause-shape
returns-in_err-name-clause-shape c e = tested c.if-not-has_only.ensures
    ∙ no_step _ (c.in_err-name.ensures.shape (passed_on c.from_residual.result c.in_err-name.field-0.0 c.from_residual.ensures.1 e))

pub returns-in_err-optional-clause-group : goal.returns-in_err-optional-clause-group
returns-in_err-optional-clause-group c = no_ok c.from_residual-in_err-optional.result _ _ c.from_residual-in_err-optional.ensures.1

pub returns-in_err-optional-clause-shape : goal.returns-in_err-optional-clause-shape
returns-in_err-optional-clause-shape c e = tested c.if-not-has_only.ensures ∙ step _ c.in_ok-name.ensures.name
    ∙ no_step _ (c.in_err-optional.ensures.shape (passed_on c.from_residual-in_err-optional.result c.in_err-optional.field-0.0
    c.from_residual-in_err-optional.ensures.1 e))

pub returns-in_err-name-2-clause-group : goal.returns-in_err-name-2-clause-group
returns-in_err-name-2-clause-group c = no_ok c.from_residual-in_err-name-2.result _ _ c.from_residual-in_err-name-2.ensures.1

pub returns-in_err-name-2-clause-shape : goal.returns-in_err-name-2-clause-shape
returns-in_err-name-2-clause-shape c e = memory_only c.from_residual-in_err-name-2.result c.in_err-name-2.field-0.0
    c.from_residual-in_err-name-2.ensures.1 c.in_err-name-2.ensures.memory e

pub returns-clause-group : goal.returns-clause-group
returns-clause-group c = tested c.if-not-has_only.ensures ∙ step _ c.in_ok-name.ensures.name ∙ step _ c.in_ok-optional.ensures.flag
    ∙ ap Some (ap (λ n. group n c.in_ok-optional.optional (fields_data c.args.fields.items)) (sym c.in_ok-name-2.ensures.text)
    ∙ sym (group_form c.in_ok-name-2.name c.in_ok-optional.optional c.args.fields))

pub returns-clause-shape : goal.returns-clause-shape
returns-clause-shape c e = ok_no_err e
