use Rattle.std.proofs.Common.{ap, sym, string_bytes, ◌∙◌, Some}
use Rattle.fast_notation.specs.device.WrittenSets.{fields_data}
use Rattle.fast_notation.proofs.texts.ReadingSteps.{tested, untested, step, no_step, no_ok, ok_no_err, passed_on, memory_only}
use Rattle.fast_notation.proofs.documents.template_in.Goals as goal

pub returns-then-not-has_only-clause-template : goal.returns-then-not-has_only-clause-template
returns-then-not-has_only-clause-template c = tt

pub returns-then-not-has_only-clause-shape : goal.returns-then-not-has_only-clause-shape
returns-then-not-has_only-clause-shape c e = untested _ c.if-not-has_only.ensures

pub returns-in_err-name-clause-template : goal.returns-in_err-name-clause-template
returns-in_err-name-clause-template c = no_ok c.from_residual.result _ _ c.from_residual.ensures.1

pub returns-in_err-name-clause-shape : goal.returns-in_err-name-clause-shape
returns-in_err-name-clause-shape c e = tested c.if-not-has_only.ensures
    ∙ no_step _ (c.in_err-name.ensures.shape (passed_on c.from_residual.result c.in_err-name.field-0.0 c.from_residual.ensures.1 e))

pub returns-in_err-id-clause-template : goal.returns-in_err-id-clause-template
returns-in_err-id-clause-template c = no_ok c.from_residual-in_err-id.result _ _ c.from_residual-in_err-id.ensures.1

pub returns-in_err-id-clause-shape : goal.returns-in_err-id-clause-shape
returns-in_err-id-clause-shape c e = tested c.if-not-has_only.ensures ∙ step _ c.in_ok-name.ensures.name
    ∙ no_step _ (c.in_err-id.ensures.shape (passed_on c.from_residual-in_err-id.result c.in_err-id.field-0.0
    c.from_residual-in_err-id.ensures.1 e))

pub returns-in_err-reset-clause-template : goal.returns-in_err-reset-clause-template
returns-in_err-reset-clause-template c = no_ok c.from_residual-in_err-reset.result _ _ c.from_residual-in_err-reset.ensures.1

pub returns-in_err-reset-clause-shape : goal.returns-in_err-reset-clause-shape
returns-in_err-reset-clause-shape c e = tested c.if-not-has_only.ensures ∙ step _ c.in_ok-name.ensures.name ∙ step _ c.in_ok-id.ensures.id
    ∙ no_step _ (c.in_err-reset.ensures.shape (passed_on c.from_residual-in_err-reset.result c.in_err-reset.field-0.0
    c.from_residual-in_err-reset.ensures.1 e))

pub returns-in_err-dictionary-clause-template : goal.returns-in_err-dictionary-clause-template
returns-in_err-dictionary-clause-template c = no_ok c.from_residual-in_err-dictionary.result _ _ c.from_residual-in_err-dictionary.ensures.1

pub returns-in_err-dictionary-clause-shape : goal.returns-in_err-dictionary-clause-shape
returns-in_err-dictionary-clause-shape c e = tested c.if-not-has_only.ensures ∙ step _ c.in_ok-name.ensures.name
    ∙ step _ c.in_ok-id.ensures.id ∙ step _ c.in_ok-reset.ensures.flag
    ∙ no_step _ (c.in_err-dictionary.ensures.shape (passed_on c.from_residual-in_err-dictionary.result c.in_err-dictionary.field-0.0
    c.from_residual-in_err-dictionary.ensures.1 e))

pub returns-in_err-fields-clause-template : goal.returns-in_err-fields-clause-template
returns-in_err-fields-clause-template c = no_ok c.from_residual-in_err-fields.result _ _ c.from_residual-in_err-fields.ensures.1

pub returns-in_err-fields-clause-shape : goal.returns-in_err-fields-clause-shape
returns-in_err-fields-clause-shape c e = tested c.if-not-has_only.ensures ∙ step _ c.in_ok-name.ensures.name ∙ step _ c.in_ok-id.ensures.id
    ∙ step _ c.in_ok-reset.ensures.flag ∙ step _ c.in_ok-dictionary.ensures.dictionary
    ∙ no_step _ (c.in_err-fields.ensures.shape (passed_on c.from_residual-in_err-fields.result c.in_err-fields.field-0.0
    c.from_residual-in_err-fields.ensures.1 e))

pub returns-in_err-name-2-clause-template : goal.returns-in_err-name-2-clause-template
returns-in_err-name-2-clause-template c = no_ok c.from_residual-in_err-name-2.result _ _ c.from_residual-in_err-name-2.ensures.1

pub returns-in_err-name-2-clause-shape : goal.returns-in_err-name-2-clause-shape
returns-in_err-name-2-clause-shape c e = memory_only c.from_residual-in_err-name-2.result c.in_err-name-2.field-0.0
    c.from_residual-in_err-name-2.ensures.1 c.in_err-name-2.ensures.memory e

pub returns-in_err-dictionary-2-clause-template : goal.returns-in_err-dictionary-2-clause-template
returns-in_err-dictionary-2-clause-template c = no_ok c.from_residual-in_err-dictionary-2.result _ _ c.from_residual-in_err-dictionary-2.ensures.1

pub returns-in_err-dictionary-2-clause-shape : goal.returns-in_err-dictionary-2-clause-shape
returns-in_err-dictionary-2-clause-shape c e = memory_only c.from_residual-in_err-dictionary-2.result c.in_err-dictionary-2.field-0.0
    c.from_residual-in_err-dictionary-2.ensures.1 c.in_err-dictionary-2.ensures.memory e

pub returns-clause-template : goal.returns-clause-template
returns-clause-template c = tested c.if-not-has_only.ensures ∙ step _ c.in_ok-name.ensures.name ∙ step _ c.in_ok-id.ensures.id
    ∙ step _ c.in_ok-reset.ensures.flag ∙ step _ c.in_ok-dictionary.ensures.dictionary ∙ step _ c.in_ok-fields.ensures.fields
    ∙ ap Some (ap (λ n. record {
      name = n;
      id = c.in_ok-id.id;
      reset = c.in_ok-reset.reset;
      dictionary = c.in_ok-dictionary.dictionary.now;
      fields = fields_data c.in_ok-fields.fields.items;
    }) (sym c.in_ok-name-2.ensures.text) ∙ ap (λ d. record {
      name = string_bytes c.in_ok-name-2.name;
      id = c.in_ok-id.id;
      reset = c.in_ok-reset.reset;
      dictionary = d;
      fields = fields_data c.in_ok-fields.fields.items;
    }) (sym c.in_ok-dictionary-2.ensures.text))

pub returns-clause-shape : goal.returns-clause-shape
returns-clause-shape c e = ok_no_err e
