-- The field at the place is handed on.
use Rattle.std.proofs.Common.{◌≡◌, sym, subst}
use Rattle.std.specs.Prelude.{Some, OnOk, IfErr}
use Rattle.fast_value.specs.declared.settings.Limits.{Limits}
use Rattle.fast_value.specs.meaning.Values.{scalar_data}
use Rattle.fast_tree.specs.declared.instructions.FieldInstruction.{FieldInstruction}
use Rattle.fast_tree.specs.meaning.Nodes.{field_data}
use Rattle.fast_spelling.specs.device.Drafts.{IsTold}
use Rattle.fast_spelling.specs.device.Fields.{IsServed, IsSuited, Wrote}
use Rattle.fast_spelling.specs.meaning.Encoding.{EncodesField}
use Rattle.fast_spelling.specs.meaning.Refusals.{RefusesField}
use Rattle.fast_spelling.proofs.quick.choices.choose_known.Goals as goal

pub choose_value-requires-clause-served : goal.choose_value-requires-clause-served
choose_value-requires-clause-served c = subst (λ (g : FieldInstruction). IsServed c.args.ledger.now (field_data g)) (sym c.field.ensures) c.requires.served

pub choose_value-requires-clause-suited : goal.choose_value-requires-clause-suited
choose_value-requires-clause-suited c = subst (λ (g : FieldInstruction). IsSuited c.args.ledger.now.max_text (field_data g)
    (Some (scalar_data c.args.value))) (sym c.field.ensures) c.requires.suited

pub returns-clause-ok : goal.returns-clause-ok
returns-clause-ok c = subst (λ (g : FieldInstruction). OnOk c.choose_value.result ((l : Limits) → l.max_text ≡ c.args.ledger.now.max_text
    → Wrote (EncodesField l (field_data g) c.args.ledger.now.now (Some (scalar_data c.args.value))) c.args.draft.now
    c.choose_value.new.draft c.choose_value.new.ledger.now)) c.field.ensures c.choose_value.ensures.ok

pub returns-clause-err : goal.returns-clause-err
returns-clause-err c = subst (λ (g : FieldInstruction). IfErr c.choose_value.result
    (IsTold (RefusesField (field_data g) c.args.ledger.now.now (Some (scalar_data c.args.value))))) c.field.ensures c.choose_value.ensures.err
