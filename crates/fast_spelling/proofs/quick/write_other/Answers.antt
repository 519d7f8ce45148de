-- The field is handed on with what is known of it.
use Rattle.std.proofs.Common.{subst, ◌≡◌, sym}
use Rattle.std.specs.Prelude.{Some, IfErr}
use Rattle.fast_value.specs.meaning.Values.{scalar_data}
use Rattle.fast_tree.specs.declared.instructions.FieldInstruction.{FieldInstruction}
use Rattle.fast_tree.specs.meaning.Nodes.{field_data}
use Rattle.fast_spelling.specs.meaning.Encoding.{EncodesField}
use Rattle.fast_spelling.specs.device.Fields.{Wrote, IsSuited, IsServed}
use Rattle.fast_spelling.proofs.bytes.Spelling.{on_ok}
use Rattle.fast_tree.specs.declared.operators.Operator.TheVariants.{None as no_operator, Copy, Default, Constant}
use Rattle.fast_spelling.specs.device.Drafts.{IsTold}
use Rattle.fast_spelling.specs.meaning.Refusals.{RefusesField}
use Rattle.fast_spelling.proofs.quick.write_other.Goals as goal

pub returns-in-None-clause-ok : goal.returns-in-None-clause-ok
returns-in-None-clause-ok c = on_ok c.write_plain.result c.write_plain.ensures.ok (λ k l same.
    subst (λ (g : FieldInstruction). Wrote (EncodesField l (field_data g) c.args.ledger.now.now (Some (scalar_data c.args.value)))
    c.args.draft.now c.write_plain.new.draft c.write_plain.new.ledger.now) c.of.ensures (k l same))

pub returns-in-Copy-clause-ok : goal.returns-in-Copy-clause-ok
returns-in-Copy-clause-ok c = on_ok c.write_copied_other.result c.write_copied_other.ensures.ok (λ k l same.
    subst (λ (g : FieldInstruction). Wrote (EncodesField l (field_data g) c.args.ledger.now.now (Some (scalar_data c.args.value)))
    c.args.draft.now c.write_copied_other.new.draft c.write_copied_other.new.ledger.now) c.of-in-Copy.ensures (k l same))

pub returns-in-Default-clause-ok : goal.returns-in-Default-clause-ok
returns-in-Default-clause-ok c = on_ok c.write_default.result c.write_default.ensures.ok (λ k l same.
    subst (λ (g : FieldInstruction). Wrote (EncodesField l (field_data g) c.args.ledger.now.now (Some (scalar_data c.args.value)))
    c.args.draft.now c.write_default.new.draft c.write_default.new.ledger.now) c.of-in-Default.ensures (k l same))

pub returns-in-Constant-clause-ok : goal.returns-in-Constant-clause-ok
returns-in-Constant-clause-ok c = on_ok c.write_constant.result c.write_constant.ensures.ok (λ k l same.
    subst (λ (g : FieldInstruction). Wrote (EncodesField l (field_data g) c.args.ledger.now.now (Some (scalar_data c.args.value)))
    c.args.draft.now c.write_constant.new.draft c.write_constant.new.ledger.now) c.of-in-Constant.ensures (k l same))

pub write_plain-requires-clause-operator : goal.write_plain-requires-clause-operator
write_plain-requires-clause-operator c = subst (λ (g : FieldInstruction). g.operator ≡ no_operator) (sym c.of.ensures) c.in-None.is

pub write_plain-requires-clause-served : goal.write_plain-requires-clause-served
write_plain-requires-clause-served c = subst (λ (g : FieldInstruction). IsServed c.args.ledger.now (field_data g)) (sym c.of.ensures) c.requires.served

pub write_plain-requires-clause-suited : goal.write_plain-requires-clause-suited
write_plain-requires-clause-suited c = subst (λ (g : FieldInstruction). IsSuited c.args.ledger.now.max_text (field_data g)
    (Some (scalar_data c.args.value))) (sym c.of.ensures) c.requires.suited

pub returns-in-None-clause-err : goal.returns-in-None-clause-err
returns-in-None-clause-err c = subst (λ (g : FieldInstruction). IfErr c.write_plain.result
    (IsTold (RefusesField (field_data g) c.args.ledger.now.now (Some (scalar_data c.args.value))))) c.of.ensures c.write_plain.ensures.err

pub returns-in-None-clause-keeps : goal.returns-in-None-clause-keeps
returns-in-None-clause-keeps c = c.write_plain.ensures.keeps

pub write_copied_other-requires-clause-operator : goal.write_copied_other-requires-clause-operator
write_copied_other-requires-clause-operator c = subst (λ (g : FieldInstruction). g.operator ≡ Copy) (sym c.of-in-Copy.ensures) c.in-Copy.is

pub write_copied_other-requires-clause-served : goal.write_copied_other-requires-clause-served
write_copied_other-requires-clause-served c = subst (λ (g : FieldInstruction). IsServed c.args.ledger.now (field_data g))
    (sym c.of-in-Copy.ensures) c.requires.served

pub write_copied_other-requires-clause-suited : goal.write_copied_other-requires-clause-suited
write_copied_other-requires-clause-suited c = subst (λ (g : FieldInstruction). IsSuited c.args.ledger.now.max_text (field_data g)
    (Some (scalar_data c.args.value))) (sym c.of-in-Copy.ensures) c.requires.suited

pub returns-in-Copy-clause-err : goal.returns-in-Copy-clause-err
returns-in-Copy-clause-err c = subst (λ (g : FieldInstruction). IfErr c.write_copied_other.result
    (IsTold (RefusesField (field_data g) c.args.ledger.now.now (Some (scalar_data c.args.value))))) c.of-in-Copy.ensures
    c.write_copied_other.ensures.err

pub returns-in-Copy-clause-keeps : goal.returns-in-Copy-clause-keeps
returns-in-Copy-clause-keeps c = c.write_copied_other.ensures.keeps

pub write_default-requires-clause-operator : goal.write_default-requires-clause-operator
write_default-requires-clause-operator c = subst (λ (g : FieldInstruction). g.operator ≡ Default) (sym c.of-in-Default.ensures) c.in-Default.is

pub write_default-requires-clause-served : goal.write_default-requires-clause-served
write_default-requires-clause-served c = subst (λ (g : FieldInstruction). IsServed c.args.ledger.now (field_data g))
    (sym c.of-in-Default.ensures) c.requires.served

pub write_default-requires-clause-suited : goal.write_default-requires-clause-suited
write_default-requires-clause-suited c = subst (λ (g : FieldInstruction). IsSuited c.args.ledger.now.max_text (field_data g)
    (Some (scalar_data c.args.value))) (sym c.of-in-Default.ensures) c.requires.suited

pub returns-in-Default-clause-err : goal.returns-in-Default-clause-err
returns-in-Default-clause-err c = subst (λ (g : FieldInstruction). IfErr c.write_default.result
    (IsTold (RefusesField (field_data g) c.args.ledger.now.now (Some (scalar_data c.args.value))))) c.of-in-Default.ensures
    c.write_default.ensures.err

pub returns-in-Default-clause-keeps : goal.returns-in-Default-clause-keeps
returns-in-Default-clause-keeps c = c.write_default.ensures.keeps

pub write_constant-requires-clause-operator : goal.write_constant-requires-clause-operator
write_constant-requires-clause-operator c = subst (λ (g : FieldInstruction). g.operator ≡ Constant) (sym c.of-in-Constant.ensures) c.in-Constant.is

pub write_constant-requires-clause-served : goal.write_constant-requires-clause-served
write_constant-requires-clause-served c = subst (λ (g : FieldInstruction). IsServed c.args.ledger.now (field_data g))
    (sym c.of-in-Constant.ensures) c.requires.served

pub write_constant-requires-clause-suited : goal.write_constant-requires-clause-suited
write_constant-requires-clause-suited c = subst (λ (g : FieldInstruction). IsSuited c.args.ledger.now.max_text (field_data g)
    (Some (scalar_data c.args.value))) (sym c.of-in-Constant.ensures) c.requires.suited

pub returns-in-Constant-clause-err : goal.returns-in-Constant-clause-err
returns-in-Constant-clause-err c = subst (λ (g : FieldInstruction). IfErr c.write_constant.result
    (IsTold (RefusesField (field_data g) c.args.ledger.now.now (Some (scalar_data c.args.value))))) c.of-in-Constant.ensures
    c.write_constant.ensures.err

pub returns-in-Constant-clause-keeps : goal.returns-in-Constant-clause-keeps
returns-in-Constant-clause-keeps c = c.write_constant.ensures.keeps

pub choose_value-requires-clause-served : goal.choose_value-requires-clause-served
choose_value-requires-clause-served c = c.requires.served

pub choose_value-requires-clause-suited : goal.choose_value-requires-clause-suited
choose_value-requires-clause-suited c = c.requires.suited

pub returns-in-Increment-clause-ok : goal.returns-in-Increment-clause-ok
returns-in-Increment-clause-ok c = c.choose_value.ensures.ok

pub returns-in-Increment-clause-err : goal.returns-in-Increment-clause-err
returns-in-Increment-clause-err c = c.choose_value.ensures.err

pub returns-in-Increment-clause-keeps : goal.returns-in-Increment-clause-keeps
returns-in-Increment-clause-keeps c = c.choose_value.ensures.keeps
