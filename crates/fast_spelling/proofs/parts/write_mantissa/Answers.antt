-- A mantissa is handed on, and the field with what is known of it.
use Rattle.std.proofs.Common.{◌≡◌, ◌∙◌, ℤ, subst, to_z, of_z, sym, ℕ, FitsSigned}
use Rattle.std.specs.Prelude.{Some}
use Rattle.std.specs.Int.{w64}
use Rattle.std.proofs.lemmas.Int.{to_z-of_z}
use Rattle.fast_value.specs.meaning.Kinds.{I}
use Rattle.fast_tree.specs.declared.instructions.FieldInstruction.{FieldInstruction}
use Rattle.fast_tree.specs.meaning.Nodes.{field_data}
use Rattle.fast_spelling.specs.meaning.Encoding.{EncodesField}
use Rattle.fast_spelling.specs.device.Fields.{Wrote, IsSuited, IsServed}
use Rattle.fast_spelling.specs.meaning.Refusals.{RefusesField}
use Rattle.fast_spelling.proofs.bytes.Spelling.{on_ok}
use Rattle.fast_spelling.proofs.encodings.Instructions.{told}
use Rattle.fast_tree.specs.meaning.Tree.{FieldData}
use Rattle.fast_tree.specs.declared.operators.Operator.TheVariants.{Delta}
use Rattle.fast_spelling.proofs.parts.write_mantissa.Goals as goal

-- the number as it is handed on is the number
suited_here : (m : ℕ) (f : FieldData) (n : ℤ) → FitsSigned w64 n → IsSuited m f (Some (I n)) → IsSuited m f (Some (I (to_z w64 (of_z w64 n))))
suited_here m f n fits h = subst (λ (x : ℤ). IsSuited m f (Some (I x))) (sym (to_z-of_z w64 n fits)) h

pub returns-in-Delta-clause-ok : goal.returns-in-Delta-clause-ok
returns-in-Delta-clause-ok c = on_ok c.write_difference.result c.write_difference.ensures.ok (λ k l same.
    let is : to_z w64 (of_z w64 c.args.number) ≡ c.args.number = to_z-of_z w64 c.args.number c.ranges.number in
    subst (λ (n : ℤ). Wrote (EncodesField l (field_data c.args.field.now) c.args.ledger.now.now (Some (I n))) c.args.draft.now
    c.write_difference.new.draft c.write_difference.new.ledger.now) is
    (subst (λ (g : FieldInstruction). Wrote (EncodesField l (field_data g) c.args.ledger.now.now
    (Some (I (to_z w64 (of_z w64 c.args.number))))) c.args.draft.now c.write_difference.new.draft c.write_difference.new.ledger.now)
    c.of.ensures (k l same)))

pub returns-in-Delta-clause-err : goal.returns-in-Delta-clause-err
returns-in-Delta-clause-err c = told c.write_difference.result c.write_difference.ensures.err (λ f h.
    let is : to_z w64 (of_z w64 c.args.number) ≡ c.args.number = to_z-of_z w64 c.args.number c.ranges.number in
    subst (λ (n : ℤ). RefusesField (field_data c.args.field.now) c.args.ledger.now.now (Some (I n)) f) is
    (subst (λ (g : FieldInstruction). RefusesField (field_data g) c.args.ledger.now.now (Some (I (to_z w64 (of_z w64 c.args.number)))) f) c.of.ensures h))

pub write_difference-requires-clause-operator : goal.write_difference-requires-clause-operator
write_difference-requires-clause-operator c = subst (λ (g : FieldInstruction). g.operator ≡ Delta) (sym c.of.ensures) (c.requires.operator ∙ c.in-Delta.is)

pub write_difference-requires-clause-served : goal.write_difference-requires-clause-served
write_difference-requires-clause-served c = subst (λ (g : FieldInstruction). IsServed c.args.ledger.now (field_data g)) (sym c.of.ensures) c.requires.served

pub write_difference-requires-clause-suited : goal.write_difference-requires-clause-suited
write_difference-requires-clause-suited c = subst (λ (g : FieldInstruction). IsSuited c.args.ledger.now.max_text (field_data g)
    (Some (I (to_z w64 (of_z w64 c.args.number))))) (sym c.of.ensures)
    (suited_here c.args.ledger.now.max_text (field_data c.args.field.now) c.args.number c.ranges.number c.requires.suited)

pub returns-in-Delta-clause-keeps : goal.returns-in-Delta-clause-keeps
returns-in-Delta-clause-keeps c = c.write_difference.ensures.keeps

pub returns-in_default-clause-ok : goal.returns-in_default-clause-ok
returns-in_default-clause-ok c = on_ok c.write_signed.result c.write_signed.ensures.ok (λ k l same.
    let is : to_z w64 (of_z w64 c.args.number) ≡ c.args.number = to_z-of_z w64 c.args.number c.ranges.number in
    subst (λ (n : ℤ). Wrote (EncodesField l (field_data c.args.field.now) c.args.ledger.now.now (Some (I n))) c.args.draft.now
    c.write_signed.new.draft c.write_signed.new.ledger.now) is (k l same))

pub returns-in_default-clause-err : goal.returns-in_default-clause-err
returns-in_default-clause-err c = told c.write_signed.result c.write_signed.ensures.err (λ f h.
    let is : to_z w64 (of_z w64 c.args.number) ≡ c.args.number = to_z-of_z w64 c.args.number c.ranges.number in
    subst (λ (n : ℤ). RefusesField (field_data c.args.field.now) c.args.ledger.now.now (Some (I n)) f) is h)

pub write_signed-requires-clause-served : goal.write_signed-requires-clause-served
write_signed-requires-clause-served c = c.requires.served

pub write_signed-requires-clause-suited : goal.write_signed-requires-clause-suited
write_signed-requires-clause-suited c = suited_here c.args.ledger.now.max_text (field_data c.args.field.now) c.args.number c.ranges.number c.requires.suited

pub returns-in_default-clause-keeps : goal.returns-in_default-clause-keeps
returns-in_default-clause-keeps c = c.write_signed.ensures.keeps
