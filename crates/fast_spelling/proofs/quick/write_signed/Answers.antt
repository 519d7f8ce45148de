-- A signed integer is handed on, and the field with what is known of it.
use Rattle.std.proofs.Common.{◌≡◌, ℤ, subst, to_z, of_z, sym, ℕ, FitsSigned}
use Rattle.std.specs.Prelude.{Some}
use Rattle.std.specs.Int.{w64}
use Rattle.std.proofs.lemmas.Int.{to_z-of_z}
use Rattle.fast_value.specs.meaning.Kinds.{I}
use Rattle.fast_tree.specs.declared.instructions.FieldInstruction.{FieldInstruction}
use Rattle.fast_tree.specs.meaning.Nodes.{field_data}
use Rattle.fast_spelling.specs.meaning.Encoding.{EncodesField}
use Rattle.fast_spelling.specs.device.Fields.{Wrote, IsSuited, IsServed}
use Rattle.fast_spelling.specs.meaning.Refusals.{RefusesField}
use Rattle.fast_spelling.proofs.bytes.Spelling.{on_ok}
use Rattle.fast_spelling.proofs.encodings.Instructions.{told}
use Rattle.fast_tree.specs.meaning.Tree.{FieldData}
use Rattle.fast_tree.specs.declared.operators.Operator.TheVariants.{None as no_operator, Constant, Default, Copy, Increment, Delta}
use Rattle.fast_spelling.proofs.quick.write_signed.Goals as goal

-- the number as it is handed on is the number
suited_here : (m : ℕ) (f : FieldData) (n : ℤ) → FitsSigned w64 n → IsSuited m f (Some (I n)) → IsSuited m f (Some (I (to_z w64 (of_z w64 n))))
suited_here m f n fits h = subst (λ (x : ℤ). IsSuited m f (Some (I x))) (sym (to_z-of_z w64 n fits)) h

pub returns-in-None-clause-ok : goal.returns-in-None-clause-ok
returns-in-None-clause-ok c = on_ok c.write_plain.result c.write_plain.ensures.ok (λ k l same.
    let is : to_z w64 (of_z w64 c.args.number) ≡ c.args.number = to_z-of_z w64 c.args.number c.ranges.number in
    subst (λ (n : ℤ). Wrote (EncodesField l (field_data c.args.field.now) c.args.ledger.now.now (Some (I n))) c.args.draft.now
    c.write_plain.new.draft c.write_plain.new.ledger.now) is
    (subst (λ (g : FieldInstruction). Wrote (EncodesField l (field_data g) c.args.ledger.now.now
    (Some (I (to_z w64 (of_z w64 c.args.number))))) c.args.draft.now c.write_plain.new.draft c.write_plain.new.ledger.now) c.of.ensures
    (k l same)))

pub returns-in-None-clause-err : goal.returns-in-None-clause-err
returns-in-None-clause-err c = told c.write_plain.result c.write_plain.ensures.err (λ f h.
    let is : to_z w64 (of_z w64 c.args.number) ≡ c.args.number = to_z-of_z w64 c.args.number c.ranges.number in
    subst (λ (n : ℤ). RefusesField (field_data c.args.field.now) c.args.ledger.now.now (Some (I n)) f) is
    (subst (λ (g : FieldInstruction). RefusesField (field_data g) c.args.ledger.now.now (Some (I (to_z w64 (of_z w64 c.args.number)))) f) c.of.ensures h))

pub returns-in-Copy-clause-ok : goal.returns-in-Copy-clause-ok
returns-in-Copy-clause-ok c = on_ok c.write_copied.result c.write_copied.ensures.ok (λ k l same.
    let is : to_z w64 (of_z w64 c.args.number) ≡ c.args.number = to_z-of_z w64 c.args.number c.ranges.number in
    subst (λ (n : ℤ). Wrote (EncodesField l (field_data c.args.field.now) c.args.ledger.now.now (Some (I n))) c.args.draft.now
    c.write_copied.new.draft c.write_copied.new.ledger.now) is
    (subst (λ (g : FieldInstruction). Wrote (EncodesField l (field_data g) c.args.ledger.now.now
    (Some (I (to_z w64 (of_z w64 c.args.number))))) c.args.draft.now c.write_copied.new.draft c.write_copied.new.ledger.now)
    c.of-in-Copy.ensures (k l same)))

pub returns-in-Copy-clause-err : goal.returns-in-Copy-clause-err
returns-in-Copy-clause-err c = told c.write_copied.result c.write_copied.ensures.err (λ f h.
    let is : to_z w64 (of_z w64 c.args.number) ≡ c.args.number = to_z-of_z w64 c.args.number c.ranges.number in
    subst (λ (n : ℤ). RefusesField (field_data c.args.field.now) c.args.ledger.now.now (Some (I n)) f) is
    (subst (λ (g : FieldInstruction). RefusesField (field_data g) c.args.ledger.now.now (Some (I (to_z w64 (of_z w64 c.args.number)))) f)
    c.of-in-Copy.ensures h))

pub returns-in-Increment-clause-ok : goal.returns-in-Increment-clause-ok
returns-in-Increment-clause-ok c = on_ok c.write_next.result c.write_next.ensures.ok (λ k l same.
    let is : to_z w64 (of_z w64 c.args.number) ≡ c.args.number = to_z-of_z w64 c.args.number c.ranges.number in
    subst (λ (n : ℤ). Wrote (EncodesField l (field_data c.args.field.now) c.args.ledger.now.now (Some (I n))) c.args.draft.now
    c.write_next.new.draft c.write_next.new.ledger.now) is
    (subst (λ (g : FieldInstruction). Wrote (EncodesField l (field_data g) c.args.ledger.now.now
    (Some (I (to_z w64 (of_z w64 c.args.number))))) c.args.draft.now c.write_next.new.draft c.write_next.new.ledger.now)
    c.of-in-Increment.ensures (k l same)))

pub returns-in-Increment-clause-err : goal.returns-in-Increment-clause-err
returns-in-Increment-clause-err c = told c.write_next.result c.write_next.ensures.err (λ f h.
    let is : to_z w64 (of_z w64 c.args.number) ≡ c.args.number = to_z-of_z w64 c.args.number c.ranges.number in
    subst (λ (n : ℤ). RefusesField (field_data c.args.field.now) c.args.ledger.now.now (Some (I n)) f) is
    (subst (λ (g : FieldInstruction). RefusesField (field_data g) c.args.ledger.now.now (Some (I (to_z w64 (of_z w64 c.args.number)))) f)
    c.of-in-Increment.ensures h))

pub returns-in-Delta-clause-ok : goal.returns-in-Delta-clause-ok
returns-in-Delta-clause-ok c = on_ok c.write_difference.result c.write_difference.ensures.ok (λ k l same.
    let is : to_z w64 (of_z w64 c.args.number) ≡ c.args.number = to_z-of_z w64 c.args.number c.ranges.number in
    subst (λ (n : ℤ). Wrote (EncodesField l (field_data c.args.field.now) c.args.ledger.now.now (Some (I n))) c.args.draft.now
    c.write_difference.new.draft c.write_difference.new.ledger.now) is
    (subst (λ (g : FieldInstruction). Wrote (EncodesField l (field_data g) c.args.ledger.now.now
    (Some (I (to_z w64 (of_z w64 c.args.number))))) c.args.draft.now c.write_difference.new.draft c.write_difference.new.ledger.now)
    c.of-in-Delta.ensures (k l same)))

pub returns-in-Delta-clause-err : goal.returns-in-Delta-clause-err
returns-in-Delta-clause-err c = told c.write_difference.result c.write_difference.ensures.err (λ f h.
    let is : to_z w64 (of_z w64 c.args.number) ≡ c.args.number = to_z-of_z w64 c.args.number c.ranges.number in
    subst (λ (n : ℤ). RefusesField (field_data c.args.field.now) c.args.ledger.now.now (Some (I n)) f) is
    (subst (λ (g : FieldInstruction). RefusesField (field_data g) c.args.ledger.now.now (Some (I (to_z w64 (of_z w64 c.args.number)))) f)
    c.of-in-Delta.ensures h))

pub returns-in-Default-clause-ok : goal.returns-in-Default-clause-ok
returns-in-Default-clause-ok c = on_ok c.write_default.result c.write_default.ensures.ok (λ k l same.
    let is : to_z w64 (of_z w64 c.args.number) ≡ c.args.number = to_z-of_z w64 c.args.number c.ranges.number in
    subst (λ (n : ℤ). Wrote (EncodesField l (field_data c.args.field.now) c.args.ledger.now.now (Some (I n))) c.args.draft.now
    c.write_default.new.draft c.write_default.new.ledger.now) is
    (subst (λ (g : FieldInstruction). Wrote (EncodesField l (field_data g) c.args.ledger.now.now
    (Some (I (to_z w64 (of_z w64 c.args.number))))) c.args.draft.now c.write_default.new.draft c.write_default.new.ledger.now)
    c.of-in-Default.ensures (k l same)))

pub returns-in-Default-clause-err : goal.returns-in-Default-clause-err
returns-in-Default-clause-err c = told c.write_default.result c.write_default.ensures.err (λ f h.
    let is : to_z w64 (of_z w64 c.args.number) ≡ c.args.number = to_z-of_z w64 c.args.number c.ranges.number in
    subst (λ (n : ℤ). RefusesField (field_data c.args.field.now) c.args.ledger.now.now (Some (I n)) f) is
    (subst (λ (g : FieldInstruction). RefusesField (field_data g) c.args.ledger.now.now (Some (I (to_z w64 (of_z w64 c.args.number)))) f)
    c.of-in-Default.ensures h))

pub returns-in-Constant-clause-ok : goal.returns-in-Constant-clause-ok
returns-in-Constant-clause-ok c = on_ok c.write_constant.result c.write_constant.ensures.ok (λ k l same.
    let is : to_z w64 (of_z w64 c.args.number) ≡ c.args.number = to_z-of_z w64 c.args.number c.ranges.number in
    subst (λ (n : ℤ). Wrote (EncodesField l (field_data c.args.field.now) c.args.ledger.now.now (Some (I n))) c.args.draft.now
    c.write_constant.new.draft c.write_constant.new.ledger.now) is
    (subst (λ (g : FieldInstruction). Wrote (EncodesField l (field_data g) c.args.ledger.now.now
    (Some (I (to_z w64 (of_z w64 c.args.number))))) c.args.draft.now c.write_constant.new.draft c.write_constant.new.ledger.now)
    c.of-in-Constant.ensures (k l same)))

pub returns-in-Constant-clause-err : goal.returns-in-Constant-clause-err
returns-in-Constant-clause-err c = told c.write_constant.result c.write_constant.ensures.err (λ f h.
    let is : to_z w64 (of_z w64 c.args.number) ≡ c.args.number = to_z-of_z w64 c.args.number c.ranges.number in
    subst (λ (n : ℤ). RefusesField (field_data c.args.field.now) c.args.ledger.now.now (Some (I n)) f) is
    (subst (λ (g : FieldInstruction). RefusesField (field_data g) c.args.ledger.now.now (Some (I (to_z w64 (of_z w64 c.args.number)))) f)
    c.of-in-Constant.ensures h))

pub returns-in-Tail-clause-ok : goal.returns-in-Tail-clause-ok
returns-in-Tail-clause-ok c = on_ok c.choose_value.result c.choose_value.ensures.ok (λ k l same.
    let is : to_z w64 (of_z w64 c.args.number) ≡ c.args.number = to_z-of_z w64 c.args.number c.ranges.number in
    subst (λ (n : ℤ). Wrote (EncodesField l (field_data c.args.field.now) c.args.ledger.now.now (Some (I n))) c.args.draft.now
    c.choose_value.new.draft c.choose_value.new.ledger.now) is (k l same))

pub returns-in-Tail-clause-err : goal.returns-in-Tail-clause-err
returns-in-Tail-clause-err c = told c.choose_value.result c.choose_value.ensures.err (λ f h.
    let is : to_z w64 (of_z w64 c.args.number) ≡ c.args.number = to_z-of_z w64 c.args.number c.ranges.number in
    subst (λ (n : ℤ). RefusesField (field_data c.args.field.now) c.args.ledger.now.now (Some (I n)) f) is h)

pub write_plain-requires-clause-operator : goal.write_plain-requires-clause-operator
write_plain-requires-clause-operator c = subst (λ (g : FieldInstruction). g.operator ≡ no_operator) (sym c.of.ensures) c.in-None.is

pub write_plain-requires-clause-served : goal.write_plain-requires-clause-served
write_plain-requires-clause-served c = subst (λ (g : FieldInstruction). IsServed c.args.ledger.now (field_data g)) (sym c.of.ensures) c.requires.served

pub write_plain-requires-clause-suited : goal.write_plain-requires-clause-suited
write_plain-requires-clause-suited c = subst (λ (g : FieldInstruction). IsSuited c.args.ledger.now.max_text (field_data g)
    (Some (I (to_z w64 (of_z w64 c.args.number))))) (sym c.of.ensures)
    (suited_here c.args.ledger.now.max_text (field_data c.args.field.now) c.args.number c.ranges.number c.requires.suited)

pub returns-in-None-clause-keeps : goal.returns-in-None-clause-keeps
returns-in-None-clause-keeps c = c.write_plain.ensures.keeps

pub write_copied-requires-clause-operator : goal.write_copied-requires-clause-operator
write_copied-requires-clause-operator c = subst (λ (g : FieldInstruction). g.operator ≡ Copy) (sym c.of-in-Copy.ensures) c.in-Copy.is

pub write_copied-requires-clause-served : goal.write_copied-requires-clause-served
write_copied-requires-clause-served c = subst (λ (g : FieldInstruction). IsServed c.args.ledger.now (field_data g)) (sym c.of-in-Copy.ensures) c.requires.served

pub write_copied-requires-clause-suited : goal.write_copied-requires-clause-suited
write_copied-requires-clause-suited c = subst (λ (g : FieldInstruction). IsSuited c.args.ledger.now.max_text (field_data g)
    (Some (I (to_z w64 (of_z w64 c.args.number))))) (sym c.of-in-Copy.ensures)
    (suited_here c.args.ledger.now.max_text (field_data c.args.field.now) c.args.number c.ranges.number c.requires.suited)

pub returns-in-Copy-clause-keeps : goal.returns-in-Copy-clause-keeps
returns-in-Copy-clause-keeps c = c.write_copied.ensures.keeps

pub write_next-requires-clause-operator : goal.write_next-requires-clause-operator
write_next-requires-clause-operator c = subst (λ (g : FieldInstruction). g.operator ≡ Increment) (sym c.of-in-Increment.ensures) c.in-Increment.is

pub write_next-requires-clause-served : goal.write_next-requires-clause-served
write_next-requires-clause-served c = subst (λ (g : FieldInstruction). IsServed c.args.ledger.now (field_data g))
    (sym c.of-in-Increment.ensures) c.requires.served

pub write_next-requires-clause-suited : goal.write_next-requires-clause-suited
write_next-requires-clause-suited c = subst (λ (g : FieldInstruction). IsSuited c.args.ledger.now.max_text (field_data g)
    (Some (I (to_z w64 (of_z w64 c.args.number))))) (sym c.of-in-Increment.ensures)
    (suited_here c.args.ledger.now.max_text (field_data c.args.field.now) c.args.number c.ranges.number c.requires.suited)

pub returns-in-Increment-clause-keeps : goal.returns-in-Increment-clause-keeps
returns-in-Increment-clause-keeps c = c.write_next.ensures.keeps

pub write_difference-requires-clause-operator : goal.write_difference-requires-clause-operator
write_difference-requires-clause-operator c = subst (λ (g : FieldInstruction). g.operator ≡ Delta) (sym c.of-in-Delta.ensures) c.in-Delta.is

pub write_difference-requires-clause-served : goal.write_difference-requires-clause-served
write_difference-requires-clause-served c = subst (λ (g : FieldInstruction). IsServed c.args.ledger.now (field_data g))
    (sym c.of-in-Delta.ensures) c.requires.served

pub write_difference-requires-clause-suited : goal.write_difference-requires-clause-suited
write_difference-requires-clause-suited c = subst (λ (g : FieldInstruction). IsSuited c.args.ledger.now.max_text (field_data g)
    (Some (I (to_z w64 (of_z w64 c.args.number))))) (sym c.of-in-Delta.ensures)
    (suited_here c.args.ledger.now.max_text (field_data c.args.field.now) c.args.number c.ranges.number c.requires.suited)

pub returns-in-Delta-clause-keeps : goal.returns-in-Delta-clause-keeps
returns-in-Delta-clause-keeps c = c.write_difference.ensures.keeps

pub write_default-requires-clause-operator : goal.write_default-requires-clause-operator
write_default-requires-clause-operator c = subst (λ (g : FieldInstruction). g.operator ≡ Default) (sym c.of-in-Default.ensures) c.in-Default.is

pub write_default-requires-clause-served : goal.write_default-requires-clause-served
write_default-requires-clause-served c = subst (λ (g : FieldInstruction). IsServed c.args.ledger.now (field_data g))
    (sym c.of-in-Default.ensures) c.requires.served

pub write_default-requires-clause-suited : goal.write_default-requires-clause-suited
write_default-requires-clause-suited c = subst (λ (g : FieldInstruction). IsSuited c.args.ledger.now.max_text (field_data g)
    (Some (I (to_z w64 (of_z w64 c.args.number))))) (sym c.of-in-Default.ensures)
    (suited_here c.args.ledger.now.max_text (field_data c.args.field.now) c.args.number c.ranges.number c.requires.suited)

pub returns-in-Default-clause-keeps : goal.returns-in-Default-clause-keeps
returns-in-Default-clause-keeps c = c.write_default.ensures.keeps

pub write_constant-requires-clause-operator : goal.write_constant-requires-clause-operator
write_constant-requires-clause-operator c = subst (λ (g : FieldInstruction). g.operator ≡ Constant) (sym c.of-in-Constant.ensures) c.in-Constant.is

pub write_constant-requires-clause-served : goal.write_constant-requires-clause-served
write_constant-requires-clause-served c = subst (λ (g : FieldInstruction). IsServed c.args.ledger.now (field_data g))
    (sym c.of-in-Constant.ensures) c.requires.served

pub write_constant-requires-clause-suited : goal.write_constant-requires-clause-suited
write_constant-requires-clause-suited c = subst (λ (g : FieldInstruction). IsSuited c.args.ledger.now.max_text (field_data g)
    (Some (I (to_z w64 (of_z w64 c.args.number))))) (sym c.of-in-Constant.ensures)
    (suited_here c.args.ledger.now.max_text (field_data c.args.field.now) c.args.number c.ranges.number c.requires.suited)

pub returns-in-Constant-clause-keeps : goal.returns-in-Constant-clause-keeps
returns-in-Constant-clause-keeps c = c.write_constant.ensures.keeps

pub choose_value-requires-clause-served : goal.choose_value-requires-clause-served
choose_value-requires-clause-served c = c.requires.served

pub choose_value-requires-clause-suited : goal.choose_value-requires-clause-suited
choose_value-requires-clause-suited c = suited_here c.args.ledger.now.max_text (field_data c.args.field.now) c.args.number c.ranges.number c.requires.suited

pub returns-in-Tail-clause-keeps : goal.returns-in-Tail-clause-keeps
returns-in-Tail-clause-keeps c = c.choose_value.ensures.keeps
