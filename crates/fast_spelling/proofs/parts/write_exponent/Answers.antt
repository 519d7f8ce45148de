-- An exponent that its operator implies leaves its bit clear, and any other is handed on.
use Rattle.std.proofs.Common.{◌≡◌, ◌∙◌, [], ◌∷◌, ℤ, subst, to_z, of_z, sym, refl, ℕ, FitsSigned}
use Rattle.std.specs.Prelude.{false, Some}
use Rattle.std.proofs.lemmas.List.{append-nil}
use Rattle.std.specs.Int.{w64}
use Rattle.std.proofs.lemmas.Int.{to_z-of_z}
use Rattle.fast_value.specs.meaning.Kinds.{I}
use Rattle.fast_tree.specs.declared.instructions.FieldInstruction.{FieldInstruction}
use Rattle.fast_tree.specs.meaning.Nodes.{field_data}
use Rattle.fast_spelling.specs.meaning.Encoding.{EncodesField}
use Rattle.fast_spelling.specs.device.Fields.{Wrote, IsSuited, IsServed}
use Rattle.fast_spelling.specs.meaning.Refusals.{RefusesField}
use Rattle.fast_spelling.proofs.bytes.Spelling.{on_ok}
use Rattle.fast_spelling.proofs.encodings.Instructions.{told}
use Rattle.fast_tree.specs.meaning.Tree.{FieldData}
use Rattle.fast_dict.specs.meaning.Dictionary.{previous_at, assigned}
use Rattle.fast_spelling.proofs.rules.Usual.{copy_passed, default_passed}
use Rattle.fast_spelling.proofs.parts.write_exponent.Goals as goal

-- the number as it is handed on is the number
suited_here : (m : ℕ) (f : FieldData) (n : ℤ) → FitsSigned w64 n → IsSuited m f (Some (I n)) → IsSuited m f (Some (I (to_z w64 (of_z w64 n))))
suited_here m f n fits h = subst (λ (x : ℤ). IsSuited m f (Some (I x))) (sym (to_z-of_z w64 n fits)) h

pub is_held-requires : goal.is_held-requires
is_held-requires c = subst (λ (g : FieldInstruction). IsServed c.args.ledger.now (field_data g)) (sym c.of-at.ensures) c.requires.served

pub write_signed-requires-clause-served : goal.write_signed-requires-clause-served
write_signed-requires-clause-served c = c.requires.served

pub write_signed-requires-clause-suited : goal.write_signed-requires-clause-suited
write_signed-requires-clause-suited c = suited_here c.args.ledger.now.max_text (field_data c.args.field.now) c.args.number c.ranges.number c.requires.suited

pub returns-in_ok-push_bit-in-Copy-clause-ok : goal.returns-in_ok-push_bit-in-Copy-clause-ok
returns-in_ok-push_bit-in-Copy-clause-ok c = λ l same.
    let f = field_data c.args.field.now in
    let d = c.args.ledger.now.now in
    let is : to_z w64 (of_z w64 c.args.number) ≡ c.args.number = to_z-of_z w64 c.args.number c.ranges.number in (
      false ∷ [],
      [],
      c.in_ok-push_bit-in-Copy.ensures.bits,
      c.push_bit-in-Copy.ensures.bytes ∙ sym (append-nil c.args.draft.now.bytes.items),
      copy_passed l f d (I c.args.number) (c.requires.operator ∙ c.in-Copy.is) c.requires.served.usable.tail
          (subst (λ (m : ℕ). IsSuited m f (Some (I c.args.number))) (sym same) c.requires.suited)
          (subst (λ (n : ℤ). previous_at f.entry d ≡ assigned f.kind (I n)) is
          (subst (λ (g : FieldInstruction). previous_at (field_data g).entry d ≡ assigned (field_data g).kind (I (to_z w64 (of_z w64 c.args.number))))
          c.of-at.ensures (c.if-is_held.ensures refl))),
    )

pub returns-in_ok-push_bit-in-Default-clause-ok : goal.returns-in_ok-push_bit-in-Default-clause-ok
returns-in_ok-push_bit-in-Default-clause-ok c = λ l same.
    let f = field_data c.args.field.now in
    let is : to_z w64 (of_z w64 c.args.number) ≡ c.args.number = to_z-of_z w64 c.args.number c.ranges.number in (
      false ∷ [],
      [],
      c.in_ok-push_bit-in-Default.ensures.bits,
      c.push_bit.ensures.bytes ∙ sym (append-nil c.args.draft.now.bytes.items),
      default_passed l f c.args.ledger.now.now (I c.args.number) (c.requires.operator ∙ c.in-Default.is) c.requires.served.usable.tail
          (subst (λ (m : ℕ). IsSuited m f (Some (I c.args.number))) (sym same) c.requires.suited)
          (subst (λ (n : ℤ). f.initial ≡ Some (I n)) is
          (subst (λ (g : FieldInstruction). (field_data g).initial ≡ Some (I (to_z w64 (of_z w64 c.args.number)))) c.of-at.ensures
          (c.if-is_initial.ensures.0 refl))),
    )

pub returns-in_default-clause-ok : goal.returns-in_default-clause-ok
returns-in_default-clause-ok c = on_ok c.write_signed.result c.write_signed.ensures.ok (λ k l same.
    let is : to_z w64 (of_z w64 c.args.number) ≡ c.args.number = to_z-of_z w64 c.args.number c.ranges.number in
    subst (λ (n : ℤ). Wrote (EncodesField l (field_data c.args.field.now) c.args.ledger.now.now (Some (I n))) c.args.draft.now
    c.write_signed.new.draft c.write_signed.new.ledger.now) is (k l same))

pub returns-in_default-clause-err : goal.returns-in_default-clause-err
returns-in_default-clause-err c = told c.write_signed.result c.write_signed.ensures.err (λ f h.
    let is : to_z w64 (of_z w64 c.args.number) ≡ c.args.number = to_z-of_z w64 c.args.number c.ranges.number in
    subst (λ (n : ℤ). RefusesField (field_data c.args.field.now) c.args.ledger.now.now (Some (I n)) f) is h)

pub returns-in_default-clause-keeps : goal.returns-in_default-clause-keeps
returns-in_default-clause-keeps c = c.write_signed.ensures.keeps
