-- The parts of a decimal are handed on, to the rule.
use Rattle.std.proofs.Common.{◌≡◌, ℤ, subst, rules, to_z, of_z}
use Rattle.std.specs.Prelude.{Some}
use Rattle.std.specs.Int.{w32, w64}
use Rattle.std.proofs.lemmas.Int.{to_z-of_z}
use Rattle.fast_value.specs.meaning.Kinds.{Dec}
use Rattle.fast_tree.specs.declared.instructions.FieldInstruction.{FieldInstruction}
use Rattle.fast_tree.specs.meaning.Nodes.{field_data}
use Rattle.fast_spelling.specs.meaning.Encoding.{EncodesField}
use Rattle.fast_spelling.specs.device.Fields.{Wrote}
use Rattle.fast_spelling.specs.meaning.Refusals.{RefusesField}
use Rattle.fast_spelling.proofs.bytes.Spelling.{on_ok}
use Rattle.fast_spelling.proofs.encodings.Instructions.{told}
use Rattle.fast_spelling.proofs.quick.choices.choose_decimal.Goals as goal

pub returns-clause-ok : goal.returns-clause-ok
returns-clause-ok c = on_ok c.write_chosen.result c.write_chosen.ensures.ok (λ k l same.
    let e : to_z w32 (of_z w32 c.args.exponent) ≡ c.args.exponent = to_z-of_z w32 c.args.exponent (search rules) in
    let m : to_z w64 (of_z w64 c.args.mantissa) ≡ c.args.mantissa = to_z-of_z w64 c.args.mantissa (search rules) in
    subst (λ (n : ℤ). Wrote (EncodesField l (field_data c.args.field.now) c.args.ledger.now.now (Some (Dec c.args.exponent n)))
    c.args.draft.now c.write_chosen.new.draft c.write_chosen.new.ledger.now) m
    (subst (λ (n : ℤ). Wrote (EncodesField l (field_data c.args.field.now) c.args.ledger.now.now
    (Some (Dec n (to_z w64 (of_z w64 c.args.mantissa))))) c.args.draft.now c.write_chosen.new.draft c.write_chosen.new.ledger.now) e
    (k l same)))

pub returns-clause-err : goal.returns-clause-err
returns-clause-err c = told c.write_chosen.result c.write_chosen.ensures.err (λ f h.
    let e : to_z w32 (of_z w32 c.args.exponent) ≡ c.args.exponent = to_z-of_z w32 c.args.exponent (search rules) in
    let m : to_z w64 (of_z w64 c.args.mantissa) ≡ c.args.mantissa = to_z-of_z w64 c.args.mantissa (search rules) in
    subst (λ (n : ℤ). RefusesField (field_data c.args.field.now) c.args.ledger.now.now (Some (Dec c.args.exponent n)) f) m
    (subst (λ (n : ℤ). RefusesField (field_data c.args.field.now) c.args.ledger.now.now (Some (Dec n (to_z w64 (of_z w64 c.args.mantissa)))) f) e h))

pub returns-then-eq-clause-ok : goal.returns-then-eq-clause-ok
returns-then-eq-clause-ok c = on_ok c.write_decimal_delta.result c.write_decimal_delta.ensures.ok (λ k l same.
    let e : to_z w32 (of_z w32 c.args.exponent) ≡ c.args.exponent = to_z-of_z w32 c.args.exponent (search rules) in
    let m : to_z w64 (of_z w64 c.args.mantissa) ≡ c.args.mantissa = to_z-of_z w64 c.args.mantissa (search rules) in
    let whole = subst (λ (g : FieldInstruction). Wrote (EncodesField l (field_data g) c.args.ledger.now.now
    (Some (Dec (to_z w32 (of_z w32 c.args.exponent)) (to_z w64 (of_z w64 c.args.mantissa))))) c.args.draft.now
    c.write_decimal_delta.new.draft c.write_decimal_delta.new.ledger.now) c.of.ensures (k l same) in
    subst (λ (n : ℤ). Wrote (EncodesField l (field_data c.args.field.now) c.args.ledger.now.now (Some (Dec c.args.exponent n)))
    c.args.draft.now c.write_decimal_delta.new.draft c.write_decimal_delta.new.ledger.now) m
    (subst (λ (n : ℤ). Wrote (EncodesField l (field_data c.args.field.now) c.args.ledger.now.now
    (Some (Dec n (to_z w64 (of_z w64 c.args.mantissa))))) c.args.draft.now c.write_decimal_delta.new.draft
    c.write_decimal_delta.new.ledger.now) e whole))

pub returns-then-eq-clause-err : goal.returns-then-eq-clause-err
returns-then-eq-clause-err c = told c.write_decimal_delta.result c.write_decimal_delta.ensures.err (λ f h.
    let e : to_z w32 (of_z w32 c.args.exponent) ≡ c.args.exponent = to_z-of_z w32 c.args.exponent (search rules) in
    let m : to_z w64 (of_z w64 c.args.mantissa) ≡ c.args.mantissa = to_z-of_z w64 c.args.mantissa (search rules) in
    let whole = subst (λ (g : FieldInstruction). RefusesField (field_data g) c.args.ledger.now.now
    (Some (Dec (to_z w32 (of_z w32 c.args.exponent)) (to_z w64 (of_z w64 c.args.mantissa)))) f) c.of.ensures h in
    subst (λ (n : ℤ). RefusesField (field_data c.args.field.now) c.args.ledger.now.now (Some (Dec c.args.exponent n)) f) m
    (subst (λ (n : ℤ). RefusesField (field_data c.args.field.now) c.args.ledger.now.now (Some (Dec n (to_z w64 (of_z w64 c.args.mantissa)))) f) e whole))
