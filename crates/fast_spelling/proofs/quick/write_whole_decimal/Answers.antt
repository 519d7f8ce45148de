-- The parts of a decimal are handed on, to the rule.
use Rattle.std.proofs.Common.{◌≡◌, ℤ, subst, rules, to_z, of_z}
use Rattle.std.specs.Prelude.{Some}
use Rattle.std.specs.Int.{w32, w64}
use Rattle.std.proofs.lemmas.Int.{to_z-of_z}
use Rattle.fast_value.specs.meaning.Kinds.{Dec}
use Rattle.fast_tree.specs.meaning.Nodes.{field_data}
use Rattle.fast_spelling.specs.meaning.Encoding.{EncodesField}
use Rattle.fast_spelling.specs.device.Fields.{Wrote}
use Rattle.fast_spelling.specs.meaning.Refusals.{RefusesField}
use Rattle.fast_spelling.proofs.bytes.Spelling.{on_ok}
use Rattle.fast_spelling.proofs.encodings.Instructions.{told}
use Rattle.fast_spelling.proofs.quick.write_whole_decimal.Goals as goal

pub returns-clause-ok : goal.returns-clause-ok
returns-clause-ok c = on_ok c.write_other.result c.write_other.ensures.ok (λ k l same.
    let e : to_z w32 (of_z w32 c.args.exponent) ≡ c.args.exponent = to_z-of_z w32 c.args.exponent (search rules) in
    let m : to_z w64 (of_z w64 c.args.mantissa) ≡ c.args.mantissa = to_z-of_z w64 c.args.mantissa (search rules) in
    subst (λ (n : ℤ). Wrote (EncodesField l (field_data c.args.field.now) c.args.ledger.now.now (Some (Dec c.args.exponent n)))
    c.args.draft.now c.write_other.new.draft c.write_other.new.ledger.now) m
    (subst (λ (n : ℤ). Wrote (EncodesField l (field_data c.args.field.now) c.args.ledger.now.now
    (Some (Dec n (to_z w64 (of_z w64 c.args.mantissa))))) c.args.draft.now c.write_other.new.draft c.write_other.new.ledger.now) e
    (k l same)))

pub returns-clause-err : goal.returns-clause-err
returns-clause-err c = told c.write_other.result c.write_other.ensures.err (λ f h.
    let e : to_z w32 (of_z w32 c.args.exponent) ≡ c.args.exponent = to_z-of_z w32 c.args.exponent (search rules) in
    let m : to_z w64 (of_z w64 c.args.mantissa) ≡ c.args.mantissa = to_z-of_z w64 c.args.mantissa (search rules) in
    subst (λ (n : ℤ). RefusesField (field_data c.args.field.now) c.args.ledger.now.now (Some (Dec c.args.exponent n)) f) m
    (subst (λ (n : ℤ). RefusesField (field_data c.args.field.now) c.args.ledger.now.now (Some (Dec n (to_z w64 (of_z w64 c.args.mantissa)))) f) e h))
