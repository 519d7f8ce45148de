-- By the type of both.
use Rattle.std.proofs.Common.{◌≡◌, ℤ, ap, sym, subst, ◌∙◌, rules, to_z, of_z}
use Rattle.std.specs.Prelude.{true, pos, ◌-ℤ◌, Some}
use Rattle.std.specs.Int.{w64, w128}
use Rattle.std.proofs.lemmas.Int.{to_z-of_z}
use Rattle.fast_wire.specs.meaning.Shortest.{IsShortest}
use Rattle.fast_value.specs.declared.values.Scalar.{Scalar}
use Rattle.fast_value.specs.meaning.Kinds.{integer_of}
use Rattle.fast_value.specs.meaning.Values.{scalar_data}
use Rattle.fast_spelling.proofs.bytes.Spelling.{on_ok, apart_same}
use Rattle.fast_spelling.proofs.items.write_apart.Goals as goal

pub returns-in-U-U : goal.returns-in-U-U
returns-in-U-U c =
    let value = λ (s : Scalar). integer_of (scalar_data s) in
    let is = apart_same (pos c.in-U-U.a) (pos c.in-U-U.b) (value c.args.a) (value c.args.b) (sym (ap value c.in-U-U.is-0)) (sym (ap value c.in-U-U.is-1)) in
    on_ok c.write_unsigned_apart.result c.write_unsigned_apart.ensures
    (λ h. (h.0, h.1, subst (λ (x : ℤ). IsShortest true c.args.nullable (Some x) h.0) is h.2))

pub returns-in-I-I : goal.returns-in-I-I
returns-in-I-I c =
    let value = λ (s : Scalar). integer_of (scalar_data s) in
    let a = c.in-I-I.a in
    let b = c.in-I-I.b in
    let is = apart_same (to_z w64 (of_z w64 a)) (to_z w64 (of_z w64 b)) (value c.args.a) (value c.args.b)
    (to_z-of_z w64 a (search rules) ∙ sym (ap value c.in-I-I.is-0)) (to_z-of_z w64 b (search rules) ∙ sym (ap value c.in-I-I.is-1)) in
    on_ok c.write_signed_apart.result c.write_signed_apart.ensures
    (λ h. (h.0, h.1, subst (λ (x : ℤ). IsShortest true c.args.nullable (Some x) h.0) is h.2))

pub returns-in_default : goal.returns-in_default
returns-in_default c =
    let value = λ (s : Scalar). integer_of (scalar_data s) in
    let a : ℤ = to_z w128 (of_z w128 c.integer_of.result) in
    let b : ℤ = to_z w128 (of_z w128 c.integer_of-in_default.result) in
    let is : to_z w128 (of_z w128 (a -ℤ b)) ≡ value c.args.a -ℤ value c.args.b = to_z-of_z w128 (a -ℤ b) (search rules)
    ∙ apart_same a b (value c.args.a) (value c.args.b) (to_z-of_z w128 c.integer_of.result (search rules) ∙ c.integer_of.ensures.value)
    (to_z-of_z w128 c.integer_of-in_default.result (search rules) ∙ c.integer_of-in_default.ensures.value) in
    on_ok c.write_delta_as.result c.write_delta_as.ensures
    (λ h. (h.0, h.1, subst (λ (x : ℤ). IsShortest true c.args.nullable (Some x) h.0) is h.2))
