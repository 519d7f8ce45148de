-- The differences of the exponents and of the mantissas.
use Rattle.std.proofs.Common.{◌≡◌, ◌++◌, ℤ, ℕ, List, refl, ap, sym, subst, ◌∙◌, append_assoc, rules, to_z, of_z}
use Rattle.std.specs.Prelude.{true, false, ◌-ℤ◌, Some}
use Rattle.std.specs.Int.{w32, w64, w128}
use Rattle.std.proofs.lemmas.Int.{to_z-of_z}
use Rattle.fast_wire.specs.meaning.Shortest.{IsShortest}
use Rattle.fast_value.specs.declared.values.Scalar.{Scalar}
use Rattle.fast_value.specs.meaning.Kinds.{exponent_of, mantissa_of}
use Rattle.fast_value.specs.meaning.Values.{scalar_data}
use Rattle.fast_spelling.proofs.bytes.Spelling.{on_ok, apart_same}
use Rattle.fast_spelling.proofs.items.write_decimals_apart.Goals as goal

pub returns-in_ok-write_signed_apart-in-Dec-Dec : goal.returns-in_ok-write_signed_apart-in-Dec-Dec
returns-in_ok-write_signed_apart-in-Dec-Dec c =
    let exponent = λ (s : Scalar). exponent_of (scalar_data s) in
    let mantissa = λ (s : Scalar). mantissa_of (scalar_data s) in
    let a = c.in-Dec-Dec.is-0 in
    let b = c.in-Dec-Dec.is-1 in
    let e : to_z w64 (of_z w64 c.from.result) ≡ exponent c.args.a = to_z-of_z w64 c.from.result (search rules) ∙ c.from.ensures
    ∙ to_z-of_z w32 c.in-Dec-Dec.exponent (search rules) ∙ sym (ap exponent a) in
    let e' : to_z w64 (of_z w64 c.from-in-Dec-Dec.result) ≡ exponent c.args.b = to_z-of_z w64 c.from-in-Dec-Dec.result (search rules)
    ∙ c.from-in-Dec-Dec.ensures ∙ to_z-of_z w32 c.in-Dec-Dec.e (search rules) ∙ sym (ap exponent b) in
    let m : to_z w64 (of_z w64 c.in-Dec-Dec.mantissa) ≡ mantissa c.args.a = to_z-of_z w64 c.in-Dec-Dec.mantissa (search rules) ∙ sym (ap mantissa a) in
    let m' : to_z w64 (of_z w64 c.in-Dec-Dec.m) ≡ mantissa c.args.b = to_z-of_z w64 c.in-Dec-Dec.m (search rules) ∙ sym (ap mantissa b) in
    let h = c.in_ok-write_signed_apart-in-Dec-Dec.ensures in
    on_ok c.write_signed_apart-in-Dec-Dec.result c.write_signed_apart-in-Dec-Dec.ensures (λ k. (
      h.0 ++ k.0,
      k.1 ∙ ap (λ (w : List ℕ). w ++ k.0) h.1 ∙ append_assoc c.args.bytes.now.items h.0 k.0,
      (
        h.0,
        k.0,
        subst (λ (x : ℤ). IsShortest true c.args.nullable (Some x) h.0)
            (apart_same (to_z w64 (of_z w64 c.from.result)) (to_z w64 (of_z w64 c.from-in-Dec-Dec.result)) (exponent c.args.a) (exponent c.args.b) e e') h.2,
        subst (λ (x : ℤ). IsShortest true false (Some x) k.0)
            (apart_same (to_z w64 (of_z w64 c.in-Dec-Dec.mantissa)) (to_z w64 (of_z w64 c.in-Dec-Dec.m)) (mantissa c.args.a) (mantissa c.args.b) m m') k.2,
        refl,
      ),
    ))

pub returns-in_ok-write_delta_as-in_default : goal.returns-in_ok-write_delta_as-in_default
returns-in_ok-write_delta_as-in_default c =
    let exponent = λ (s : Scalar). exponent_of (scalar_data s) in
    let mantissa = λ (s : Scalar). mantissa_of (scalar_data s) in
    let a : ℤ = to_z w128 (of_z w128 c.exponent_of.result) in
    let b : ℤ = to_z w128 (of_z w128 c.exponent_of-in_default.result) in
    let e : to_z w128 (of_z w128 (a -ℤ b)) ≡ exponent c.args.a -ℤ exponent c.args.b = to_z-of_z w128 (a -ℤ b) (search rules)
    ∙ apart_same a b (exponent c.args.a) (exponent c.args.b) (to_z-of_z w128 c.exponent_of.result (search rules) ∙ c.exponent_of.ensures.value)
    (to_z-of_z w128 c.exponent_of-in_default.result (search rules) ∙ c.exponent_of-in_default.ensures.value) in
    let u : ℤ = to_z w128 (of_z w128 c.mantissa_of.result) in
    let v : ℤ = to_z w128 (of_z w128 c.mantissa_of-in_default.result) in
    let m : to_z w128 (of_z w128 (u -ℤ v)) ≡ mantissa c.args.a -ℤ mantissa c.args.b = to_z-of_z w128 (u -ℤ v) (search rules)
    ∙ apart_same u v (mantissa c.args.a) (mantissa c.args.b) (to_z-of_z w128 c.mantissa_of.result (search rules) ∙ c.mantissa_of.ensures.value)
    (to_z-of_z w128 c.mantissa_of-in_default.result (search rules) ∙ c.mantissa_of-in_default.ensures.value) in
    let h = c.in_ok-write_delta_as-in_default.ensures in
    on_ok c.write_delta_as-in_default.result c.write_delta_as-in_default.ensures (λ k. (
      h.0 ++ k.0,
      k.1 ∙ ap (λ (w : List ℕ). w ++ k.0) h.1 ∙ append_assoc c.args.bytes.now.items h.0 k.0,
      (
        h.0,
        k.0,
        subst (λ (x : ℤ). IsShortest true c.args.nullable (Some x) h.0) e h.2,
        subst (λ (x : ℤ). IsShortest true false (Some x) k.0) m k.2,
        refl,
      ),
    ))
