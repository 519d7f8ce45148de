-- The sum of an unsigned integer and a delta is the natural number that is given.
use Rattle.std.proofs.Common.{◌≡◌, ◌<◌, ◌^◌, ◌+ℤ◌, ◌∙◌, ℕ, ℤ, pos, arith, rules, sym, ap, to_z, of_z, FitsSigned, Ok}
use Rattle.std.specs.Int.{w64}
use Rattle.fast_value.specs.declared.codes.Code.TheVariants.{D2}
use Rattle.fast_value.specs.declared.kinds.Kind.TheVariants.{UInt32, UInt64}
use Rattle.fast_value.specs.meaning.Kinds.{integer_of, value_of_integer}
use Rattle.fast_dict.specs.meaning.Operators.{ranged, range_of}
use Rattle.fast_units.specs.declared.fields.Number.{Number}
use Rattle.fast_units.specs.declared.fields.Number.TheVariants as As
use Rattle.fast_units.specs.device.Deciding.{number_data}
use Rattle.fast_units.proofs.LastUnits.{again}
use Rattle.fast_items.proofs.integer_items.sum_of.Goals as goal

inside_32 : (n : ℕ) → n < 2 ^ 32 → ranged (range_of UInt32) D2 (pos n) ≡ Ok (pos n)
inside_32 n h = grind arith

inside_64 : (n : ℕ) → n < 2 ^ 64 → ranged (range_of UInt64) D2 (pos n) ≡ Ok (pos n)
inside_64 n h = grind arith

summed : (number : Number) (base sum : ℕ) (delta : ℤ) → number ≡ As.Unsigned base → FitsSigned w64 delta → pos sum ≡ pos base +ℤ to_z w64 (of_z w64 delta)
    → integer_of (number_data number) +ℤ delta ≡ pos sum
summed number base sum delta is fits e = ap (λ n. integer_of (number_data n) +ℤ delta) is ∙ sym (e ∙ ap (λ d. pos base +ℤ d) (again w64 delta fits))

pub returns-in_ok-sum-in-UInt32-Unsigned : goal.returns-in_ok-sum-in-UInt32-Unsigned
returns-in_ok-sum-in-UInt32-Unsigned c =
    let fits : FitsSigned w64 c.args.delta = search rules in
    let same = c.in-UInt32-Unsigned.is-0 in
    let sum = c.in_ok-sum-in-UInt32-Unsigned.sum in (
      pos sum,
      ap (ranged (range_of c.args.kind) D2) (summed c.args.number c.in-UInt32-Unsigned.base sum c.args.delta c.in-UInt32-Unsigned.is-1 fits
          c.in_ok-sum-in-UInt32-Unsigned.ensures.sum)
          ∙ ap (λ k. ranged (range_of k) D2 (pos sum)) same ∙ inside_32 sum c.in_ok-sum-in-UInt32-Unsigned.ensures.small,
      ap (λ k. value_of_integer k (pos sum)) (sym same),
    )

pub returns-in_ok-sum-in-UInt64-Unsigned : goal.returns-in_ok-sum-in-UInt64-Unsigned
returns-in_ok-sum-in-UInt64-Unsigned c =
    let fits : FitsSigned w64 c.args.delta = search rules in
    let same = c.in-UInt64-Unsigned.is-0 in
    let sum = c.in_ok-sum-in-UInt64-Unsigned.sum in
    let small : sum < 2 ^ 64 = search rules in (
      pos sum,
      ap (ranged (range_of c.args.kind) D2) (summed c.args.number c.in-UInt64-Unsigned.base sum c.args.delta c.in-UInt64-Unsigned.is-1 fits
          c.in_ok-sum-in-UInt64-Unsigned.ensures)
          ∙ ap (λ k. ranged (range_of k) D2 (pos sum)) same ∙ inside_64 sum small,
      ap (λ k. value_of_integer k (pos sum)) (sym same),
    )
