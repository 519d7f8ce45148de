-- The sum lies in the range.
use Rattle.std.proofs.Common.{◌≡◌, ◌+ℤ◌, ◌≤ℤ◌, pos, neg_ℤ, to_z, of_z, rules, sym, ap, ◌∙◌, Ok, ℤ}
use Rattle.std.specs.Int.{w32}
use Rattle.fast_wire.specs.meaning.Integers.{exponent_range}
use Rattle.fast_value.specs.declared.codes.Code.TheVariants.{R1}
use Rattle.fast_items.proofs.DecimalItems.{ranged_within}
use Rattle.fast_items.proofs.decimal_items.changed_exponent.Goals as goal

pub returns : goal.returns
returns c =
    let sum : ℤ = c.args.exponent +ℤ c.args.delta in
    let same : to_z w32 (of_z w32 c.exponent_in.result) ≡ sum = search rules in
    let low : neg_ℤ (pos 63) ≤ℤ sum = search rules in
    let high : sum ≤ℤ pos 63 = search rules in
    ranged_within exponent_range R1 sum (low, high) ∙ ap (λ x. Ok x) (sym same)
