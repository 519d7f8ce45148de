-- It is at most what 64 bits hold.
use Rattle.std.proofs.Common.{◌≡◌, ◌≤ℤ◌, ℤ, to_z, of_z, ap, sym, subst, ◌∙◌, rules, arith}
use Rattle.std.specs.Prelude.{◌-ℤ◌, pos}
use Rattle.std.specs.Int.{w64, w128}
use Rattle.std.specs.Int.Signed.{pos-nat_abs, yes_non_neg}
use Rattle.std.proofs.lemmas.Int.{ints, to_z-of_z}
use Rattle.fast_spelling.proofs.integers.distance.Goals as goal

pub returns : goal.returns
returns c =
    let high : to_z w128 (of_z w128 c.from.result) ≡ c.args.high = to_z-of_z w128 c.from.result (search rules) ∙ c.from.ensures
    ∙ to_z-of_z w64 c.args.high (search rules) in
    let low : to_z w128 (of_z w128 c.from-2.result) ≡ c.args.low = to_z-of_z w128 c.from-2.result (search rules) ∙ c.from-2.ensures
    ∙ to_z-of_z w64 c.args.low (search rules) in
    let apart : ℤ = to_z w128 (of_z w128 c.from.result) -ℤ to_z w128 (of_z w128 c.from-2.result) in
    let all : to_z w128 (of_z w128 apart) ≡ c.args.high -ℤ c.args.low = to_z-of_z w128 apart (search rules)
    ∙ ap (λ (x : ℤ). x -ℤ to_z w128 (of_z w128 c.from-2.result)) high ∙ ap (λ (x : ℤ). c.args.high -ℤ x) low in
    let some : pos 0 ≤ℤ to_z w128 (of_z w128 apart) = let order = c.requires in subst (λ (x : ℤ). pos 0 ≤ℤ x) (sym all) (omega (arith, ints, order)) in
    sym all ∙ sym (pos-nat_abs (to_z w128 (of_z w128 apart)) (yes_non_neg some))
