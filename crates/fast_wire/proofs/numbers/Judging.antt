-- What a number is in its range.
use Rattle.std.proofs.Common.{◌≡◌, ℕ, zero, suc, ◌+◌, ◌*◌, ◌%◌, ◌^◌, ◌<◌, ◌≤◌, List, refl, ap, sym, ◌∙◌, arith, lit<}
use Rattle.std.specs.Prelude.{pos, ◌-ℤ◌, ◌↔◌, Bool, true, false, IsTrue}
use Rattle.std.proofs.lemmas.Int.{ints, to_z_pos}
use Rattle.std.proofs.lemmas.Nat.{one_shl, pow-add}
use Rattle.std.proofs.Math.Nat.{pow-le-pow_right, pow-suc}
use mir.Syntax.{w128}
use mir.Val.{to_z, of_z}
use Rattle.fast_wire.specs.meaning.Entities.{number}
use Rattle.fast_wire.specs.meaning.Integers.{IsInteger, IsOutside, unsigned_up_to}

-- a test that was false
pub not_so : (b : Bool) (P : Type 0) → (IsTrue b ↔ P) → b ≡ false → P → ⊥
not_so b P d e p = let t : b ≡ true = d.1 p in absurd (cc)

-- the nullable form of an integer over the greatest one
pub above_top : (strict : Bool) (top x : ℕ) (w : List ℕ) → IsInteger strict (unsigned_up_to top) w → number w ≡ suc x → top < x
    → IsOutside strict (unsigned_up_to top) true w
above_top strict top x w i e h = (pos x, i, ap pos e, λ k. absurd (omega (arith, ints, k.1)))

-- powers of 128 are shifts by seven
pub power_of_128 : (n : ℕ) → 128 ^ n ≡ 2 ^ (7 * n)
power_of_128 zero = refl
power_of_128 (suc n) =
    let e : 7 * suc n ≡ 7 * n + 7 = omega arith in
    pow-suc 128 n ∙ ap (λ (p : ℕ). p * 128) (power_of_128 n) ∙ sym (pow-add 2 (7 * n) 7) ∙ ap (λ (k : ℕ). 2 ^ k) (sym e)

-- a number of at most ten bytes as a signed one
pub natural_is : (sum len : ℕ) → len ≤ 10 → sum < 2 ^ (7 * len) → to_z w128 sum ≡ pos sum
natural_is sum len few small =
    let p : 2 ^ (7 * len) ≤ 2 ^ 70 = pow-le-pow_right {n = 2} (lit< tt) {i = 7 * len} {j = 70} (omega arith) in
    to_z_pos w128 sum (omega arith)

-- two's complement in 128 bits
pub complement_is : (sum len : ℕ) → len ≤ 10 → sum < 2 ^ (7 * len)
    → to_z w128 (of_z w128 (to_z w128 sum -ℤ to_z w128 (1 * 2 ^ (7 * len) % 2 ^ 128))) ≡ pos sum -ℤ pos (2 ^ (7 * len))
complement_is sum len few small =
    let p : 2 ^ (7 * len) ≤ 2 ^ 70 = pow-le-pow_right {n = 2} (lit< tt) {i = 7 * len} {j = 70} (omega arith) in
    let s : 1 * 2 ^ (7 * len) % 2 ^ 128 ≡ 2 ^ (7 * len) = one_shl (7 * len) 128 (omega arith) in
    omega (arith, ints)
