-- A number shifted to the top of 64 bits and back, which repeats its sign.
use Rattle.std.proofs.Common.{◌≡◌, ℕ, suc, ◌+◌, ◌*◌, ◌-◌, ◌%◌, ◌/◌, ◌^◌, ◌<◌, ◌≤◌, List, refl, ap, sym, ◌∙◌, length, arith}
use Rattle.std.specs.Prelude.{ℤ, pos, negsuc, ◌-ℤ◌, Bool, true, false}
use Rattle.std.proofs.Math.Nat.{add-mul, suc-mul, le-mul_of_pos_right, mul-le-mul_right, mul-lt-mul_of_pos_right}
use Rattle.std.proofs.lemmas.Bool.{le-ltb}
use Rattle.std.proofs.lemmas.Nat.{pow-add, pow_pos, shl-shr, div-mul-add, shl_whole}
use Rattle.std.proofs.lemmas.Int.{ints, to_z-of_z, to_z_pos}
use mir.Syntax.{w64}
use mir.Val.{SFits, to_z, of_z}
use lib.Signed.{shr_z}
use Rattle.fast_wire.specs.meaning.Entities.{number, has_sign, signed}
use Rattle.fast_wire.proofs.numbers.Judging.{power_of_128}
use Rattle.fast_wire.proofs.numbers.Numbers.{number-lt}
use Rattle.fast_wire.proofs.numbers.Signs.{sign_low, sign_high, signed_clear, signed_set}

-- what the code computes of a number that was shifted up
abbrev pub shifted_down : ℤ → ℕ → ℤ
shifted_down r spare = to_z w64 (of_z w64 (shr_z (to_z w64 (of_z w64 r)) (2 ^ spare)))

down_is : (r z : ℤ) (spare : ℕ) → SFits w64 r → SFits w64 z → shr_z r (2 ^ spare) ≡ z → shifted_down r spare ≡ z
down_is r z spare f g e = ap (λ x. to_z w64 (of_z w64 (shr_z x (2 ^ spare)))) (to_z-of_z w64 r f) ∙ ap (λ x. to_z w64 (of_z w64 x)) e ∙ to_z-of_z w64 z g

low_back : (sum spare : ℕ) → sum * 2 ^ spare < 2 ^ 63 → shifted_down (to_z w64 (sum * 2 ^ spare)) spare ≡ pos sum
low_back sum spare h =
    let small : sum ≤ sum * 2 ^ spare = le-mul_of_pos_right sum (pow_pos spare) in
    ap (λ x. shifted_down x spare) (to_z_pos w64 (sum * 2 ^ spare) h)
    ∙ down_is (pos (sum * 2 ^ spare)) (pos sum) spare (record { sfits = h }) (record { sfits = omega arith }) (ap pos (shl-shr sum spare))

high_back : (sum top spare : ℕ) → sum < top → top * 2 ^ spare ≡ 2 ^ 64 → 2 ^ 63 ≤ sum * 2 ^ spare
    → shifted_down (to_z w64 (sum * 2 ^ spare)) spare ≡ negsuc (top - suc sum)
high_back sum top spare h whole high =
    let step = 2 ^ spare in
    let one : 0 < step = pow_pos spare in
    let q = top - suc sum in
    let parts : top * step ≡ q * step + (sum * step + step) =
    let t : top ≡ q + suc sum = omega arith in
    ap (λ (n : ℕ). n * step) t ∙ add-mul q (suc sum) step ∙ ap (λ (n : ℕ). q * step + n) (suc-mul sum step) in
    let n = 2 ^ 64 - suc (sum * step) in
    let is : to_z w64 (sum * step) ≡ negsuc n = rw (le-ltb (sum * step) (2 ^ 63) high) refl in
    let d : n ≡ q * step + (step - 1) = omega arith in
    let few : q ≤ q * step = le-mul_of_pos_right q one in
    ap (λ x. shifted_down x spare) is
    ∙ down_is (negsuc n) (negsuc q) spare (record { sfits = omega arith }) (record { sfits = omega arith })
    (ap negsuc (ap (λ (x : ℕ). x / step) d ∙ div-mul-add q step (step - 1) (omega arith)))

half_of : (k spare : ℕ) → 7 * suc k + spare ≡ 64 → 64 * 128 ^ k * 2 ^ spare ≡ 2 ^ 63
half_of k spare all =
    let e : 64 * 128 ^ k ≡ 2 ^ (7 * k + 6) = omega (arith, power_of_128 k, pow-add 2 (7 * k) 6) in
    let t : 7 * k + 6 + spare ≡ 63 = omega arith in
    ap (λ (n : ℕ). n * 2 ^ spare) e ∙ sym (pow-add 2 (7 * k + 6) spare) ∙ ap (λ (n : ℕ). 2 ^ n) t

by_sign : (w : List ℕ) (k spare : ℕ) (b : Bool) → length w ≡ suc k → 7 * suc k + spare ≡ 64 → has_sign w ≡ b
    → shifted_down (to_z w64 (number w * 2 ^ spare)) spare ≡ signed w
by_sign w k spare false l all e =
    let low : number w * 2 ^ spare < 64 * 128 ^ k * 2 ^ spare = mul-lt-mul_of_pos_right (sign_low w k l e) (pow_pos spare) in
    low_back (number w) spare (omega (arith, half_of k spare all)) ∙ sym (signed_clear w e)
by_sign w k spare true l all e =
    let high : 64 * 128 ^ k * 2 ^ spare ≤ number w * 2 ^ spare = mul-le-mul_right (2 ^ spare) (sign_high w k l e) in
    let t : 7 * length w + spare ≡ 64 = omega arith in
    let whole : 128 ^ length w * 2 ^ spare ≡ 2 ^ 64 = ap (λ (n : ℕ). n * 2 ^ spare) (power_of_128 (length w))
    ∙ sym (pow-add 2 (7 * length w) spare) ∙ ap (λ (n : ℕ). 2 ^ n) t in
    let small : number w < 128 ^ length w = number-lt w in
    let is : negsuc (128 ^ length w - suc (number w)) ≡ pos (number w) -ℤ pos (128 ^ length w) = omega (arith, ints) in
    high_back (number w) (128 ^ length w) spare small whole (omega (arith, half_of k spare all)) ∙ is ∙ sym (signed_set w e)

-- An entity of k + 1 bytes, at most eight.
pub short_is_signed : (w : List ℕ) (sum k spare : ℕ) (r : ℤ) → length w ≡ suc k → 7 * suc k + spare ≡ 64 → sum ≡ number w
    → r ≡ to_z w64 (sum * 2 ^ spare % 2 ^ 64) → shifted_down r spare ≡ signed w
short_is_signed w sum k spare r l all value is =
    let small : number w < 2 ^ (7 * length w) = omega (arith, number-lt w, power_of_128 (length w)) in
    let shifted : number w * 2 ^ spare % 2 ^ 64 ≡ number w * 2 ^ spare = shl_whole (number w) (7 * length w) spare 64 small (omega arith) in
    ap (λ x. shifted_down x spare) (is ∙ ap (λ (n : ℕ). to_z w64 (n * 2 ^ spare % 2 ^ 64)) value ∙ ap (λ (n : ℕ). to_z w64 n) shifted)
    ∙ by_sign w k spare (has_sign w) l all refl
