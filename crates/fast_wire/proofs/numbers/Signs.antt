-- The sign of an entity, and two's complement.
use Rattle.std.proofs.Common.{◌≡◌, ◌≢◌, ℕ, suc, ◌+◌, ◌*◌, ◌%◌, ◌/◌, ◌^◌, ◌<◌, ◌≤◌, List, [], ◌∷◌, refl, ap, sym, ◌∙◌, length, get_or, arith, lit<}
use Rattle.std.specs.Prelude.{pos, ◌-ℤ◌, true, false, bit_and}
use Rattle.std.proofs.Math.Nat.{mul-le-mul_right}
use Rattle.std.proofs.lemmas.Nat.{and_mask, and_block}
use Rattle.std.proofs.lemmas.Bool.Decides.{nat_tests}
use Rattle.fast_wire.specs.meaning.Entities.{number, has_sign, signed}
use Rattle.fast_wire.proofs.numbers.Numbers.{number-lt}

-- the sign bit, as the code tests it
bit-64 : (b : ℕ) → bit_and b 64 ≡ (b / 64 % 2) * 64
bit-64 b =
    let e : b / 64 * 64 + b % 64 ≡ b = omega arith in
    let k : bit_and (b / 64 * 2 ^ 6 + b % 64) (1 * 2 ^ 6 + 0) ≡ bit_and (b / 64) 1 * 2 ^ 6 + bit_and (b % 64) 0 =
    and_block 6 (b / 64) 1 (b % 64) 0 (omega arith) (lit< tt) in
    let one : bit_and (b / 64) 1 ≡ b / 64 % 2 = and_mask (b / 64) 1 in
    let none : bit_and (b % 64) 0 ≡ b % 64 % 1 = and_mask (b % 64) 0 in
    ap (λ (n : ℕ). bit_and n 64) (sym e) ∙ k ∙ omega arith

pub sign_clear : (w : List ℕ) → bit_and (get_or w 0 0) 64 ≡ 0 → has_sign w ≡ false
sign_clear [] e = refl
sign_clear (b ∷ w) e = grind (arith, nat_tests, bit-64 b)

pub sign_set : (w : List ℕ) → bit_and (get_or w 0 0) 64 ≢ 0 → has_sign w ≡ true
sign_set [] e = absurd (e refl)
sign_set (b ∷ w) e = let k : 64 ≤ b % 128 = omega (arith, bit-64 b) in grind (arith, nat_tests)

-- two's complement, by the sign
pub signed_clear : (w : List ℕ) → has_sign w ≡ false → signed w ≡ pos (number w)
signed_clear w e = rw e refl

pub signed_set : (w : List ℕ) → has_sign w ≡ true → signed w ≡ pos (number w) -ℤ pos (128 ^ length w)
signed_set w e = rw e refl

-- The sign by the number: it is set from half of 128 ^ length on.
pub sign_low : (w : List ℕ) (k : ℕ) → length w ≡ suc k → has_sign w ≡ false → number w < 64 * 128 ^ k
sign_low [] k l e = absurd (omega arith)
sign_low (b ∷ w) k l e =
    let s : length w ≡ k = omega arith in
    let h : b % 128 ≤ 63 = grind (arith, nat_tests) in
    let n : number w < 128 ^ length w = number-lt w in
    let m : (b % 128) * 128 ^ length w ≤ 63 * 128 ^ length w = mul-le-mul_right (128 ^ length w) h in
    rw (← s) (omega arith)

pub sign_high : (w : List ℕ) (k : ℕ) → length w ≡ suc k → has_sign w ≡ true → 64 * 128 ^ k ≤ number w
sign_high [] k l e = absurd (omega arith)
sign_high (b ∷ w) k l e =
    let s : length w ≡ k = omega arith in
    let h : 64 ≤ b % 128 = grind (arith, nat_tests) in
    let m : 64 * 128 ^ length w ≤ (b % 128) * 128 ^ length w = mul-le-mul_right (128 ^ length w) h in
    rw (← s) (omega arith)
