-- Numbers as groups of seven bits, as many as they take.
use Rattle.std.proofs.Common.{◌≡◌, ℕ, suc, ◌+◌, ◌*◌, ◌-◌, ◌%◌, ◌/◌, ◌^◌, ◌<◌, ◌≤◌, List, [], ◌∷◌, ◌++◌, refl, ap, sym, subst, ◌∙◌, length, arith}
use Rattle.std.specs.Prelude.{ℤ, pos, negsuc, Bool, true, false, bit_and, bit_or}
use Rattle.std.proofs.Math.Nat.{pow-suc}
use Rattle.std.proofs.lemmas.Nat.{and_mask, or_comm, or_shifted, shr-shr, one_shl}
use Rattle.std.proofs.lemmas.Int.{ints}
use lib.Signed.{mag}
use Rattle.fast_wire.specs.meaning.Entities.{number, has_sign, signed, IsOverlong}
use Rattle.fast_wire.proofs.numbers.Judging.{power_of_128}
use Rattle.fast_wire.proofs.numbers.Numbers.{number-push, number-lt}
use Rattle.fast_wire.proofs.numbers.Signs.{sign_low, sign_high, signed_clear, signed_set}

-- one group more
pub group_more : (n i b : ℕ) (w : List ℕ) → 1 ≤ i → number w ≡ n / 2 ^ (7 * i) → b ≡ bit_and (n / 2 ^ (7 * (i - 1))) 127
    → number (w ++ b ∷ []) ≡ n / 2 ^ (7 * (i - 1))
group_more n i b w some value is =
    let q = n / 2 ^ (7 * (i - 1)) in
    let e : 7 * (i - 1) + 7 ≡ 7 * i = omega arith in
    let up : n / 2 ^ (7 * i) ≡ q / 128 = ap (λ (k : ℕ). n / 2 ^ k) (sym e) ∙ sym (shr-shr n (7 * (i - 1)) 7) in
    let low : b ≡ q % 128 = is ∙ and_mask q 7 in
    number-push w b ∙ omega arith

-- the last group, with the stop bit
pub last_group : (n b : ℕ) (w : List ℕ) → number w ≡ n / 128 → b ≡ bit_or (bit_and n 127) 128 → number (w ++ b ∷ []) ≡ n
last_group n b w value is =
    let low : bit_and n 127 ≡ n % 128 = and_mask n 7 in
    let s : bit_or (1 * 2 ^ 7) (n % 128) ≡ 1 * 2 ^ 7 + n % 128 = or_shifted 1 7 (n % 128) (omega arith) in
    let stop : b ≡ 128 + n % 128 = is ∙ ap (λ (x : ℕ). bit_or x 128) low ∙ or_comm (n % 128) 128 ∙ s in
    number-push w b ∙ omega arith

-- What takes all its groups isn't overlong.
pub full_unsigned : (w : List ℕ) → (1 < length w → 2 ^ (7 * (length w - 1)) ≤ number w) → IsOverlong (λ v. pos (number v)) w → ⊥
full_unsigned w full (x, y, r, d, e) =
    let l : length w ≡ suc (length (y ∷ r)) = ap length d in
    let k : length w - 1 ≡ length (y ∷ r) = omega arith in
    let n : number (y ∷ r) ≡ number w = cc e in
    let f : 2 ^ (7 * (length w - 1)) ≤ number w = full (omega arith) in
    let g : 2 ^ (7 * length (y ∷ r)) ≤ number w = subst (λ m. 2 ^ (7 * m) ≤ number w) k f in
    absurd (omega (arith, number-lt (y ∷ r), power_of_128 (length (y ∷ r))))

-- how far two's complement reaches
half_twice : (k : ℕ) → 2 * (64 * 128 ^ k) ≡ 2 ^ (7 * suc k)
half_twice k = omega (arith, pow-suc 128 k, power_of_128 (suc k))

pub reach : (w : List ℕ) (k : ℕ) (b : Bool) → length w ≡ suc k → has_sign w ≡ b → mag (signed w) < 64 * 128 ^ k
reach w k false l e = rw (signed_clear w e) (sign_low w k l e)
reach w k true l e =
    let n : number w < 128 ^ length w = number-lt w in
    let p : 128 ^ length w ≡ 128 ^ k * 128 = ap (λ (m : ℕ). 128 ^ m) l ∙ pow-suc 128 k in
    let is : signed w ≡ negsuc (128 ^ length w - suc (number w)) = signed_set w e ∙ omega (arith, ints) in
    rw is (omega (arith, sign_high w k l e))

pub full_signed : (w : List ℕ) → (1 < length w → 2 ^ (7 * (length w - 1)) ≤ mag (signed w) * 2) → IsOverlong signed w → ⊥
full_signed w full (x, y, r, d, e) =
    let l : length w ≡ suc (length (y ∷ r)) = ap length d in
    let k : length w - 1 ≡ suc (length r) = omega arith in
    let f : 2 ^ (7 * (length w - 1)) ≤ mag (signed w) * 2 = full (omega arith) in
    let g : 2 ^ (7 * suc (length r)) ≤ mag (signed w) * 2 = subst (λ m. 2 ^ (7 * m) ≤ mag (signed w) * 2) k f in
    let m : mag (signed (y ∷ r)) < 64 * 128 ^ length r = reach (y ∷ r) (length r) (has_sign (y ∷ r)) refl refl in
    let s : mag (signed (y ∷ r)) ≡ mag (signed w) = ap mag e in
    absurd (omega (arith, half_twice (length r)))

-- two's complement of half the reach
signed_natural_by : (w : List ℕ) (k : ℕ) (b : Bool) → length w ≡ suc k → has_sign w ≡ b → number w * 2 < 2 ^ (7 * length w) → signed w ≡ pos (number w)
signed_natural_by w k false l e h = signed_clear w e
signed_natural_by w k true l e h =
    let p : 2 ^ (7 * length w) ≡ 2 ^ (7 * suc k) = ap (λ (m : ℕ). 2 ^ (7 * m)) l in
    absurd (omega (arith, sign_high w k l e, half_twice k))

pub signed_natural : (w : List ℕ) → 0 < length w → number w * 2 < 2 ^ (7 * length w) → signed w ≡ pos (number w)
signed_natural w some h =
    let l : length w ≡ suc (length w - 1) = omega arith in
    signed_natural_by w (length w - 1) (has_sign w) l refl h

signed_negative_by : (w : List ℕ) (k c : ℕ) (b : Bool) → length w ≡ suc k → has_sign w ≡ b → c * 2 < 2 ^ (7 * length w)
    → number w ≡ 2 ^ (7 * length w) - 1 - c → signed w ≡ negsuc c
signed_negative_by w k c false l e h is =
    let p : 2 ^ (7 * length w) ≡ 2 ^ (7 * suc k) = ap (λ (m : ℕ). 2 ^ (7 * m)) l in
    absurd (omega (arith, sign_low w k l e, half_twice k))
signed_negative_by w k c true l e h is =
    let p : 128 ^ length w ≡ 2 ^ (7 * length w) = power_of_128 (length w) in
    signed_set w e ∙ omega (arith, ints)

pub signed_negative : (w : List ℕ) (c : ℕ) → 0 < length w → c * 2 < 2 ^ (7 * length w) → number w ≡ 2 ^ (7 * length w) - 1 - c → signed w ≡ negsuc c
signed_negative w c some h is =
    let l : length w ≡ suc (length w - 1) = omega arith in
    signed_negative_by w (length w - 1) c (has_sign w) l refl h is

-- the same, where the length is told by another number
pub full_at : (w : List ℕ) (len : ℕ) (x : ℤ) → length w ≡ len → signed w ≡ x → (1 < len → 2 ^ (7 * (len - 1)) ≤ mag x * 2) → IsOverlong signed w → ⊥
full_at w len x l e full = full_signed w (subst (λ n. 1 < n → 2 ^ (7 * (n - 1)) ≤ mag (signed w) * 2) (sym l)
    (λ h. subst (λ z. 2 ^ (7 * (len - 1)) ≤ mag z * 2) (sym e) (full h)))

pub natural_at : (w : List ℕ) (len sum : ℕ) → length w ≡ len → number w ≡ sum → 0 < len → sum * 2 < 2 ^ (7 * len) → signed w ≡ pos sum
natural_at w len sum l e some h =
    signed_natural w (omega arith) (subst (λ n. number w * 2 < 2 ^ (7 * n)) (sym l) (subst (λ n. n * 2 < 2 ^ (7 * len)) (sym e) h)) ∙ ap pos e

pub negative_at : (w : List ℕ) (len c : ℕ) → length w ≡ len → number w ≡ 1 * 2 ^ (7 * len) % 2 ^ 128 - 1 - c → 0 < len → len ≤ 10
    → c * 2 < 2 ^ (7 * len) → signed w ≡ negsuc c
negative_at w len c l e some few h =
    let shift : 1 * 2 ^ (7 * len) % 2 ^ 128 ≡ 2 ^ (7 * len) = one_shl (7 * len) 128 (omega arith) in
    signed_negative w c (omega arith) (subst (λ n. c * 2 < 2 ^ (7 * n)) (sym l) h)
    (e ∙ ap (λ (n : ℕ). n - 1 - c) shift ∙ ap (λ (n : ℕ). 2 ^ (7 * n) - 1 - c) (sym l))
