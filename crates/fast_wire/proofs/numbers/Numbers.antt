-- The number of an entity, byte after byte.
use Rattle.std.proofs.Common.{◌≡◌, ℕ, ◌+◌, ◌*◌, ◌%◌, ◌^◌, ◌<◌, ◌≤◌, List, [], ◌∷◌, ◌++◌, ap, sym, ◌∙◌, length, take, get_or, arith}
use Rattle.std.proofs.Common.{length-append, add-one, mul_assoc, lit<}
use Rattle.std.proofs.Math.Nat.{mod-lt, pow-suc, pow-le-pow_right, mul-le-mul_right}
use Rattle.std.proofs.lemmas.List.{take_more}
use Rattle.std.proofs.lemmas.Nat.{or_shifted, and_mask, shl_whole, pow-add}
use Rattle.std.specs.Prelude.{bit_and, bit_or}
use Rattle.fast_wire.specs.meaning.Entities.{number}

pow_more : (a k : ℕ) → a ^ (k + 1) ≡ a ^ k * a
pow_more a k = rw (add-one, pow-suc)

distributed : (c p : ℕ) → c * (p * 128) ≡ c * p * 128
distributed c p = omega (arith, mul_assoc c p 128)

pub number-push : (bs : List ℕ) (b : ℕ) → number (bs ++ b ∷ []) ≡ number bs * 128 + b % 128
number-push [] b = omega arith
number-push (c ∷ bs) b =
    let l : length (bs ++ b ∷ []) ≡ length bs + 1 = length-append bs (b ∷ []) in
    let p : 128 ^ (length bs + 1) ≡ 128 ^ length bs * 128 = pow_more 128 (length bs) in
    rw (l, p, number-push bs b) (omega (arith, distributed (c % 128) (128 ^ length bs)))

pub number-lt : (w : List ℕ) → number w < 128 ^ length w
number-lt [] = omega arith
number-lt (b ∷ w) =
    let h : number w < 128 ^ length w = number-lt w in
    let m : b % 128 < 128 = mod-lt b (lit< tt) in
    let k : (b % 128) * 128 ^ length w ≤ 127 * 128 ^ length w = mul-le-mul_right (128 ^ length w) (omega arith) in
    rw pow-suc (omega arith)

-- a number of at most n bytes
pub number-short : (w : List ℕ) (n : ℕ) → length w ≤ n → number w < 128 ^ n
number-short w n l =
    let h : number w < 128 ^ length w = number-lt w in
    let k : 128 ^ length w ≤ 128 ^ n = pow-le-pow_right (lit< tt) l in
    omega arith

number-more : (w : List ℕ) (i : ℕ) (d : ℕ) → i < length w → number (take (i + 1) w) ≡ number (take i w) * 128 + get_or w i d % 128
number-more w i d h = rw (take_more w i d h) (number-push (take i w) (get_or w i d))

-- one more byte, as the shift and the mask give it, at a width of w bits
shifted : (a b r w k : ℕ) → a < 2 ^ k → k + 7 ≤ w → r ≡ bit_and b 127 → bit_or (a * 128 % 2 ^ w) r ≡ a * 128 + b % 128
shifted a b r w k small fits e = rw (e, and_mask b 7, shl_whole a k 7 w small fits) (or_shifted a 7 (b % 128) (omega arith))

power_below : (i n : ℕ) → i ≤ n → 2 ^ (7 * i) ≤ 2 ^ (7 * n)
power_below i n h = pow-le-pow_right {n = 2} (omega arith) (omega arith)

power_seven : (i : ℕ) → 2 ^ (7 * i + 7) ≡ 2 ^ (7 * i) * 128
power_seven i = pow-add 2 (7 * i) 7

-- a number so far, and what it is below
pub record IsNumberSoFar (sum i : ℕ) (w : List ℕ) : Type 0 where
  pub value : sum ≡ number (take i w)
  pub small : sum < 2 ^ (7 * i)

-- The step of a loop over the bytes, at a width of `width` bits and at most n bytes before this one.
pub one_byte_more : (width n i sum r : ℕ) (w : List ℕ) → i < length w → i ≤ n → 7 * n + 7 ≤ width → IsNumberSoFar sum i w
    → r ≡ bit_and (get_or w i 0) 127 → IsNumberSoFar (bit_or (sum * 128 % 2 ^ width) r) (i + 1) w
one_byte_more width n i sum r w h within fits before e =
    let value = before.value in
    let small = before.small in
    let below : 2 ^ (7 * i) ≤ 2 ^ (7 * n) = power_below i n within in
    let s : bit_or (sum * 128 % 2 ^ width) r ≡ sum * 128 + get_or w i 0 % 128 = shifted sum (get_or w i 0) r width (7 * n) (omega arith) fits e in
    let p : 2 ^ (7 * i + 7) ≡ 2 ^ (7 * i) * 128 = power_seven i in
    let q : 7 * (i + 1) ≡ 7 * i + 7 = omega arith in
    record { value = s ∙ ap (λ x. x * 128 + get_or w i 0 % 128) value ∙ sym (number-more w i 0 h); small = rw (s, q, p) (omega arith) }
