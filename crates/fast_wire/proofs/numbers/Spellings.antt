-- Laws of what entities spell.
use Rattle.std.proofs.Common.{◌≡◌, ℕ, suc, ◌+◌, ◌*◌, ◌-◌, ◌%◌, ◌^◌, ◌<◌, ◌≤◌, ◌⊎◌, inl, inr, Bool, true, false, List, [], ◌∷◌, refl, ap}
use Rattle.std.proofs.Common.{sym, subst, ◌∙◌, length, arith, lit<, length-append}
use Rattle.std.specs.Prelude.{ℤ, pos, negsuc, ◌-ℤ◌, Option, Some, None, if◌then◌else◌}
use Rattle.std.proofs.Math.Nat.{pow-suc, pow-le-pow_right, mul-le-mul_right}
use Rattle.std.proofs.lemmas.Int.{ints}
use Rattle.std.proofs.lemmas.Bool.{cases_lt, cases_Bool}
use Rattle.std.proofs.lemmas.List.Elements.{All-head, All-tail}
use Rattle.std.proofs.lemmas.Nat.{same_from_place}
use lib.Signed.{mag}
use Rattle.fast_wire.specs.meaning.Entities.{IsEntity, number, has_sign, signed, IsOverlong}
use Rattle.fast_wire.specs.meaning.Integers.{value, Means}
use Rattle.fast_wire.specs.meaning.Laws.{StrictIsShortest, ShortestIsStrict, OneSpelling}
use Rattle.fast_wire.proofs.numbers.Numbers.{number-lt}
use Rattle.fast_wire.proofs.numbers.Signs.{sign_low, sign_high, signed_clear, signed_set}
use Rattle.fast_wire.proofs.numbers.Overlong.{sign_repeats}
use Rattle.fast_wire.proofs.numbers.Writing.{reach}
use Rattle.fast_wire.proofs.stop_bits.FirstStop.{AreBytes, entity_is_long}

-- what is sent for an integer
same_sent : (nullable : Bool) (m n : ℤ) (x : Option ℤ) → Means nullable m x → Means nullable n x → m ≡ n
same_sent false m n None p q = absurd p
same_sent false m n (Some x) p q = p ∙ sym q
same_sent true m n None p q = p ∙ sym q
same_sent true m n (Some x) p q = p ∙ sym q

power_up : (i j : ℕ) → i ≤ j → 128 ^ i ≤ 128 ^ j
power_up i j h = pow-le-pow_right {n = 128} (lit< tt) {i = i} {j = j} h

-- A longer entity of the same number is overlong.
longer_unsigned : (v w : List ℕ) → number v ≡ number w → 0 < length v → length v < length w → IsOverlong (λ u. pos (number u)) w
longer_unsigned v [] e some l = absurd (omega arith)
longer_unsigned v (x ∷ []) e some l = absurd (omega arith)
longer_unsigned v (x ∷ y ∷ r) e some l = (x, y, r, refl, ap pos (by (cases_lt (x % 128) 1)))
  where
    by : (x % 128 < 1) ⊎ (1 ≤ x % 128) → number (y ∷ r) ≡ number (x ∷ y ∷ r)
    by (inl h) = let z : x % 128 ≡ 0 = omega arith in rw z (omega arith)
    by (inr h) =
        let q : 128 ^ length v ≤ 128 ^ length (y ∷ r) = power_up (length v) (length (y ∷ r)) (omega arith) in
        let m : 1 * 128 ^ length (y ∷ r) ≤ (x % 128) * 128 ^ length (y ∷ r) = mul-le-mul_right (128 ^ length (y ∷ r)) h in
        let n : number v < 128 ^ length v = number-lt v in
        absurd (omega arith)

-- an integer that fits into one byte less
module _ (x y : ℕ) (r : List ℕ) (small : mag (signed (x ∷ y ∷ r)) < 64 * 128 ^ length r) where
  behind : number (y ∷ r) < 128 ^ length (y ∷ r)
  behind = number-lt (y ∷ r)

  step : 128 ^ length (y ∷ r) ≡ 128 ^ length r * 128
  step = pow-suc 128 (length r)

  step_more : 128 ^ length (x ∷ y ∷ r) ≡ 128 ^ length (y ∷ r) * 128
  step_more = pow-suc 128 (length (y ∷ r))

  zeros : has_sign (x ∷ y ∷ r) ≡ false → x % 128 ≡ 0
  zeros t = by (cases_lt (x % 128) 1)
    where
      by : (x % 128 < 1) ⊎ (1 ≤ x % 128) → x % 128 ≡ 0
      by (inl h) = omega arith
      by (inr h) =
          let m : 1 * 128 ^ length (y ∷ r) ≤ (x % 128) * 128 ^ length (y ∷ r) = mul-le-mul_right (128 ^ length (y ∷ r)) h in
          let s : number (x ∷ y ∷ r) < 64 * 128 ^ length r = subst (λ z. mag z < 64 * 128 ^ length r) (signed_clear (x ∷ y ∷ r) t) small in
          absurd (omega (arith, step))

  complement : has_sign (x ∷ y ∷ r) ≡ true → 128 ^ length (x ∷ y ∷ r) - suc (number (x ∷ y ∷ r)) < 64 * 128 ^ length r
  complement t =
      let n : number (x ∷ y ∷ r) < 128 ^ length (x ∷ y ∷ r) = number-lt (x ∷ y ∷ r) in
      let is : signed (x ∷ y ∷ r) ≡ negsuc (128 ^ length (x ∷ y ∷ r) - suc (number (x ∷ y ∷ r))) = signed_set (x ∷ y ∷ r) t ∙ omega (arith, ints) in
      subst (λ z. mag z < 64 * 128 ^ length r) is small

  ones : has_sign (x ∷ y ∷ r) ≡ true → x % 128 ≡ 127
  ones t = by (cases_lt (x % 128) 127)
    where
      by : (x % 128 < 127) ⊎ (127 ≤ x % 128) → x % 128 ≡ 127
      by (inl h) =
          let m : (x % 128) * 128 ^ length (y ∷ r) ≤ 126 * 128 ^ length (y ∷ r) = mul-le-mul_right (128 ^ length (y ∷ r)) (omega arith) in
          absurd (omega (arith, complement t, behind, step, step_more))
      by (inr h) = omega arith

  sign_low_behind : has_sign (x ∷ y ∷ r) ≡ false → has_sign (y ∷ r) ≡ false
  sign_low_behind t = by (cases_Bool (has_sign (y ∷ r)))
    where
      by : (has_sign (y ∷ r) ≡ true) ⊎ (has_sign (y ∷ r) ≡ false) → has_sign (y ∷ r) ≡ false
      by (inl h) =
          let s : number (x ∷ y ∷ r) < 64 * 128 ^ length r = subst (λ z. mag z < 64 * 128 ^ length r) (signed_clear (x ∷ y ∷ r) t) small in
          absurd (omega (arith, sign_high (y ∷ r) (length r) refl h))
      by (inr h) = h

  sign_high_behind : has_sign (x ∷ y ∷ r) ≡ true → has_sign (y ∷ r) ≡ true
  sign_high_behind t = by (cases_Bool (has_sign (y ∷ r)))
    where
      by : (has_sign (y ∷ r) ≡ true) ⊎ (has_sign (y ∷ r) ≡ false) → has_sign (y ∷ r) ≡ true
      by (inl h) = h
      by (inr h) =
          let f : (x % 128) * 128 ^ length (y ∷ r) ≡ 127 * 128 ^ length (y ∷ r) = ap (λ (n : ℕ). n * 128 ^ length (y ∷ r)) (ones t) in
          absurd (omega (arith, sign_low (y ∷ r) (length r) refl h, complement t, behind, step, step_more))

  repeats : (t : Bool) → has_sign (x ∷ y ∷ r) ≡ t → signed (y ∷ r) ≡ signed (x ∷ y ∷ r)
  repeats false t = sign_repeats x (y ∷ r) false (sign_low_behind t) (zeros t)
  repeats true t = sign_repeats x (y ∷ r) true (sign_high_behind t) (ones t)

-- A longer entity of the same signed integer is overlong.
longer_signed : (v w : List ℕ) → signed v ≡ signed w → 0 < length v → length v < length w → IsOverlong signed w
longer_signed v [] e some l = absurd (omega arith)
longer_signed v (x ∷ []) e some l = absurd (omega arith)
longer_signed v (x ∷ y ∷ r) e some l =
    let k : length v ≡ suc (length v - 1) = omega arith in
    let m : mag (signed v) < 64 * 128 ^ (length v - 1) = reach v (length v - 1) (has_sign v) k refl in
    let q : 128 ^ (length v - 1) ≤ 128 ^ length r = power_up (length v - 1) (length r) (omega arith) in
    let s : mag (signed v) ≡ mag (signed (x ∷ y ∷ r)) = ap mag e in
    (x, y, r, refl, repeats x y r (omega arith) (has_sign (x ∷ y ∷ r)) refl)

longer : (s : Bool) (v w : List ℕ) → (if s then signed v else pos (number v)) ≡ (if s then signed w else pos (number w)) → 0 < length v → length v < length w
    → IsOverlong (λ u. if s then signed u else pos (number u)) w
longer false v w e some l = longer_unsigned v w (cc) some l
longer true v w e some l = longer_signed v w e some l

pub strict_is_shortest : StrictIsShortest
strict_is_shortest strict range nullable x v w p q = by (cases_lt (length v) (length w))
  where
    by : (length v < length w) ⊎ (length w ≤ length v) → length w ≤ length v
    by (inl l) = absurd (p.form.shortest refl (longer range.is_signed v w
        (same_sent nullable (value range v) (value range w) x q.meaning p.meaning) (entity_is_long v q.form.entity) l))
    by (inr l) = l

-- an entity without its first byte
tail_entity : (x y : ℕ) (r : List ℕ) → IsEntity (x ∷ y ∷ r) → IsEntity (y ∷ r)
tail_entity x y r ([], last, e, none, h) = absurd (omega (arith, ap length e))
tail_entity x y r (z ∷ front, last, e, none, h) = (front, last, cc e, All-tail (λ byte. byte < 128) z front none, h)

pub shortest_is_strict : ShortestIsStrict
shortest_is_strict range nullable x w p least = record {
  form = record { entity = p.form.entity; short = p.form.short; shortest = λ t. overlong };
  meaning = p.meaning;
  fits = p.fits;
}
  where
    overlong : IsOverlong (value range) w → ⊥
    overlong (a, b, r, d, e) =
        let short : length w ≤ 10 = p.form.short in
        let l : length w ≡ suc (length (b ∷ r)) = ap length d in
        let shorter : length w ≤ length (b ∷ r) = least (b ∷ r) (record {
          form = record { entity = tail_entity a b r (subst IsEntity d p.form.entity); short = omega arith; shortest = λ t. absurd (cc t) };
          meaning = subst (λ n. Means nullable n x) (sym e) p.meaning;
          fits = p.fits;
        }) in
        absurd (omega arith)

only_byte : (a : ℕ) → IsEntity (a ∷ []) → 128 ≤ a
only_byte a ([], last, e, none, h) = let k : a ≡ last = cc e in omega arith
only_byte a (z ∷ front, last, e, none, h) = absurd (omega (arith, ap length e, length-append front (last ∷ [])))

first_of_more : (a b : ℕ) (r : List ℕ) → IsEntity (a ∷ b ∷ r) → a < 128
first_of_more a b r ([], last, e, none, h) = absurd (omega (arith, ap length e))
first_of_more a b r (z ∷ front, last, e, none, h) = let k : a ≡ z = cc e in omega (arith, All-head (λ byte. byte < 128) z front none)

-- Entities of one length and one number are the same bytes.
same_bytes : (v w : List ℕ) → IsEntity v → IsEntity w → AreBytes v → AreBytes w → length v ≡ length w → number v ≡ number w → v ≡ w
same_bytes [] w p q c d l n = absurd (omega (arith, entity_is_long [] p))
same_bytes (a ∷ []) [] p q c d l n = absurd (omega arith)
same_bytes (a ∷ []) (b ∷ []) p q c d l n =
    let s : a ≡ b = omega (arith, only_byte a p, only_byte b q, c 0 0 (omega arith), d 0 0 (omega arith)) in
    ap (λ x. x ∷ []) s
same_bytes (a ∷ []) (b ∷ y ∷ w) p q c d l n = absurd (omega arith)
same_bytes (a ∷ x ∷ v) [] p q c d l n = absurd (omega arith)
same_bytes (a ∷ x ∷ v) (b ∷ []) p q c d l n = absurd (omega arith)
same_bytes (a ∷ x ∷ v) (b ∷ y ∷ w) p q c d l n =
    let k : length (x ∷ v) ≡ length (y ∷ w) = omega arith in
    let m : number (y ∷ w) < 128 ^ length (x ∷ v) = subst (λ n. number (y ∷ w) < 128 ^ n) (sym k) (number-lt (y ∷ w)) in
    let t : (a % 128) * 128 ^ length (x ∷ v) + number (x ∷ v) ≡ (b % 128) * 128 ^ length (x ∷ v) + number (y ∷ w) =
    n ∙ ap (λ (k : ℕ). (b % 128) * 128 ^ k + number (y ∷ w)) (sym k) in
    let s = same_from_place (a % 128) (number (x ∷ v)) (b % 128) (number (y ∷ w)) (128 ^ length (x ∷ v)) (number-lt (x ∷ v)) m t in
    let first : a ≡ b = omega (arith, first_of_more a x v p, first_of_more b y w q, s.0) in
    let rest : x ∷ v ≡ y ∷ w = same_bytes (x ∷ v) (y ∷ w) (tail_entity a x v p) (tail_entity b y w q)
    (All-tail (λ byte. byte < 256) a (x ∷ v) c) (All-tail (λ byte. byte < 256) b (y ∷ w) d) k s.1 in
    cc

same_number : (s t u : Bool) (v w : List ℕ) → has_sign v ≡ t → has_sign w ≡ u
    → (if s then signed v else pos (number v)) ≡ (if s then signed w else pos (number w)) → length v ≡ length w → number v ≡ number w
same_number false t u v w p q e l = cc
same_number true false false v w p q e l = let k : pos (number v) ≡ pos (number w) = sym (signed_clear v p) ∙ e ∙ signed_clear w q in cc
same_number true false true v w p q e l =
    let k : pos (number v) ≡ pos (number w) -ℤ pos (128 ^ length w) = sym (signed_clear v p) ∙ e ∙ signed_set w q in
    absurd (omega (arith, ints, number-lt w))
same_number true true false v w p q e l =
    let k : pos (number v) -ℤ pos (128 ^ length v) ≡ pos (number w) = sym (signed_set v p) ∙ e ∙ signed_clear w q in
    absurd (omega (arith, ints, number-lt v))
same_number true true true v w p q e l =
    let k : pos (number v) -ℤ pos (128 ^ length v) ≡ pos (number w) -ℤ pos (128 ^ length w) = sym (signed_set v p) ∙ e ∙ signed_set w q in
    let m : 128 ^ length v ≡ 128 ^ length w = ap (λ (n : ℕ). 128 ^ n) l in
    omega (arith, ints)

pub one_spelling : OneSpelling
one_spelling range nullable x v w c d p q =
    let l : length v ≤ length w = strict_is_shortest true range nullable x w v p q in
    let m : length w ≤ length v = strict_is_shortest true range nullable x v w q p in
    let k : length v ≡ length w = omega arith in
    let e = same_sent nullable (value range v) (value range w) x p.meaning q.meaning in
    same_bytes v w p.form.entity q.form.entity c d k (same_number range.is_signed (has_sign v) (has_sign w) v w refl refl e k)
