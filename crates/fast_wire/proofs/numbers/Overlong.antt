-- Which entities are overlong.
use Rattle.std.proofs.Common.{◌≡◌, ℕ, zero, suc, ◌+◌, ◌*◌, ◌%◌, ◌^◌, ◌<◌, ◌≤◌, List, [], ◌∷◌, refl, ap, sym, ◌∙◌, ◌⊎◌, inl, inr, length}
use Rattle.std.proofs.Common.{length-append, take, get_or, arith, lit<, eqb, leb}
use Rattle.std.specs.Prelude.{ℤ, pos, ◌-ℤ◌, ◌↔◌, Bool, true, false, if◌then◌else◌, IsTrue, bit_and}
use Rattle.std.proofs.Math.Nat.{one-le-pow, mul-le-mul_right, pow-suc, le_of_mul-le-mul_right}
use Rattle.std.proofs.lemmas.Int.{ints}
use Rattle.std.proofs.Math.Bool.{not}
use Rattle.std.proofs.lemmas.Bool.{cases_Bool}
use Rattle.std.proofs.lemmas.Bool.Decides.{Decides-eqb, not_from_Decides}
use Rattle.std.proofs.lemmas.List.{length-take, get_or-take}
use Rattle.fast_wire.specs.meaning.Entities.{IsEntity, number, has_sign, signed, IsOverlong}
use Rattle.fast_wire.specs.meaning.Faulty.{NoneIsOverlong}
use Rattle.fast_wire.proofs.numbers.Signs.{sign_clear, sign_set, signed_clear, signed_set}

no_factor : (a p : ℕ) → 1 ≤ p → a * p ≡ 0 → a ≡ 0
no_factor zero p h e = refl
no_factor (suc a) p h e =
    let k : 1 * p ≤ suc a * p = mul-le-mul_right p (omega arith) in
    omega arith

-- the first byte of two or more has no stop bit
pub first_byte : (w : List ℕ) → IsEntity w → 1 < length w → get_or w 0 0 < 128
first_byte w ([], last, e, unstopped, stop) l = absurd (omega (arith, ap length e))
first_byte w (x ∷ front, last, e, unstopped, stop) l = rw e (unstopped 0 0 (omega arith))

overlong_is_long : (value : List ℕ → ℤ) (w : List ℕ) → IsOverlong value w → 1 < length w
overlong_is_long value w (x, y, r, d, e) = rw d (omega arith)

-- An unsigned integer is overlong where a zero stands in front.
zero_is_overlong : (w : List ℕ) → 1 < length w → get_or w 0 0 ≡ 0 → IsOverlong (λ v. pos (number v)) w
zero_is_overlong [] l e = absurd (omega arith)
zero_is_overlong (x ∷ []) l e = absurd (omega arith)
zero_is_overlong (x ∷ y ∷ w) l e =
    let k : (x % 128) * 128 ^ length (y ∷ w) ≡ 0 = rw e (omega arith) in
    (x, y, w, refl, ap pos (omega arith))

overlong_is_zero : (w : List ℕ) → IsEntity w → IsOverlong (λ v. pos (number v)) w → get_or w 0 0 ≡ 0
overlong_is_zero w entity (x, y, r, d, e) =
    let same : pos (number (y ∷ r)) ≡ pos (number (x ∷ y ∷ r)) = e ∙ ap (λ v. pos (number v)) d in
    let n : number (y ∷ r) ≡ number (x ∷ y ∷ r) = cc in
    let small : get_or w 0 0 < 128 = first_byte w entity (rw d (omega arith)) in
    let x_small : x < 128 = rw d at small in
    let z : x % 128 ≡ 0 = no_factor (x % 128) (128 ^ length (y ∷ r)) (one-le-pow (length (y ∷ r)) 128 (lit< tt)) (omega arith) in
    rw d (omega arith)

-- an entity that begins with a zero has more bytes than one
zero_is_long : (w : List ℕ) → IsEntity w → get_or w 0 0 ≡ 0 → 1 < length w
zero_is_long w ([], last, e, unstopped, stop) none =
    let first : get_or w 0 0 ≡ last = ap (λ v. get_or v 0 0) e in
    absurd (omega (arith, first, none, stop))
zero_is_long w (x ∷ front, last, e, unstopped, stop) none = rw (e, length-append) (omega arith)

pub overlong_by_first : (w : List ℕ) → IsEntity w → (get_or w 0 0 ≡ 0) ↔ IsOverlong (λ v. pos (number v)) w
overlong_by_first w entity = (λ none. zero_is_overlong w (zero_is_long w entity none) none, overlong_is_zero w entity)

-- the same as a test, of more than one byte
pub overlong_by_zero : (w : List ℕ) → IsEntity w → 1 < length w → (eqb (get_or w 0 0) 0 ≡ true) ↔ IsOverlong (λ v. pos (number v)) w
overlong_by_zero w entity l = (
  λ t. zero_is_overlong w l ((Decides-eqb (get_or w 0 0) 0).0 t),
  λ o. (Decides-eqb (get_or w 0 0) 0).1 (overlong_is_zero w entity o),
)

-- seven bits like a sign
abbrev pub sevens_of : Bool → ℕ
sevens_of sign = if sign then 127 else 0

sevens_small : (s : Bool) → sevens_of s % 128 ≡ sevens_of s
sevens_small false = refl
sevens_small true = refl

-- One byte more in front that repeats the sign changes nothing.
pub sign_repeats : (x : ℕ) (w : List ℕ) (s : Bool) → has_sign w ≡ s → x % 128 ≡ sevens_of s → signed w ≡ signed (x ∷ w)
sign_repeats x w false h e =
    let n : number w ≡ number (x ∷ w) = rw e (omega arith) in
    signed_clear w h ∙ ap pos n ∙ sym (signed_clear (x ∷ w) (ap (λ (n : ℕ). leb 64 n) e))
sign_repeats x w true h e =
    let n : number (x ∷ w) ≡ 127 * 128 ^ length w + number w = rw e refl in
    let p : 128 ^ length (x ∷ w) ≡ 128 ^ length w * 128 = pow-suc 128 (length w) in
    let k : pos (number w) -ℤ pos (128 ^ length w) ≡ pos (number (x ∷ w)) -ℤ pos (128 ^ length (x ∷ w)) = omega (arith, ints) in
    signed_set w h ∙ k ∙ sym (signed_set (x ∷ w) (ap (λ (n : ℕ). leb 64 n) e))

same_factor : (a b p : ℕ) → 1 ≤ p → a * p ≡ b * p → a ≡ b
same_factor a b p h e =
    let k : a ≤ b = le_of_mul-le-mul_right {k = p} (omega arith) (omega arith) in
    let l : b ≤ a = le_of_mul-le-mul_right {k = p} (omega arith) (omega arith) in
    omega arith

-- Nothing else in front leaves the integer the same.
sign_told : (x : ℕ) (w : List ℕ) (s t : Bool) → x < 128 → has_sign w ≡ s → leb 64 (x % 128) ≡ t → signed w ≡ signed (x ∷ w) → x ≡ (if s then 127 else 0)
sign_told x w false false l h g e =
    let p = one-le-pow (length w) 128 (lit< tt) in
    let k : pos (number w) ≡ pos (number (x ∷ w)) = sym (signed_clear w h) ∙ e ∙ signed_clear (x ∷ w) g in
    let n : number w ≡ number (x ∷ w) = cc in
    let z : x % 128 ≡ 0 = no_factor (x % 128) (128 ^ length w) p (omega arith) in
    omega arith
sign_told x w false true l h g e =
    let p : 1 ≤ 128 ^ length w = one-le-pow (length w) 128 (lit< tt) in
    let k : pos (number w) ≡ pos (number (x ∷ w)) -ℤ pos (128 ^ length (x ∷ w)) = sym (signed_clear w h) ∙ e ∙ signed_set (x ∷ w) g in
    let q : 128 ^ length (x ∷ w) ≡ 128 ^ length w * 128 = pow-suc 128 (length w) in
    let m : (x % 128) * 128 ^ length w ≤ 127 * 128 ^ length w = mul-le-mul_right (128 ^ length w) (omega arith) in
    absurd (omega (arith, ints))
sign_told x w true false l h g e =
    let p : 1 ≤ 128 ^ length w = one-le-pow (length w) 128 (lit< tt) in
    let k : pos (number w) -ℤ pos (128 ^ length w) ≡ pos (number (x ∷ w)) = sym (signed_set w h) ∙ e ∙ signed_clear (x ∷ w) g in
    absurd (omega (arith, ints))
sign_told x w true true l h g e =
    let p : 1 ≤ 128 ^ length w = one-le-pow (length w) 128 (lit< tt) in
    let k : pos (number w) -ℤ pos (128 ^ length w) ≡ pos (number (x ∷ w)) -ℤ pos (128 ^ length (x ∷ w)) = sym (signed_set w h) ∙ e ∙ signed_set (x ∷ w) g in
    let q : 128 ^ length (x ∷ w) ≡ 128 ^ length w * 128 = pow-suc 128 (length w) in
    let m : (x % 128) * 128 ^ length w ≡ 127 * 128 ^ length w = omega (arith, ints) in
    let z : x % 128 ≡ 127 = same_factor (x % 128) 127 (128 ^ length w) p m in
    omega arith

sign_is_overlong : (w : List ℕ) → 1 < length w → get_or w 0 0 ≡ (if has_sign (get_or w 1 0 ∷ []) then 127 else 0) → IsOverlong signed w
sign_is_overlong [] l e = absurd (omega arith)
sign_is_overlong (x ∷ []) l e = absurd (omega arith)
sign_is_overlong (x ∷ y ∷ w) l e = (x, y, w, refl, sign_repeats x (y ∷ w) (has_sign (y ∷ w)) refl (ap (λ (n : ℕ). n % 128) e ∙ sevens_small (has_sign (y ∷ w))))

overlong_is_sign : (w : List ℕ) → IsEntity w → IsOverlong signed w → get_or w 0 0 ≡ (if has_sign (get_or w 1 0 ∷ []) then 127 else 0)
overlong_is_sign w entity (x, y, r, d, e) =
    let small : get_or w 0 0 < 128 = first_byte w entity (rw d (omega arith)) in
    let x_small : x < 128 = rw d at small in
    let k : x ≡ (if has_sign (y ∷ r) then 127 else 0) = sign_told x (y ∷ r) (has_sign (y ∷ r)) (has_sign (x ∷ y ∷ r)) x_small refl refl (e ∙ ap signed d) in
    rw d k

pub overlong_by_sign : (w : List ℕ) (s : ℕ) → IsEntity w → 1 < length w → s ≡ (if has_sign (get_or w 1 0 ∷ []) then 127 else 0)
    → (eqb (get_or w 0 0) s ≡ true) ↔ IsOverlong signed w
overlong_by_sign w s entity l e = (
  λ t. sign_is_overlong w l ((Decides-eqb (get_or w 0 0) s).0 t ∙ e),
  λ o. (Decides-eqb (get_or w 0 0) s).1 (overlong_is_sign w entity o ∙ sym e),
)

-- No entity in front of the bytes is overlong where their own front says so.
take_is_short : (n : ℕ) (bytes : List ℕ) → length (take n bytes) ≤ n
take_is_short n bytes = omega (arith, length-take n bytes)

pub none_by_first : (bytes : List ℕ) → eqb (get_or bytes 0 0) 0 ≡ false → NoneIsOverlong (λ v. pos (number v)) bytes
none_by_first bytes some n entity o =
    let long : 1 < length (take n bytes) = overlong_is_long (λ v. pos (number v)) (take n bytes) o in
    let first : get_or (take n bytes) 0 0 ≡ get_or bytes 0 0 = get_or-take n bytes 0 0 (omega (arith, take_is_short n bytes)) in
    not_from_Decides (eqb (get_or bytes 0 0) 0) (Decides-eqb (get_or bytes 0 0) 0) some (sym first ∙ overlong_is_zero (take n bytes) entity o)

-- the test answers whether the seven bits of the first byte are all like the sign of the second
abbrev pub RepeatsSign : Bool → ℕ → ℕ → Type 0
RepeatsSign answer first second = IsTrue answer ↔ (first ≡ (if has_sign (second ∷ []) then 127 else 0))

pub none_by_sign : (bytes : List ℕ) → (get_or bytes 0 0 ≡ (if has_sign (get_or bytes 1 0 ∷ []) then 127 else 0) → ⊥) → NoneIsOverlong signed bytes
none_by_sign bytes other n entity o =
    let long : 1 < length (take n bytes) = overlong_is_long signed (take n bytes) o in
    let first : get_or (take n bytes) 0 0 ≡ get_or bytes 0 0 = get_or-take n bytes 0 0 (omega (arith, take_is_short n bytes)) in
    let second : get_or (take n bytes) 1 0 ≡ get_or bytes 1 0 = get_or-take n bytes 1 0 (omega (arith, take_is_short n bytes)) in
    other (sym first ∙ overlong_is_sign (take n bytes) entity o ∙ ap (λ (b : ℕ). if has_sign (b ∷ []) then 127 else 0) second)

-- seven bits without the sign of the byte behind, and with it
pub clear_repeats : (first second : ℕ) → first ≡ 0 → (eqb (bit_and second 64) 0 ≡ true) ↔ (first ≡ (if has_sign (second ∷ []) then 127 else 0))
clear_repeats first second is = by (cases_Bool (eqb (bit_and second 64) 0))
  where
    by : (eqb (bit_and second 64) 0 ≡ true) ⊎ (eqb (bit_and second 64) 0 ≡ false)
        → (eqb (bit_and second 64) 0 ≡ true) ↔ (first ≡ sevens_of (has_sign (second ∷ [])))
    by (inl t) = (λ u. is ∙ sym (ap sevens_of (sign_clear (second ∷ []) ((Decides-eqb (bit_and second 64) 0).0 t))), λ e. t)
    by (inr f) =
        let s : sevens_of (has_sign (second ∷ [])) ≡ 127 = ap sevens_of
        (sign_set (second ∷ []) (not_from_Decides (eqb (bit_and second 64) 0) (Decides-eqb (bit_and second 64) 0) f)) in
        (λ t. absurd (cc (sym f ∙ t)), λ e. absurd (omega (arith, is, e, s)))

pub set_repeats : (first second : ℕ) → first ≡ 127 → (not (eqb (bit_and second 64) 0) ≡ true) ↔ (first ≡ (if has_sign (second ∷ []) then 127 else 0))
set_repeats first second is = by (cases_Bool (eqb (bit_and second 64) 0))
  where
    by : (eqb (bit_and second 64) 0 ≡ true) ⊎ (eqb (bit_and second 64) 0 ≡ false)
        → (not (eqb (bit_and second 64) 0) ≡ true) ↔ (first ≡ sevens_of (has_sign (second ∷ [])))
    by (inl t) =
        let s : sevens_of (has_sign (second ∷ [])) ≡ 0 = ap sevens_of (sign_clear (second ∷ []) ((Decides-eqb (bit_and second 64) 0).0 t)) in
        (λ u. absurd (cc (sym (ap not t) ∙ u)), λ e. absurd (omega (arith, is, e, s)))
    by (inr f) = (
      λ u. is ∙ sym (ap sevens_of (sign_set (second ∷ [])
          (not_from_Decides (eqb (bit_and second 64) 0) (Decides-eqb (bit_and second 64) 0) f))),
      λ e. ap not f,
    )
