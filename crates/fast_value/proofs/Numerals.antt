-- Integers as decimal digits: one text, one integer; and where an `e` stands.
use Rattle.std.proofs.Common.{◌≡◌, ◌≢◌, ℕ, suc, zero, ◌+◌, ◌<◌, inl, inr, List, [], ◌∷◌, ◌++◌, length, take, drop, ap, sym, ◌∙◌, subst}
use Rattle.std.proofs.Common.{arith, length-append, drop-cons, drop_at, append_assoc}
use Rattle.std.specs.Prelude.{ℤ, pos, neg_ℤ, slice_index}
use Rattle.std.specs.Char.{IsAsciiDigit}
use Rattle.std.proofs.Math.Seq.{get_or-append_seam}
use Rattle.std.proofs.lemmas.Bool.{cases_order}
use Rattle.std.proofs.lemmas.List.{take-append-drop, take_at, get_or_append_left}
use Rattle.std.proofs.lemmas.List.Elements.{All-head}
use Rattle.fast_wire.specs.meaning.Integers.{Range}
use Rattle.fast_wire.specs.meaning.Integers.{signed_range, exponent_range}
use Rattle.fast_value.specs.meaning.Initial.{IsNumeral, IsInteger, IsDecimal, digits_value}
use Rattle.fast_value.specs.device.Numerals.{IsSigned}

-- digits don't begin with a minus
digits_no_minus : (ds : List ℕ) → IsNumeral (0x2D ∷ ds) → ⊥
digits_no_minus ds h = let first = All-head IsAsciiDigit 0x2D ds h.0 in omega (arith, first)

-- a text stands for one integer
pub signed_unique : (text : List ℕ) (x y : ℤ) → IsSigned text x → IsSigned text y → x ≡ y
signed_unique text x y (ds, n, inl g) (es, m, inl h) = g.1 ∙ ap (λ fs. pos (digits_value fs)) (sym g.0 ∙ h.0) ∙ sym h.1
signed_unique text x y (ds, n, inr g) (es, m, inr h) = g.1 ∙ ap (λ fs. neg_ℤ (pos (digits_value fs))) (tail_is (sym g.0 ∙ h.0)) ∙ sym h.1
  where
    tail_is : {vs ws : List ℕ} → 0x2D ∷ vs ≡ 0x2D ∷ ws → vs ≡ ws
    tail_is e = cc
signed_unique text x y (ds, n, inl g) (es, m, inr h) = absurd (digits_no_minus es (subst IsNumeral (sym g.0 ∙ h.0) n))
signed_unique text x y (ds, n, inr g) (es, m, inl h) = absurd (digits_no_minus ds (subst IsNumeral (sym h.0 ∙ g.0) m))

-- an integer without its range
pub signed_of_integer : (range : Range) (text : List ℕ) (x : ℤ) → IsInteger range text x → IsSigned text x
signed_of_integer range text x h = (h.0, h.1, h.3)

-- What stands for an integer has no `e`.
pub integer_no_e : (range : Range) (text : List ℕ) (x : ℤ) → IsInteger range text x → (k : ℕ) → k < length text → slice_index text k ≢ 0x65
integer_no_e range text x (ds, n, w, inl g) k inside e =
    let l : length text ≡ length ds = ap length g.0 in
    let d = n.0 k 0 (omega (arith, inside, l)) in
    let same : slice_index text k ≡ slice_index ds k = ap (λ ts. slice_index ts k) g.0 in
    omega (arith, d, same, e)
integer_no_e range text x (ds, n, w, inr g) zero inside e =
    let same : slice_index text 0 ≡ 0x2D = ap (λ ts. slice_index ts 0) g.0 in
    omega (arith, same, e)
integer_no_e range text x (ds, n, w, inr g) (suc k) inside e =
    let l : length text ≡ suc (length ds) = ap length g.0 in
    let d = n.0 k 0 (omega (arith, inside, l)) in
    let same : slice_index text (suc k) ≡ slice_index ds k = ap (λ ts. slice_index ts (suc k)) g.0 in
    omega (arith, d, same, e)

-- the first `e` is where the front ends
pub front_ends : (text front back : List ℕ) (k : ℕ) → k < length text → slice_index text k ≡ 0x65 → ((j : ℕ) → j < k → slice_index text j ≢ 0x65)
    → text ≡ front ++ 0x65 ∷ back → ((j : ℕ) → j < length front → slice_index front j ≢ 0x65) → length front ≡ k
front_ends text front back k inside here before split free =
    let seam : slice_index text (length front) ≡ 0x65 = ap (λ ts. slice_index ts (length front)) split ∙ get_or-append_seam front 0x65 back 0 in
    elim (cases_order (length front) k) [
      | inl e ↦ e
      | inr (inl h) ↦ absurd (before (length front) h seam)
      | inr (inr h) ↦ absurd (free k h (sym (get_or_append_left front (0x65 ∷ back) 0 k h) ∙ sym (ap (λ ts. slice_index ts k) split) ∙ here))
    ]

-- a text parts at an element
pub parts_at : (text : List ℕ) (k : ℕ) → k < length text → slice_index text k ≡ 0x65 → text ≡ take k text ++ 0x65 ∷ drop (k + 1) text
parts_at text k inside here =
    let s : suc k ≡ k + 1 = omega arith in
    sym (take-append-drop k text) ∙ ap (λ ts. take k text ++ ts) (drop-cons text k 0 inside)
    ∙ ap (λ c. take k text ++ c ∷ drop (suc k) text) here ∙ ap (λ n. take k text ++ 0x65 ∷ drop n text) s

-- the two parts of a text that parts at one place
pub front_is : (text front back : List ℕ) (k : ℕ) → text ≡ front ++ 0x65 ∷ back → length front ≡ k → front ≡ take k text
front_is text front back k split long = sym (take_at front (0x65 ∷ back) k long) ∙ sym (ap (take k) split)

-- the part behind
pub back_is : (text front back : List ℕ) (k : ℕ) → text ≡ front ++ 0x65 ∷ back → length front ≡ k → back ≡ drop (k + 1) text
back_is text front back k split long =
    let s : length (front ++ 0x65 ∷ []) ≡ k + 1 = length-append front (0x65 ∷ []) ∙ ap (λ n. n + 1) long in
    sym (drop_at (front ++ 0x65 ∷ []) back (k + 1) s) ∙ ap (drop (k + 1)) (append_assoc front (0x65 ∷ []) back) ∙ sym (ap (drop (k + 1)) split)

-- a text without `e` is a decimal only as an integer
pub decimal_without_e : (text : List ℕ) (e m : ℤ) → ((j : ℕ) → j < length text → slice_index text j ≢ 0x65) → IsDecimal text e m
    → IsInteger (signed_range 63) text m
decimal_without_e text e m free (inl h) = h.0
decimal_without_e text e m free (inr h) =
    let front = h.0 in
    let l : length text ≡ length front + suc (length h.1) = ap length h.2 ∙ length-append front (0x65 ∷ h.1) in
    let seam : slice_index text (length front) ≡ 0x65 = ap (λ ts. slice_index ts (length front)) h.2 ∙ get_or-append_seam front 0x65 h.1 0 in
    absurd (free (length front) (omega (arith, l)) seam)

-- the two parts of a decimal with an `e`
pub decimal_parts : (text : List ℕ) (k : ℕ) (e m : ℤ) → k < length text → slice_index text k ≡ 0x65 → ((j : ℕ) → j < k → slice_index text j ≢ 0x65)
    → IsDecimal text e m → IsInteger (signed_range 63) (take k text) m × IsInteger exponent_range (drop (k + 1) text) e
decimal_parts text k e m inside here before (inl h) = absurd (integer_no_e (signed_range 63) text m h.0 k inside here)
decimal_parts text k e m inside here before (inr h) =
    let long = front_ends text h.0 h.1 k inside here before h.2 (integer_no_e (signed_range 63) h.0 m h.3) in (
      subst (λ ts. IsInteger (signed_range 63) ts m) (front_is text h.0 h.1 k h.2 long) h.3,
      subst (λ ts. IsInteger exponent_range ts e) (back_is text h.0 h.1 k h.2 long) h.4,
    )

-- a decimal by its two parts
pub decimal_of_parts : (text : List ℕ) (k : ℕ) (e m : ℤ) → k < length text → slice_index text k ≡ 0x65
    → IsInteger (signed_range 63) (take k text) m → IsInteger exponent_range (drop (k + 1) text) e → IsDecimal text e m
decimal_of_parts text k e m inside here front back = inr (take k text, drop (k + 1) text, parts_at text k inside here, front, back)
