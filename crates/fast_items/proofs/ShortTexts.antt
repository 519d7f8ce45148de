-- A text that ends within a block, whose stop bits are taken away.
use Rattle.std.proofs.Common.{refl, ap, ◌∙◌, arith, get_or}
use Rattle.std.specs.Prelude.{◌≡◌, ℕ, zero, suc, ◌+◌, ◌-◌, ◌%◌, ◌<◌, ◌≤◌, List, [], ◌∷◌, ◌++◌, length, map, take}
use Rattle.std.proofs.lemmas.List.{length-take-le, get_or-take}
use Rattle.fast_units.specs.device.NextUnits.{BeginsWithCharacter}
use Rattle.fast_items.specs.device.TextItems.{without_stops, IsShortText}
use Rattle.fast_units.proofs.NextTexts.{text_whole}

-- characters in front of one that has a stop bit
stripped_first : (n : ℕ) (w : List ℕ) → n < length w → ((k : ℕ) → k < n → get_or w k 0 < 128) → 128 ≤ get_or w n 0 → get_or w n 0 < 256
    → take (suc n) (without_stops w) ≡ take n w ++ (get_or w n 0 - 128) ∷ []
stripped_first n [] some before stop byte = absurd (omega arith)
stripped_first zero (b ∷ w) some before stop byte = let e : b % 128 ≡ b - 128 = omega arith in ap (λ c. c ∷ []) e
stripped_first (suc n) (b ∷ w) some before stop byte =
    let e : b % 128 ≡ b = let h = before zero (omega arith) in omega (arith, h) in
    ap (λ c. c ∷ take (suc n) (without_stops w)) e ∙ ap (λ t. b ∷ t) (stripped_first n w (omega arith) (λ k h. before (suc k) (omega arith)) stop byte)

pub stripped : (n : ℕ) (w : List ℕ) → n < length w → ((k : ℕ) → k < n → get_or w k 0 < 128) → 128 ≤ get_or w n 0 → get_or w n 0 < 256
    → take (n + 1) (without_stops w) ≡ take n w ++ (get_or w n 0 - 128) ∷ []
stripped n w some before stop byte = let e : n + 1 ≡ suc n = omega arith in ap (λ m. take m (without_stops w)) e ∙ stripped_first n w some before stop byte

-- A text that begins with a character, and ends within the block.
pub short_text : (rest : List ℕ) (last : ℕ) → BeginsWithCharacter rest → 16 ≤ length rest → last < 16
    → ((k : ℕ) → k < last → get_or rest k 0 < 128) → 128 ≤ get_or rest last 0 → get_or rest last 0 < 256
    → IsShortText rest (last + 1)
short_text rest last begins long within before stop byte = (
  omega arith,
  long,
  λ nullable room fits.
      text_whole nullable room rest begins 16 last (take last here)
      (take (last + 1) (without_stops here)) long fits inside ahead top byte refl (stripped last here inside ahead top low),
)
  where
    here : List ℕ
    here = take 16 rest

    same : (k : ℕ) → k < 16 → get_or here k 0 ≡ get_or rest k 0
    same k h = get_or-take 16 rest k 0 h

    inside : last < length here
    inside = let l = length-take-le 16 rest long in omega (arith, l)

    ahead : (k : ℕ) → k < last → get_or here k 0 < 128
    ahead k h = let e = same k (omega arith) in let b = before k h in omega (arith, e, b)

    top : 128 ≤ get_or here last 0
    top = let e = same last within in omega (arith, e)

    low : get_or here last 0 < 256
    low = let e = same last within in omega (arith, e)

pub same_map : (f g : ℕ → ℕ) → ((x : ℕ) → f x ≡ g x) → (w : List ℕ) → map f w ≡ map g w
same_map f g same [] = refl
same_map f g same (b ∷ w) = ap (λ c. c ∷ map f w) (same b) ∙ ap (λ t. g b ∷ t) (same_map f g same w)
