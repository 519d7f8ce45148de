-- The bytes of a text between quotes, one after the other.
use Rattle.std.proofs.Common.{◌≡◌, ◌≢◌, ◌⊎◌, ℕ, ◌/◌, ◌%◌, List, [], ◌∷◌, ◌++◌, refl, sym, ◌∙◌, inl, inr, append_assoc, arith}
use Rattle.std.specs.Prelude.{flat_map, All}
use Rattle.std.proofs.lemmas.List.Elements.{All-head, All-tail}
use Rattle.std.proofs.lemmas.List.{append_cancel_right}
use Rattle.std.proofs.lemmas.Bool.{cases_eq}
use Rattle.std.proofs.lemmas.Bool.Decides.{nat_tests}
use Rattle.fast_lines.specs.meaning.Lines.{hex_digit, hex_byte, escaped, quoted}
use Rattle.fast_lines.specs.meaning.Texts.{IsMarked, IsControl, IsPlain}

-- what stands for a byte
abbrev pub IsEscape : ℕ → List ℕ → Type 0
IsEscape c e = IsMarked c × (e ≡ 0x5C ∷ c ∷ []) ⊎ IsControl c × (e ≡ 0x5C ∷ 0x78 ∷ hex_byte c) ⊎ IsPlain c × (e ≡ c ∷ [])

-- each byte is of one of the three sorts
sorted : (c : ℕ) → IsMarked c ⊎ IsControl c ⊎ IsPlain c
sorted c = grind (arith, cases_eq c 0x22, cases_eq c 0x5C, cases_eq c 0x7F)

pub marked_stands : (c : ℕ) → IsMarked c → escaped c ≡ 0x5C ∷ c ∷ []
marked_stands c (inl h) = rw h refl
marked_stands c (inr h) = rw h refl

pub control_stands : (c : ℕ) → IsControl c → escaped c ≡ 0x5C ∷ 0x78 ∷ hex_byte c
control_stands c h = grind (arith, nat_tests)

pub plain_stands : (c : ℕ) → IsPlain c → escaped c ≡ c ∷ []
plain_stands c h = grind (arith, nat_tests)

-- bytes that stand as themselves
pub all_plain : (cs : List ℕ) → All IsPlain cs → flat_map escaped cs ≡ cs
all_plain [] h = refl
all_plain (c ∷ cs) h =
    let here : escaped c ≡ c ∷ [] = plain_stands c (All-head IsPlain c cs h) in
    let rest : flat_map escaped cs ≡ cs = all_plain cs (All-tail IsPlain c cs h) in
    rw (here, rest) refl

pub byte_escape : (c : ℕ) → IsEscape c (escaped c)
byte_escape c = elim (sorted c) [
  | inl m ↦ inl (m, marked_stands c m)
  | inr other ↦ elim other [ inl k ↦ inr (inl (k, control_stands c k)) | inr p ↦ inr (inr (p, plain_stands c p)) ]
]

-- digits are as their numbers
pub same_digit : (m n : ℕ) → hex_digit m ≡ hex_digit n → m ≡ n
same_digit m n h = grind (arith, nat_tests)

-- the same byte by its digits
pub same_byte : (c d : ℕ) → hex_digit (c / 16) ≡ hex_digit (d / 16) → hex_digit (c % 16) ≡ hex_digit (d % 16) → c ≡ d
same_byte c d high low = omega (arith, same_digit (c / 16) (d / 16) high, same_digit (c % 16) (d % 16) low)

-- `x` stands behind a backslash for no byte of its own
no_mark : (c : ℕ) → IsMarked c → c ≡ 0x78 → ⊥
no_mark c (inl m) k = omega (arith, m, k)
no_mark c (inr m) k = omega (arith, m, k)

-- what stands for two bytes begins no text alike, unless they are one
same_first : (c d : ℕ) (e f xs ys : List ℕ) → IsEscape c e → IsEscape d f → e ++ xs ≡ f ++ ys → (c ≡ d) × (xs ≡ ys)
same_first c d e f xs ys (inl m) (inl n) h = let g = rw (m.1, n.1) at h in (cc, cc)
same_first c d e f xs ys (inl m) (inr (inl n)) h = let g = rw (m.1, n.1) at h in let k : c ≡ 0x78 = cc in absurd (no_mark c m.0 k)
same_first c d e f xs ys (inl m) (inr (inr n)) h = let g = rw (m.1, n.1) at h in let k : 0x5C ≡ d = cc in absurd (n.0.3 (sym k))
same_first c d e f xs ys (inr (inl m)) (inl n) h = let g = rw (m.1, n.1) at h in let k : 0x78 ≡ d = cc in absurd (no_mark d n.0 (sym k))
same_first c d e f xs ys (inr (inl m)) (inr (inl n)) h = let g = rw (m.1, n.1) at h in
    let high : hex_digit (c / 16) ≡ hex_digit (d / 16) = cc in let low : hex_digit (c % 16) ≡ hex_digit (d % 16) = cc in
    (same_byte c d high low, cc)
same_first c d e f xs ys (inr (inl m)) (inr (inr n)) h = let g = rw (m.1, n.1) at h in let k : 0x5C ≡ d = cc in absurd (n.0.3 (sym k))
same_first c d e f xs ys (inr (inr m)) (inl n) h = let g = rw (m.1, n.1) at h in let k : c ≡ 0x5C = cc in absurd (m.0.3 k)
same_first c d e f xs ys (inr (inr m)) (inr (inl n)) h = let g = rw (m.1, n.1) at h in let k : c ≡ 0x5C = cc in absurd (m.0.3 k)
same_first c d e f xs ys (inr (inr m)) (inr (inr n)) h = let g = rw (m.1, n.1) at h in (cc, cc)

pub first_is_one : (c d : ℕ) (xs ys : List ℕ) → escaped c ++ xs ≡ escaped d ++ ys → (c ≡ d) × (xs ≡ ys)
first_is_one c d xs ys h = same_first c d (escaped c) (escaped d) xs ys (byte_escape c) (byte_escape d) h

-- something stands for each byte
pub stands_shown : (c : ℕ) (t : List ℕ) → [] ≡ escaped c ++ t → ⊥
stands_shown c t h = elim (byte_escape c) [
  | inl m ↦ let g = rw m.1 at h in cc g
  | inr other ↦ elim other [ inl k ↦ let g = rw k.1 at h in cc g | inr p ↦ let g = rw p.1 at h in cc g ]
]

-- Behind some bytes of a text stand the others.
others_stand : (v w : List ℕ) (rest : List ℕ) → flat_map escaped v ++ rest ≡ flat_map escaped w → (t : List ℕ) × (rest ≡ flat_map escaped t)
others_stand [] w rest h = (w, h)
others_stand (c ∷ v) [] rest h = absurd (stands_shown c (flat_map escaped v ++ rest) (sym h ∙ append_assoc (escaped c) (flat_map escaped v) rest))
others_stand (c ∷ v) (d ∷ w) rest h = others_stand v w rest (first_is_one c d _ _ (sym (append_assoc (escaped c) (flat_map escaped v) rest) ∙ h)).1

-- What begins with no byte ends no text.
pub no_other : (text v rest w : List ℕ) → text ≡ flat_map escaped v ++ rest → rest ≢ [] → ((c : ℕ) (t : List ℕ) → rest ≢ escaped c ++ t)
    → text ≢ flat_map escaped w
no_other text v rest w split some none h = let o = others_stand v w rest (sym split ∙ h) in at o.0 o.1
  where
    at : (t : List ℕ) → rest ≡ flat_map escaped t → ⊥
    at [] e = some e
    at (c ∷ t) e = none c (flat_map escaped t) e

-- one text for bytes, and for quoted bytes
one_text : (v w : List ℕ) → flat_map escaped v ≡ flat_map escaped w → v ≡ w
one_text [] [] h = refl
one_text [] (d ∷ w) h = absurd (stands_shown d (flat_map escaped w) h)
one_text (c ∷ v) [] h = absurd (stands_shown c (flat_map escaped v) (sym h))
one_text (c ∷ v) (d ∷ w) h =
    let both = first_is_one c d (flat_map escaped v) (flat_map escaped w) h in
    let rest = one_text v w both.1 in
    cc (both.0, rest)

-- what stands between quotes
pub between_quotes : (s t : List ℕ) → 0x22 ∷ s ++ 0x22 ∷ [] ≡ 0x22 ∷ t ++ 0x22 ∷ [] → s ≡ t
between_quotes s t h = let both = append_cancel_right (0x22 ∷ s) (0x22 ∷ t) (0x22 ∷ []) h in cc both

pub quoted_is_one : (v w : List ℕ) → quoted v ≡ quoted w → v ≡ w
quoted_is_one v w h = one_text v w (between_quotes (flat_map escaped v) (flat_map escaped w) h)
