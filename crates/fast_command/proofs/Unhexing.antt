-- A hexadecimal text with one character more.
use Rattle.std.proofs.Common.{◌≡◌, ℕ, ◌+◌, ◌*◌, Bool, cond, List, [], ◌∷◌, ◌++◌, length, refl, ap, ◌∙◌, inl, inr, append_assoc, append-nil}
use Rattle.std.specs.Prelude.{All, filter}
use Rattle.std.proofs.lemmas.List.Elements.{All-append, All-cons, All-nil, filter-append}
use Rattle.fast_value.specs.meaning.Initial.{IsHex, IsHexDigit}
use Rattle.fast_lines.specs.meaning.Hex.{IsBlank, IsHexOrBlank, digits_in}
use Rattle.fast_command.specs.declared.unhexer.Place.{Place}
use Rattle.fast_command.specs.declared.unhexer.Place.TheVariants.{Between, InPair, Bad}
use Rattle.fast_command.specs.meaning.Unhexing.{StandsAt}
use Rattle.fast_command.proofs.Characters.{is_shown, blank_dropped, digit_shown}

-- one of the two more
hex_or_blank_more : (t : List ℕ) (c : ℕ) → All IsHexOrBlank t → IsHexOrBlank c → All IsHexOrBlank (t ++ c ∷ [])
hex_or_blank_more t c all here = All-append IsHexOrBlank t (c ∷ []) all (All-cons IsHexOrBlank c [] here (All-nil IsHexOrBlank))

-- the digits with a blank more
digits_blank : (t : List ℕ) (c : ℕ) → IsBlank c → digits_in (t ++ c ∷ []) ≡ digits_in t
digits_blank t c blank = filter-append is_shown t (c ∷ [])
    ∙ ap (λ (b : Bool). filter is_shown t ++ cond b (c ∷ []) []) (blank_dropped c blank) ∙ append-nil (filter is_shown t)

-- the digits with a digit more
digits_digit : (t : List ℕ) (c n : ℕ) → IsHexDigit c n → digits_in (t ++ c ∷ []) ≡ digits_in t ++ c ∷ []
digits_digit t c n digit = filter-append is_shown t (c ∷ []) ∙ ap (λ (b : Bool). filter is_shown t ++ cond b (c ∷ []) []) (digit_shown c n digit)

-- a pair of digits more
pair_more : (ds v : List ℕ) (c d m n : ℕ) → IsHex ds v → IsHexDigit c m → IsHexDigit d n → IsHex (ds ++ c ∷ d ∷ []) (v ++ (16 * m + n) ∷ [])
pair_more [] v c d m n all first second = rw all (m, n, [], first, second, refl, refl)
pair_more (x ∷ []) v c d m n all first second = absurd all
pair_more (x ∷ y ∷ ds) v c d m n all first second =
    (all.0, all.1, all.2 ++ (16 * m + n) ∷ [], all.3, all.4, pair_more ds all.2 c d m n all.5 first second, ap (λ (xs : List ℕ). xs ++ (16 * m + n) ∷ []) all.6)

-- the same bytes
same_bytes : (p : Place) (t v : List ℕ) → StandsAt p t v → StandsAt p t (v ++ [])
same_bytes p t v h = rw (append-nil v) h

-- behind a blank the text stands where it stood
pub blank_more : (p : Place) (t v : List ℕ) (c : ℕ) → IsBlank c → StandsAt p t v → StandsAt p (t ++ c ∷ []) (v ++ [])
blank_more p t v c blank h = same_bytes p (t ++ c ∷ []) v (at p h)
  where
    at : (p : Place) → StandsAt p t v → StandsAt p (t ++ c ∷ []) v
    at Between h = (hex_or_blank_more t c h.0 (inl blank), rw (digits_blank t c blank) h.1)
    at (InPair d) h = (hex_or_blank_more t c h.0 (inl blank), (h.1.0, h.1.1, digits_blank t c blank ∙ h.1.2, h.1.3, h.1.4))
    at (Bad place) h = (h.0, h.1 ++ c ∷ [], h.2, ap (λ (xs : List ℕ). xs ++ c ∷ []) h.3 ∙ append_assoc h.0 (h.2 ∷ h.1) (c ∷ []), h.4, h.5, h.6, h.7)

-- behind a bad character nothing matters
pub bad_more : (place : ℕ) (t v : List ℕ) (c : ℕ) → StandsAt (Bad place) t v → StandsAt (Bad place) (t ++ c ∷ []) (v ++ [])
bad_more place t v c h = same_bytes (Bad place) (t ++ c ∷ []) v
    (h.0, h.1 ++ c ∷ [], h.2, ap (λ (xs : List ℕ). xs ++ c ∷ []) h.3 ∙ append_assoc h.0 (h.2 ∷ h.1) (c ∷ []), h.4, h.5, h.6, h.7)

-- the first digit of a pair
pub first_more : (t v : List ℕ) (c n : ℕ) → IsHexDigit c n → StandsAt Between t v → StandsAt (InPair c) (t ++ c ∷ []) (v ++ [])
first_more t v c n digit h = same_bytes (InPair c) (t ++ c ∷ []) v
    (hex_or_blank_more t c h.0 (inr (n, digit)), (digits_in t, n, digits_digit t c n digit, digit, h.1))

-- the second digit of a pair
pub second_more : (t v : List ℕ) (d c n byte : ℕ) → IsHexDigit c n → ((m : ℕ) → IsHexDigit d m → byte ≡ 16 * m + n)
    → StandsAt (InPair d) t v → StandsAt Between (t ++ c ∷ []) (v ++ byte ∷ [])
second_more t v d c n byte digit value h =
    let front = h.1.0 in
    let digits : digits_in (t ++ c ∷ []) ≡ front ++ d ∷ c ∷ [] = digits_digit t c n digit ∙ ap (λ (xs : List ℕ). xs ++ c ∷ []) h.1.2
    ∙ append_assoc front (d ∷ []) (c ∷ []) in
    let pairs = pair_more front v d c h.1.1 n h.1.4 h.1.3 digit in
    (hex_or_blank_more t c h.0 (inr (n, digit)), rw (digits, value h.1.1 h.1.3) pairs)

-- a bad character, which is the first or not
pub other_more : (p : Place) (t v : List ℕ) (c n : ℕ) → ¬ (IsHexOrBlank c) → n ≡ length t → ((place : ℕ) → p ≡ Bad place → ⊥)
    → StandsAt p t v → StandsAt (Bad n) (t ++ c ∷ []) (v ++ [])
other_more p t v c n other len known h = same_bytes (Bad n) (t ++ c ∷ []) v (at p known h)
  where
    at : (p : Place) → ((place : ℕ) → p ≡ Bad place → ⊥) → StandsAt p t v → StandsAt (Bad n) (t ++ c ∷ []) v
    at Between known h = (t, [], c, refl, h.0, other, inl h.1, len)
    at (InPair d) known h = (t, [], c, refl, h.0, other, inr (h.1.0, d, h.1.2, h.1.4), len)
    at (Bad place) known h = absurd (known place refl)
