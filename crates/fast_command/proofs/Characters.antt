-- Single characters of a hexadecimal text.
use Rattle.std.proofs.Common.{◌≡◌, ◌⊎◌, ℕ, ◌+◌, ◌*◌, ◌-◌, ◌≤◌, ◌||◌, Bool, true, false, not, [], ◌∷◌, Some, Ok, refl, inl, inr, arith}
use Rattle.std.specs.Prelude.{nat_eq}
use Rattle.std.proofs.lemmas.Bool.{ne_eqb}
use Rattle.std.proofs.lemmas.Bool.Decides.{nat_tests}
use Rattle.fast_value.specs.meaning.Initial.{IsHexDigit}
use Rattle.fast_lines.specs.meaning.Hex.{IsBlank}
use Rattle.hex.specs.Hex.{hex_digit_value, decode_pairs, decode_sized}

-- digits from `0` to `9`
pub decimal_digit : (c : ℕ) → 0x30 ≤ c → c ≤ 0x39 → (n : ℕ) × IsHexDigit c n
decimal_digit c low high = (c - 0x30, inl (omega arith, omega arith))

-- digits from `a` to `f`
pub lower_digit : (c : ℕ) → 0x61 ≤ c → c ≤ 0x66 → (n : ℕ) × IsHexDigit c n
lower_digit c low high = (c - 0x57, inr (inl (omega arith, omega arith, omega arith)))

-- digits from `A` to `F`
pub upper_digit : (c : ℕ) → 0x41 ≤ c → c ≤ 0x46 → (n : ℕ) × IsHexDigit c n
upper_digit c low high = (c - 0x37, inr (inr (omega arith, omega arith, omega arith)))

-- A character that is in none of the ranges is no digit.
pub no_digit : (c n : ℕ) → IsHexDigit c n → ((0x30 ≤ c) × (c ≤ 0x39)) ⊎ ((0x61 ≤ c) × (c ≤ 0x66)) ⊎ ((0x41 ≤ c) × (c ≤ 0x46))
no_digit c n (inl h) = inl (let a = h.0 in let b = h.1 in omega arith, let a = h.0 in let b = h.1 in omega arith)
no_digit c n (inr (inl h)) = inr (inl (let a = h.0 in let b = h.1 in let d = h.2 in omega arith, let a = h.0 in let b = h.1 in let d = h.2 in omega arith))
no_digit c n (inr (inr h)) = inr (inr (let a = h.0 in let b = h.1 in let d = h.2 in omega arith, let a = h.0 in let b = h.1 in let d = h.2 in omega arith))

-- the value of a digit is that of the crate `hex`
pub value_of_digit : (c n : ℕ) → IsHexDigit c n → hex_digit_value c ≡ Some n
value_of_digit c n (inl h) = let a = h.0 in let b = h.1 in grind (arith, nat_tests)
value_of_digit c n (inr (inl h)) = let a = h.0 in let b = h.1 in let d = h.2 in grind (arith, nat_tests)
value_of_digit c n (inr (inr h)) = let a = h.0 in let b = h.1 in let d = h.2 in grind (arith, nat_tests)

-- what the crate `hex` makes of a pair of digits
pub pair_decoded : (high low m n : ℕ) → IsHexDigit high m → IsHexDigit low n → decode_sized (high ∷ low ∷ []) 1 ≡ Ok ((m * 16 + n) ∷ [])
unfolding decode_pairs
pair_decoded high low m n first second = rw (value_of_digit high m first, value_of_digit low n second) refl

-- a character that is no blank
abbrev pub is_shown : ℕ → Bool
is_shown c = not (nat_eq c 0x20 || nat_eq c 0x09 || nat_eq c 0x0D || nat_eq c 0x0A)

-- a blank is passed over
pub blank_dropped : (c : ℕ) → IsBlank c → is_shown c ≡ false
blank_dropped c (inl h) = rw h refl
blank_dropped c (inr (inl h)) = rw h refl
blank_dropped c (inr (inr (inl h))) = rw h refl
blank_dropped c (inr (inr (inr h))) = rw h refl

-- a digit is kept
pub digit_shown : (c n : ℕ) → IsHexDigit c n → is_shown c ≡ true
digit_shown c n h =
    elim (no_digit c n h) [
      | inl r ↦ let a = r.0 in by_ranges (λ e. omega arith) (λ e. omega arith) (λ e. omega arith) (λ e. omega arith)
      | inr s ↦ elim s [
        | inl r ↦ let a = r.0 in by_ranges (λ e. omega arith) (λ e. omega arith) (λ e. omega arith) (λ e. omega arith)
        | inr r ↦ let a = r.0 in by_ranges (λ e. omega arith) (λ e. omega arith) (λ e. omega arith) (λ e. omega arith)
      ]
    ]
  where
    by_ranges : (c ≡ 0x20 → ⊥) → (c ≡ 0x09 → ⊥) → (c ≡ 0x0D → ⊥) → (c ≡ 0x0A → ⊥) → is_shown c ≡ true
    by_ranges a b d e = rw (ne_eqb c 0x20 a, ne_eqb c 0x09 b, ne_eqb c 0x0D d, ne_eqb c 0x0A e) refl
