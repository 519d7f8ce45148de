-- Integers as decimal digits, with an optional minus in front.
use Rattle.std.specs.Prelude.{◌≡◌, ◌⊎◌, ℕ, true, List, ◌∷◌, ℤ, pos, neg_ℤ}
use Rattle.fast_wire.specs.meaning.Integers.{Range}
use Rattle.fast_value.specs.meaning.Initial.{IsNumeral, digits_value}

-- The string is 1 to 20 digits, with an optional minus in front, and stands for the integer.
abbrev pub IsSigned : List ℕ → ℤ → Type 0
IsSigned text x = (ds : List ℕ) × IsNumeral ds × ((text ≡ ds) × (x ≡ pos (digits_value ds)) ⊎ (text ≡ 0x2D ∷ ds) × (x ≡ neg_ℤ (pos (digits_value ds))))

-- the integers from a least to a greatest
abbrev pub range_between : ℤ → ℤ → Range
range_between low high = record { is_signed = true; low = low; high = high }
