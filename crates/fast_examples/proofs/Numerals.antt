-- Texts of integers, as initial values.
use Rattle.std.proofs.Common.{refl, arith, inl, inr}
use Rattle.std.proofs.lemmas.List.Elements.{All-cons, All-nil}
use Rattle.std.specs.Char.{IsAsciiDigit}
use Rattle.std.specs.Prelude.{ℕ, ◌≤◌, [], ◌∷◌, codes, pos, negsuc}
use Rattle.fast_value.specs.declared.kinds.Kind.TheVariants.{UInt32, Int32}
use Rattle.fast_value.specs.meaning.Kinds.{U, I, unsigned_range, signed_range}
use Rattle.fast_value.specs.meaning.Initial.{IsNumeral, IsInitial}
use Rattle.fast_examples.proofs.Encoded.{fits}

-- a digit, and two
pub one_digit : (c : ℕ) → 0x30 ≤ c → c ≤ 0x39 → IsNumeral (c ∷ [])
one_digit c g h = (All-cons IsAsciiDigit c [] (g, h) (All-nil IsAsciiDigit), omega arith, omega arith)

pub two_digits : (c d : ℕ) → 0x30 ≤ c → c ≤ 0x39 → 0x30 ≤ d → d ≤ 0x39 → IsNumeral (c ∷ d ∷ [])
two_digits c d g h i j = (All-cons IsAsciiDigit c (d ∷ []) (g, h) (All-cons IsAsciiDigit d [] (i, j) (All-nil IsAsciiDigit)), omega arith, omega arith)

pub seven : IsInitial UInt32 (codes "7") (U 7)
seven = (pos 7, (codes "7", one_digit 0x37 (omega arith) (omega arith), fits (unsigned_range 32) (pos 7) refl, inl (refl, refl)), refl)

pub minus_three : IsInitial Int32 (codes "-3") (I (negsuc 2))
minus_three = (negsuc 2, (codes "3", one_digit 0x33 (omega arith) (omega arith), fits (signed_range 31) (negsuc 2) refl, inr (refl, refl)), refl)
