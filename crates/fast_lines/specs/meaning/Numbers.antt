-- Numbers of any size, as lines have them.
use Rattle.std.specs.Prelude.{◌≡◌, ◌≢◌, ◌⊎◌, ℕ, ◌≤◌, List, [], ◌∷◌, ◌++◌, length, slice_index, All}
use Rattle.std.specs.Char.{IsAsciiDigit}

-- decimal digits without leading zeros
pub record IsDigits (ds : List ℕ) : Type 0 where
  pub digits : All IsAsciiDigit ds
  pub some : 1 ≤ length ds
  pub shortest : slice_index ds 0 ≡ 0x30 → length ds ≡ 1

-- such digits, behind a minus if they aren't `0` alone
pub record IsSignedDigits (text : List ℕ) : Type 0 where
  pub how : IsDigits text ⊎ ((ds : List ℕ) × (text ≡ 0x2D ∷ ds) × IsDigits ds × (ds ≢ 0x30 ∷ []))

-- a mantissa, `e` and an exponent
pub record IsDecimalDigits (text : List ℕ) : Type 0 where
  pub mantissa : List ℕ
  pub exponent : List ℕ
  pub is : text ≡ mantissa ++ 0x65 ∷ exponent
  pub before : IsSignedDigits mantissa
  pub behind : IsSignedDigits exponent

-- the digits of a number with this letter
pub record IsNumberOf (letter : ℕ) (digits : List ℕ) : Type 0 where
  pub how : (letter ≡ 0x75) × IsDigits digits ⊎ (letter ≡ 0x69) × IsSignedDigits digits ⊎ (letter ≡ 0x64) × IsDecimalDigits digits

-- The text is a letter and a number of its kind, which may be too great for any field.
pub record IsNumberText (text : List ℕ) : Type 0 where
  pub letter : ℕ
  pub digits : List ℕ
  pub is : text ≡ letter ∷ 0x20 ∷ digits
  pub number : IsNumberOf letter digits
