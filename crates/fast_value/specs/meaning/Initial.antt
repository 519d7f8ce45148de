-- Initial values as they are written in a template file.
use Rattle.std.specs.Prelude.{◌≡◌, ℕ, ◌+◌, ◌*◌, ◌-◌, ◌^◌, ◌<◌, ◌≤◌, ◌⊎◌, List, [], ◌∷◌, ◌++◌, length, All, IsUtf8, ℤ, pos, neg_ℤ}
use Rattle.std.specs.Char.{IsAsciiDigit}
use Rattle.fast_wire.specs.meaning.Integers.{Range, exponent_range, signed_range, unsigned_range, IsWithin}
use Rattle.fast_value.specs.declared.kinds.Kind.{Kind}
use Rattle.fast_value.specs.declared.kinds.Kind.TheVariants.{UInt32, Int32, UInt64, Int64, Decimal, Ascii, Unicode, Bytes}
use Rattle.fast_value.specs.meaning.Kinds.{ScalarData, Dec, AsciiText, UnicodeText, ByteVector, value_of_integer}

-- the number that decimal digits stand for
-- FAST 1.1: Template Definition, Type Conversion.
abbrev pub digits_value : List ℕ → ℕ
digits_value [] = 0
digits_value (d ∷ ds) = (d - 0x30) * 10 ^ length ds + digits_value ds

-- 1 to 20 decimal digits
-- FAST 1.1: Template Definition, Type Conversion.
abbrev pub IsNumeral : List ℕ → Type 0
IsNumeral ds = All IsAsciiDigit ds × (1 ≤ length ds) × (length ds ≤ 20)

-- The string is 1 to 20 digits, with an optional minus in front, and stands for the integer, which is in range.
-- FAST 1.1: Template Definition, Type Conversion.
abbrev pub IsInteger : Range → List ℕ → ℤ → Type 0
IsInteger range text x = (ds : List ℕ) × IsNumeral ds × IsWithin range x
    × ((text ≡ ds) × (x ≡ pos (digits_value ds)) ⊎ (text ≡ 0x2D ∷ ds) × (x ≡ neg_ℤ (pos (digits_value ds))))

-- a mantissa, optionally followed by `e` and an exponent
-- FAST 1.1: Template Definition, Type Conversion.
abbrev pub IsDecimal : List ℕ → ℤ → ℤ → Type 0
IsDecimal text e m = IsInteger (signed_range 63) text m × (e ≡ pos 0)
    ⊎ ((front back : List ℕ) × (text ≡ front ++ 0x65 ∷ back) × IsInteger (signed_range 63) front m × IsInteger exponent_range back e)

-- The character is the hexadecimal digit, in either case, of the number.
-- FAST 1.1: Template Definition, Type Conversion.
abbrev pub IsHexDigit : ℕ → ℕ → Type 0
IsHexDigit c n = (n < 10) × (c ≡ 0x30 + n) ⊎ (10 ≤ n) × (n < 16) × (c ≡ 0x57 + n) ⊎ (10 ≤ n) × (n < 16) × (c ≡ 0x37 + n)

-- The string is the bytes, two digits for each.
-- FAST 1.1: Template Definition, Type Conversion.
abbrev pub IsHex : List ℕ → List ℕ → Type 0
IsHex [] v = v ≡ []
IsHex (c ∷ []) v = ⊥
IsHex (c ∷ d ∷ text) v = (high low : ℕ) × (rest : List ℕ) × IsHexDigit c high × IsHexDigit d low × IsHex text rest × (v ≡ (16 * high + low) ∷ rest)

-- the string is an integer of the type in digits
-- FAST 1.1: Template Definition, Type Conversion.
abbrev pub IsNumber : Range → Kind → List ℕ → ScalarData → Type 0
IsNumber range kind text v = (x : ℤ) × IsInteger range text x × (v ≡ value_of_integer kind x)

-- The string is an initial value of the type, and stands for the value.
-- FAST 1.1: Template Definition, Initial Value.
abbrev pub IsInitial : Kind → List ℕ → ScalarData → Type 0
IsInitial Decimal text v = (e m : ℤ) × IsDecimal text e m × (v ≡ Dec e m)
IsInitial Ascii text v = All (λ c. c < 0x80) text × (v ≡ AsciiText text)
IsInitial Unicode text v = IsUtf8 text × (v ≡ UnicodeText text)
IsInitial Bytes text v = (w : List ℕ) × IsHex text w × (v ≡ ByteVector w)
IsInitial UInt32 text v = IsNumber (unsigned_range 32) UInt32 text v
IsInitial Int32 text v = IsNumber (signed_range 31) Int32 text v
IsInitial UInt64 text v = IsNumber (unsigned_range 64) UInt64 text v
IsInitial Int64 text v = IsNumber (signed_range 63) Int64 text v
