-- Bytes as hexadecimal digits with blanks between them.
use Rattle.std.specs.Prelude.{◌≡◌, ◌⊎◌, ℕ, ◌||◌, not, nat_eq, List, [], ◌∷◌, ◌++◌, length, filter, All, Option, Some, None}
use Rattle.fast_value.specs.meaning.Initial.{IsHex, IsHexDigit}

-- space, tab, CR, LF
abbrev pub IsBlank : ℕ → Type 0
IsBlank c = (c ≡ 0x20) ⊎ (c ≡ 0x09) ⊎ (c ≡ 0x0D) ⊎ (c ≡ 0x0A)

-- a hexadecimal digit or a blank
abbrev pub IsHexOrBlank : ℕ → Type 0
IsHexOrBlank c = IsBlank c ⊎ ((n : ℕ) × IsHexDigit c n)

-- the text without its blanks
abbrev pub digits_in : List ℕ → List ℕ
digits_in t = filter (λ c. not (nat_eq c 0x20 || nat_eq c 0x09 || nat_eq c 0x0D || nat_eq c 0x0A)) t

-- The digits are the bytes, two for each; or one more digit than that.
abbrev pub ArePairs : List ℕ → List ℕ → Type 0
ArePairs ds v = IsHex ds v ⊎ ((front : List ℕ) × (last : ℕ) × (ds ≡ front ++ last ∷ []) × IsHex front v)

-- an odd number of digits, of which all but the last stand for the bytes
abbrev pub IsOddHex : List ℕ → List ℕ → Type 0
IsOddHex ds v = (front : List ℕ) × (last n : ℕ) × (ds ≡ front ++ last ∷ []) × IsHexDigit last n × IsHex front v

-- The text stands for the bytes up to its first bad place, if it has one: a character that is neither a digit nor
-- a blank, or the end where a digit is left alone.
abbrev pub Unhexed : List ℕ → List ℕ → Option ℕ → Type 0
Unhexed t v None = All IsHexOrBlank t × IsHex (digits_in t) v
Unhexed t v (Some place) =
    ((front rest : List ℕ) × (c : ℕ) × (t ≡ front ++ c ∷ rest) × All IsHexOrBlank front × ¬ (IsHexOrBlank c) × ArePairs (digits_in front) v
    × (place ≡ length front))
    ⊎ All IsHexOrBlank t × IsOddHex (digits_in t) v × (place ≡ length t)
