-- The columns before a text: an offset, and bytes.
use Rattle.std.specs.Prelude.{ℕ, ◌-◌, ◌*◌, ◌/◌, ◌%◌, ◌+◌, ◌^◌, ◌||◌, nat_lt, if◌then◌else◌, Bool, true, false, List, [], ◌∷◌, ◌++◌, length}
use Rattle.std.specs.Prelude.{take, flat_map, codes}
use Rattle.fast_lines.specs.meaning.Lines.{hex_digit, hex_byte}

-- a hexadecimal digit, or a space in its place
abbrev pub mark : Bool → ℕ → ℕ
mark is_shown digit = if is_shown then hex_digit digit else 0x20

-- The digit of an offset at its lowest bit; nothing before the first digit that is not 0.
abbrev pub digit_at : Bool → ℕ → ℕ → List ℕ
digit_at is_shown at shift = if nat_lt 0 (at / 2 ^ shift) then mark is_shown (at / 2 ^ shift % 16) ∷ [] else []

-- four digits, if the offset has them
abbrev pub four : Bool → ℕ → ℕ → List ℕ
four is_shown at shift = digit_at is_shown at (shift + 12) ++ digit_at is_shown at (shift + 8) ++ digit_at is_shown at (shift + 4) ++ digit_at is_shown at shift

-- the last four digits, which each offset has
abbrev pub last_four : Bool → ℕ → List ℕ
last_four is_shown at = mark is_shown (at / 2 ^ 12 % 16) ∷ mark is_shown (at / 2 ^ 8 % 16) ∷ mark is_shown (at / 2 ^ 4 % 16) ∷ mark is_shown (at % 16) ∷ []

-- An offset below 2 ^ 64 in hexadecimal digits, at least four; or as many spaces.
abbrev pub offset : Bool → ℕ → List ℕ
offset is_shown at = four is_shown at 48 ++ four is_shown at 32 ++ four is_shown at 16 ++ last_four is_shown at

-- a byte as two digits, after a space
abbrev pub spaced : ℕ → List ℕ
spaced c = 0x20 ∷ hex_byte c

-- The offset and the bytes there, of which a row has at most eight.
abbrev pub cells : ℕ → List ℕ → List ℕ
cells at bytes = offset true at ++ codes " " ++ flat_map spaced bytes

-- The same before a text, which stands in one column: spaces fill up what eight bytes would take, and the offset where there are no bytes.
abbrev pub columns : ℕ → List ℕ → List ℕ
columns at [] = offset false at ++ codes "                           "
columns at (c ∷ cs) = cells at (c ∷ cs) ++ take (3 * (8 - length (c ∷ cs)) + 2) (codes "                          ")
