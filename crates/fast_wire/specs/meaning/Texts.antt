-- Strings, byte vectors and decimals, with None for NULL.
use Rattle.std.specs.Prelude.{◌≡◌, ◌≢◌, ℕ, ◌+◌, ◌<◌, ◌≤◌, Bool, true, false, IsTrue, List, [], ◌∷◌, ◌++◌, length, All, ℤ, pos, Option, Some, None}
use Rattle.fast_wire.specs.meaning.Integers.{Range, unsigned_range, SpellsInt}

-- The empty string is a zero. If that is NULL, one more zero is put in front.
-- FAST 1.1: Transfer Encoding, ASCII Strings.
abbrev pub empty_ascii : Bool → List ℕ
empty_ascii false = 0x80 ∷ []
empty_ascii true = 0x00 ∷ 0x80 ∷ []

-- The characters, with the stop bit on the last.
-- FAST 1.1: Transfer Encoding, ASCII Strings.
abbrev pub Stopped : List ℕ → List ℕ → Type 0
Stopped v w = (front : List ℕ) × (last : ℕ) × (v ≡ front ++ last ∷ []) × (w ≡ front ++ (last + 128) ∷ [])

-- The bytes encode the ASCII string, of at most `room` characters. No string that begins with U+0000 has an encoding.
-- FAST 1.1: Transfer Encoding, ASCII Strings.
abbrev pub SpellsAscii : Bool → ℕ → Option (List ℕ) → List ℕ → Type 0
SpellsAscii nullable room None w = IsTrue nullable × (w ≡ 0x80 ∷ [])
SpellsAscii nullable room (Some []) w = w ≡ empty_ascii nullable
SpellsAscii nullable room (Some (c ∷ v)) w = (c ≢ 0) × All (λ character. character < 128) (c ∷ v) × (length (c ∷ v) ≤ room) × Stopped (c ∷ v) w

-- The bytes encode the size of a vector, or NULL.
-- FAST 1.1: Transfer Encoding, Byte Vectors.
abbrev pub SpellsSize : Bool → Bool → Option ℕ → List ℕ → Type 0
SpellsSize strict nullable None w = SpellsInt strict (unsigned_range 32) nullable None w
SpellsSize strict nullable (Some n) w = SpellsInt strict (unsigned_range 32) nullable (Some (pos n)) w

-- The bytes encode the vector, of at most `room` bytes: its size, then itself. A Unicode string is encoded as its bytes.
-- FAST 1.1: Transfer Encoding, Byte Vectors and Unicode Strings.
abbrev pub SpellsVector : Bool → Bool → ℕ → Option (List ℕ) → List ℕ → Type 0
SpellsVector strict nullable room None w = SpellsSize strict nullable None w
SpellsVector strict nullable room (Some v) w = (size : List ℕ) × SpellsSize strict nullable (Some (length v)) size × (w ≡ size ++ v) × (length v ≤ room)

-- The bytes encode an exponent and a mantissa in these ranges. If the exponent is NULL, no mantissa follows.
-- FAST 1.1: Transfer Encoding, Scaled Numbers.
abbrev pub SpellsDec : Bool → Range → Range → Bool → Option (ℤ × ℤ) → List ℕ → Type 0
SpellsDec strict exponents mantissas nullable None w = SpellsInt strict exponents nullable None w
SpellsDec strict exponents mantissas nullable (Some x) w = (u v : List ℕ) × SpellsInt strict exponents nullable (Some x.0) u
    × SpellsInt strict mantissas false (Some x.1) v × (w ≡ u ++ v)
