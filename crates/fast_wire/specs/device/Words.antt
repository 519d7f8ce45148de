-- Entities as words of eight bytes.
use Rattle.std.specs.Prelude.{◌≡◌, ℕ, ◌+◌, ◌*◌, ◌^◌, ◌<◌, ◌≤◌, List, [], ◌∷◌, length, take, All}
use Rattle.std.specs.Int.{w64, from_le_bytes}
use Rattle.fast_wire.specs.meaning.Entities.{IsEntity, number, signed}

-- the bytes as the digits of one number to the base 256
abbrev pub word_of : List ℕ → ℕ
word_of [] = 0
word_of (byte ∷ w) = byte * 2 ^ (8 * length w) + word_of w

-- The bytes begin with an entity of this number and this length, at most eight.
pub record IsShortEntity (sum len : ℕ) (w : List ℕ) : Type 0 where
  pub whole : len ≤ length w
  pub short : len ≤ 8
  pub entity : IsEntity (take len w)
  pub value : sum ≡ number (take len w)

-- The bytes begin with an entity of this length, whose number is that of eight bytes that make up the word.
abbrev pub IsWordInFront : ℕ → ℕ → List ℕ → Type 0
IsWordInFront word len bytes = (n : ℕ) → ((w : List ℕ) → length w ≡ 8 → All (λ byte. byte < 256) w → word ≡ word_of w → n ≡ number w)
    → IsShortEntity n len bytes

-- At least eight bytes, whose first eight make up the word, the first one the lowest.
pub record IsFrontWord (word : ℕ) (bytes : List ℕ) : Type 0 where
  pub enough : 8 ≤ length bytes
  pub same : word ≡ from_le_bytes w64 (take 8 bytes)

-- The word is that of four bytes which encode the same integer as these do.
abbrev pub IsSpread : ℕ → List ℕ → Type 0
IsSpread word front = (w : List ℕ) × (length w ≡ 4) × All (λ byte. byte < 256) w × (word ≡ word_of w) × (signed w ≡ signed front)
