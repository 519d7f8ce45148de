-- The units as phrases: integers, ASCII strings, raw runs of bytes, presence maps.
use Rattle.std.specs.Prelude.{◌≡◌, ◌≢◌, ◌⊎◌, ℕ, ◌<◌, ◌≤◌, Bool, true, false, IsTrue, nat_le, if◌then◌else◌, List, [], ◌∷◌, ◌++◌, length, ℤ}
use Rattle.std.specs.Prelude.{Option, Some, Result, Ok, Err}
use Rattle.fast_wire.specs.meaning.Entities.{HaveNoStop, IsEntity, IsOverlong}
use Rattle.fast_wire.specs.meaning.Integers.{Range, IsWithin, value, Means, IsInteger, SpellsInt}
use Rattle.fast_wire.specs.meaning.Texts.{SpellsAscii}
use Rattle.fast_wire.specs.meaning.Maps.{map_limit, HasSpareByte, IsMap, bytes_for}
use Rattle.fast_value.specs.declared.codes.Code.{Code}
use Rattle.fast_value.specs.declared.codes.Code.TheVariants.{D2, L1, L3, R6, R7, R8, R9}
use Rattle.fast_stream.specs.meaning.Events.{EventData}
use Rattle.fast_stream.specs.meaning.Phrases.{Reached, whole, cut, wrong}

-- Ten bytes have no stop bit; or the entity is overlong, in strict mode; or its integer lies outside the range.
-- FAST 1.1: Error Codes, D2 and R6.
abbrev pub WrongInt : Bool → Range → Bool → Code → List ℕ → Code → Type 0
WrongInt strict range nullable outside w c =
    HaveNoStop w × (length w ≡ 10) × (c ≡ D2)
    ⊎ IsEntity w × (length w ≤ 10) × IsTrue strict × IsOverlong (value range) w × (c ≡ R6)
    ⊎ ((x : ℤ) × IsInteger strict range w × Means nullable (value range w) (Some x) × ¬ (IsWithin range x) × (c ≡ outside))

-- An integer, or NULL if nullable. Outside the range it is the named fault.
-- FAST 1.1: Transfer Encoding, Integers.
abbrev pub integer : Bool → Range → Bool → Code → List ℕ → List EventData → Reached (Option ℤ) → Type 0
integer strict range nullable outside w es (whole x) = SpellsInt strict range nullable x w × (es ≡ [])
integer strict range nullable outside w es cut = HaveNoStop w × (length w < 10) × (es ≡ [])
integer strict range nullable outside w es (wrong c) = WrongInt strict range nullable outside w c × (es ≡ [])

-- the first byte is zero
-- FAST 1.1: Transfer Encoding, ASCII Strings.
abbrev pub BeginsWithZero : List ℕ → Type 0
BeginsWithZero w = (rest : List ℕ) × (w ≡ 0x00 ∷ rest)

-- A zero in front is a fault at its own byte; if it may be that of the empty string, at the one after it.
-- FAST 1.1: Error Codes, R9.
abbrev pub HasLeadingZero : Bool → List ℕ → Type 0
HasLeadingZero false w = w ≡ 0x00 ∷ []
HasLeadingZero true w = (byte : ℕ) × (byte ≢ 0x80) × (w ≡ 0x00 ∷ byte ∷ [])

-- The byte after the room has been read, and these bytes are neither NULL nor an empty string.
abbrev pub IsTooLong : ℕ → List ℕ → Type 0
IsTooLong room w = (front : List ℕ) × (last : ℕ) × (w ≡ front ++ last ∷ []) × HaveNoStop front × (length front ≡ room) × ¬ (BeginsWithZero w) × (w ≢ 0x80 ∷ [])

-- An ASCII string of at most `room` characters, or NULL if nullable.
-- FAST 1.1: Transfer Encoding, ASCII Strings.
abbrev pub ascii_text : Bool → ℕ → List ℕ → List EventData → Reached (Option (List ℕ)) → Type 0
ascii_text nullable room w es (whole x) = SpellsAscii nullable room x w × (es ≡ [])
ascii_text nullable room w es cut = (HaveNoStop w × (length w ≤ room) × ¬ (BeginsWithZero w) ⊎ IsTrue nullable × (w ≡ 0x00 ∷ [])) × (es ≡ [])
ascii_text nullable room w es (wrong c) = (HasLeadingZero nullable w × (c ≡ R9) ⊎ IsTooLong room w × (c ≡ L1)) × (es ≡ [])

-- n bytes of any value
-- FAST 1.1: Transfer Encoding, Byte Vectors.
abbrev pub raw : ℕ → List ℕ → List EventData → Reached (List ℕ) → Type 0
raw n w es (whole v) = (v ≡ w) × (length w ≡ n) × (es ≡ [])
raw n w es cut = (length w < n) × (es ≡ [])
raw n w es (wrong c) = ⊥

-- A presence map. Its result is its bytes.
-- FAST 1.1: Transfer Encoding, Presence Map.
abbrev pub presence_map : Bool → List ℕ → List EventData → Reached (List ℕ) → Type 0
presence_map strict w es (whole m) = IsMap strict w × (m ≡ w) × (es ≡ [])
presence_map strict w es cut = HaveNoStop w × (length w < map_limit) × (es ≡ [])
presence_map strict w es (wrong c) = (HaveNoStop w × (length w ≡ map_limit) × (c ≡ L3) ⊎ IsEntity w × (length w ≤ map_limit)
    × IsTrue strict × HasSpareByte w × (c ≡ R7)) × (es ≡ [])

-- In strict mode a map has no more bytes than its segment's n bits need.
-- FAST 1.1: Error Codes, R8.
abbrev pub width_checked : Bool → ℕ → List ℕ → Result (Unit {0}) Code
width_checked false n m = Ok tt
width_checked true n m = if nat_le (length m) (bytes_for n) then Ok tt else Err R8
