-- Laws of entities, of the integers that they encode, and of presence maps.
use Rattle.std.specs.Prelude.{◌≡◌, ℕ, ◌≤◌, ◌<◌, Bool, true, false, List, [], ◌++◌, length, slice_index_or, All, ℤ, Option, IfSome}
use Rattle.fast_wire.specs.meaning.Entities.{HaveNoStop, IsEntity}
use Rattle.fast_wire.specs.meaning.Integers.{Range, IsWithin, SpellsInt}
use Rattle.fast_wire.specs.meaning.Shortest.{IsShortest}
use Rattle.fast_wire.specs.meaning.Faulty.{IsWrongInt}
use Rattle.fast_wire.specs.meaning.Maps.{bits, IsMap, bytes_for}
use Rattle.fast_wire.specs.declared.reads.WireFault.{WireFault}

-- An entity is no proper prefix of an entity.
abbrev pub NoProperFront : Type 0
NoProperFront = (v u : List ℕ) → IsEntity v → IsEntity (v ++ u) → u ≡ []

-- An entity is no prefix of bytes without a stop bit.
abbrev pub NoStopNoEntity : Type 0
NoStopNoEntity = (v u : List ℕ) → IsEntity v → HaveNoStop (v ++ u) → ⊥

-- Bytes encode at most one integer.
abbrev pub OneReading : Type 0
OneReading = (strict mode : Bool) (range : Range) (nullable : Bool) (x y : Option ℤ) (w : List ℕ)
    → SpellsInt strict range nullable x w → SpellsInt mode range nullable y w → x ≡ y

-- Bytes that encode an integer decide no fault.
abbrev pub OneOutcome : Type 0
OneOutcome = (strict : Bool) (range : Range) (nullable : Bool) (x : Option ℤ) (fault : WireFault) (w : List ℕ)
    → SpellsInt strict range nullable x w → IsWrongInt strict range nullable fault w → ⊥

-- Bytes that encode a value in strict mode encode it in both modes.
abbrev pub StrictIsLenient : Type 0
StrictIsLenient = (strict : Bool) (range : Range) (nullable : Bool) (x : Option ℤ) (w : List ℕ)
    → SpellsInt true range nullable x w → SpellsInt strict range nullable x w

-- An encoding in strict mode is no longer than any other of the same integer.
abbrev pub StrictIsShortest : Type 0
StrictIsShortest = (strict : Bool) (range : Range) (nullable : Bool) (x : Option ℤ) (v w : List ℕ)
    → SpellsInt true range nullable x w → SpellsInt strict range nullable x v → length w ≤ length v

-- The shortest encoding of an integer is not overlong.
abbrev pub ShortestIsStrict : Type 0
ShortestIsStrict = (range : Range) (nullable : Bool) (x : Option ℤ) (w : List ℕ)
    → SpellsInt false range nullable x w → ((v : List ℕ) → SpellsInt false range nullable x v → length w ≤ length v) → SpellsInt true range nullable x w

-- An integer has one encoding in strict mode.
abbrev pub OneSpelling : Type 0
OneSpelling = (range : Range) (nullable : Bool) (x : Option ℤ) (v w : List ℕ) → All (λ byte. byte < 256) v → All (λ byte. byte < 256) w
    → SpellsInt true range nullable x v → SpellsInt true range nullable x w → v ≡ w

-- The bytes written for an integer encode it in both modes, and nothing else.
abbrev pub ReadBack : Type 0
ReadBack = (strict : Bool) (range : Range) (nullable : Bool) (x y : Option ℤ) (w : List ℕ) → IsShortest range.is_signed nullable x w → IfSome x (IsWithin range)
    → SpellsInt strict range nullable x w × (SpellsInt strict range nullable y w → y ≡ x)

-- the same bits, where all bits after the last one are zero
abbrev pub HaveSameBits : List ℕ → List ℕ → Type 0
HaveSameBits v w = (i : ℕ) → slice_index_or (bits v) i false ≡ slice_index_or (bits w) i false

-- A map in strict mode is no longer than any other of the same bits.
abbrev pub MapIsShortest : Type 0
MapIsShortest = (v w : List ℕ) → IsMap true w → IsEntity v → HaveSameBits v w → length w ≤ length v

-- A map in strict mode that has no bit set after the first n has no more bytes than these may have.
abbrev pub MapIsNarrow : Type 0
MapIsNarrow = (n : ℕ) (w : List ℕ) → IsMap true w → ((i : ℕ) → n ≤ i → slice_index_or (bits w) i false ≡ false) → length w ≤ bytes_for n
