-- Faults with their places, as statements. The place is the number of bytes that decide the fault.
use Rattle.std.specs.Prelude.{[], ◌∷◌}
use Rattle.fast_value.specs.meaning.Kinds.{U}
use Rattle.fast_value.specs.declared.codes.Code.TheVariants.{D2, D4, D5, D7, D9, R2, R6, R7, R8, R9}
use Rattle.fast_stream.specs.meaning.Events.{MessageStart, FieldValue, MessageEnd}
use Rattle.fast_stream.specs.meaning.Streams.{Stream, between, faulted}
use Rattle.fast_examples.specs.meaning.Vectors.{vectors, lenient, strict, short_texts}

-- none to copy; 85, which no template has; one of ten bytes without a stop
abbrev pub IdentifierFaults : Type 0
IdentifierFaults =
    Stream vectors lenient (0x80 ∷ []) [] (faulted D5 1)
    × Stream vectors lenient (0xC0 ∷ 0xD5 ∷ []) [] (faulted D9 2)
    × Stream vectors lenient (0xC0 ∷ 0x00 ∷ 0x00 ∷ 0x00 ∷ 0x00 ∷ 0x00 ∷ 0x00 ∷ 0x00 ∷ 0x00 ∷ 0x00 ∷ 0x00 ∷ []) [] (faulted D2 11)

-- a mandatory copy with nothing to copy; a text to be copied from the entry of a uInt32
abbrev pub PreviousValueFaults : Type 0
PreviousValueFaults =
    Stream vectors lenient (0xC0 ∷ 0x8A ∷ []) (MessageStart 9 ∷ []) (faulted D5 2)
    × Stream vectors lenient (0xE0 ∷ 0x86 ∷ 0x81 ∷ 0xC0 ∷ 0x8B ∷ []) (MessageStart 5 ∷ FieldValue 6 (U 0) ∷ MessageEnd ∷ MessageStart 10 ∷ []) (faulted D4 5)

-- 2^32 for a uInt32; ten bytes without a stop; a delta of ten bytes that leads out of an int32
abbrev pub IntegerFaults : Type 0
IntegerFaults =
    Stream vectors lenient (0xC0 ∷ 0x81 ∷ 0x10 ∷ 0x00 ∷ 0x00 ∷ 0x00 ∷ 0x80 ∷ []) (MessageStart 0 ∷ []) (faulted D2 7)
    × Stream vectors lenient (0xC0 ∷ 0x8E ∷ 0x01 ∷ 0x01 ∷ 0x01 ∷ 0x01 ∷ 0x01 ∷ 0x01 ∷ 0x01 ∷ 0x01 ∷ 0x01 ∷ 0x01 ∷ []) (MessageStart 13 ∷ []) (faulted D2 12)
    × Stream vectors lenient (0xC0 ∷ 0x90 ∷ 0x3F ∷ 0x7F ∷ 0x7F ∷ 0x7F ∷ 0x7F ∷ 0x7F ∷ 0x7F ∷ 0x7F ∷ 0x7F ∷ 0xFF ∷ []) (MessageStart 15 ∷ []) (faulted D2 12)

-- no UTF-8; a size of 2^32; an ASCII text that begins with a zero
abbrev pub TextFaults : Type 0
TextFaults =
    Stream vectors short_texts (0xC0 ∷ 0x88 ∷ 0x82 ∷ 0xC3 ∷ 0x28 ∷ []) (MessageStart 7 ∷ []) (faulted R2 5)
    × Stream vectors lenient (0xC0 ∷ 0x88 ∷ 0x10 ∷ 0x00 ∷ 0x00 ∷ 0x00 ∷ 0x80 ∷ []) (MessageStart 7 ∷ []) (faulted D2 7)
    × Stream vectors lenient (0xE0 ∷ 0x83 ∷ 0x00 ∷ []) (MessageStart 2 ∷ []) (faulted R9 3)

-- 2^31, which is no int32; -2^31, which is one, and more than the empty text has
abbrev pub SubtractionFaults : Type 0
SubtractionFaults =
    Stream vectors lenient (0xC0 ∷ 0x84 ∷ 0x08 ∷ 0x00 ∷ 0x00 ∷ 0x00 ∷ 0x80 ∷ []) (MessageStart 3 ∷ []) (faulted D7 7)
    × Stream vectors lenient (0xC0 ∷ 0x84 ∷ 0x78 ∷ 0x00 ∷ 0x00 ∷ 0x00 ∷ 0x80 ∷ []) (MessageStart 3 ∷ []) (faulted D7 7)

-- an integer with a zero in front
abbrev pub OverlongInteger : Type 0
OverlongInteger =
    Stream vectors lenient (0xC0 ∷ 0x81 ∷ 0x00 ∷ 0x81 ∷ []) (MessageStart 0 ∷ FieldValue 0 (U 1) ∷ MessageEnd ∷ []) between
    × Stream vectors strict (0xC0 ∷ 0x81 ∷ 0x00 ∷ 0x81 ∷ []) (MessageStart 0 ∷ []) (faulted R6 4)

-- a map whose second byte has no bit; one whose second byte has a bit that the template cannot use
abbrev pub OverlongMaps : Type 0
OverlongMaps =
    Stream vectors lenient (0x40 ∷ 0x80 ∷ 0x81 ∷ 0x81 ∷ []) (MessageStart 0 ∷ FieldValue 0 (U 1) ∷ MessageEnd ∷ []) between
    × Stream vectors lenient (0x40 ∷ 0x81 ∷ 0x81 ∷ 0x81 ∷ []) (MessageStart 0 ∷ FieldValue 0 (U 1) ∷ MessageEnd ∷ []) between
    × Stream vectors strict (0x40 ∷ 0x80 ∷ 0x81 ∷ 0x81 ∷ []) [] (faulted R7 2)
    × Stream vectors strict (0x40 ∷ 0x81 ∷ 0x81 ∷ 0x81 ∷ []) [] (faulted R8 3)
