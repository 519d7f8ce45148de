-- Whole messages, as statements: these bytes are the stream of these events. It ends between two messages, or at the fault
-- that is named.
use Rattle.std.specs.Prelude.{ℕ, List, [], ◌∷◌, ◌++◌, codes, pos, negsuc}
use Rattle.fast_value.specs.meaning.Kinds.{U, I, Dec, AsciiText, UnicodeText, ByteVector}
use Rattle.fast_value.specs.declared.codes.Code.TheVariants.{R1, R6, R9}
use Rattle.fast_stream.specs.meaning.Events.{EventData, MessageStart, FieldValue, GroupStart, GroupEnd, SequenceStart, SequenceEnd}
use Rattle.fast_stream.specs.meaning.Events.{ElementStart, ElementEnd, MessageEnd}
use Rattle.fast_stream.specs.meaning.Streams.{Stream, between, faulted}
use Rattle.fast_examples.specs.meaning.Vectors.{vectors, lenient, strict, short_texts}

-- C0 the map, 81 the identifier, 39 45 A3 the integer
abbrev pub OneInteger : Type 0
OneInteger =
    Stream vectors lenient
    (0xC0 ∷ 0x81 ∷ 0x39 ∷ 0x45 ∷ 0xA3 ∷ [])
    (MessageStart 0 ∷ FieldValue 0 (U 942755) ∷ MessageEnd ∷ [])
    between

-- the same, and a message that sends no identifier
abbrev pub CopiedIdentifier : Type 0
CopiedIdentifier =
    Stream vectors lenient
    (0xC0 ∷ 0x81 ∷ 0x39 ∷ 0x45 ∷ 0xA3
    ∷ 0x80 ∷ 0x80 ∷ [])
    (MessageStart 0 ∷ FieldValue 0 (U 942755) ∷ MessageEnd
    ∷ MessageStart 0 ∷ FieldValue 0 (U 0) ∷ MessageEnd ∷ [])
    between

-- three int64
abbrev pub signed_bytes : List ℕ
signed_bytes =
    0xC0 ∷ 0x8C ∷ 0x46 ∷ 0x3A ∷ 0xDD
    ∷ 0x80 ∷ 0x00 ∷ 0x40 ∷ 0x81
    ∷ 0x80 ∷ 0x7F ∷ 0x3F ∷ 0xFF ∷ []

-- the events of these
abbrev pub signed_events : List EventData
signed_events =
    MessageStart 11 ∷ FieldValue 12 (I (negsuc 942754)) ∷ MessageEnd
    ∷ MessageStart 11 ∷ FieldValue 12 (I (pos 8193)) ∷ MessageEnd
    ∷ MessageStart 11 ∷ FieldValue 12 (I (negsuc 8192)) ∷ MessageEnd ∷ []

-- -942755, 8193 and -8193, in both modes: a first byte that holds the sign alone is not one too many
abbrev pub SignedIntegers : Type 0
SignedIntegers = Stream vectors lenient signed_bytes signed_events between × Stream vectors strict signed_bytes signed_events between

-- four uInt32 that may be absent: the greatest, NULL, zero, and a NULL of two bytes
abbrev pub nullable_bytes : List ℕ
nullable_bytes =
    0xC0 ∷ 0x8D ∷ 0x10 ∷ 0x00 ∷ 0x00 ∷ 0x00 ∷ 0x80
    ∷ 0x80 ∷ 0x80
    ∷ 0x80 ∷ 0x81
    ∷ 0x80 ∷ 0x00 ∷ 0x80 ∷ []

-- the events of the first three, and the start of the fourth
abbrev pub nullable_events : List EventData
nullable_events =
    MessageStart 12 ∷ FieldValue 13 (U 4294967295) ∷ MessageEnd
    ∷ MessageStart 12 ∷ MessageEnd
    ∷ MessageStart 12 ∷ FieldValue 13 (U 0) ∷ MessageEnd
    ∷ MessageStart 12 ∷ []

-- In strict mode the NULL of two bytes is overlong.
abbrev pub NullableIntegers : Type 0
NullableIntegers =
    Stream vectors lenient nullable_bytes (nullable_events ++ MessageEnd ∷ []) between
    × Stream vectors strict nullable_bytes nullable_events (faulted R6 14)

-- the greatest int64 as nullable, raised by one, in ten bytes
abbrev pub GreatestInteger : Type 0
GreatestInteger =
    Stream vectors lenient
    (0xC0 ∷ 0x8E ∷ 0x01 ∷ 0x00 ∷ 0x00 ∷ 0x00 ∷ 0x00 ∷ 0x00 ∷ 0x00 ∷ 0x00 ∷ 0x00 ∷ 0x80 ∷ [])
    (MessageStart 13 ∷ FieldValue 14 (I (pos 9223372036854775807)) ∷ MessageEnd ∷ [])
    between

-- a length of three, and no byte for the elements
abbrev pub ConstantElements : Type 0
ConstantElements =
    Stream vectors lenient
    (0xC0 ∷ 0x82 ∷ 0x83 ∷ [])
    (MessageStart 1 ∷ SequenceStart 1 3
    ∷ ElementStart ∷ FieldValue 2 (U 7) ∷ ElementEnd
    ∷ ElementStart ∷ FieldValue 2 (U 7) ∷ ElementEnd
    ∷ ElementStart ∷ FieldValue 2 (U 7) ∷ ElementEnd
    ∷ SequenceEnd ∷ MessageEnd ∷ [])
    between

-- the size and the bytes of an e with an acute accent
abbrev pub OneUnicodeText : Type 0
OneUnicodeText =
    Stream vectors short_texts
    (0xC0 ∷ 0x88 ∷ 0x82 ∷ 0xC3 ∷ 0xA9 ∷ [])
    (MessageStart 7 ∷ FieldValue 9 (UnicodeText (0xC3 ∷ 0xA9 ∷ [])) ∷ MessageEnd ∷ [])
    between

-- 15e-1 and an absent decimal; 1e63 and 5e0; an exponent of 64, which is out of range at its last byte
abbrev pub Decimals : Type 0
Decimals =
    Stream vectors lenient
    (0xC0 ∷ 0x92 ∷ 0xFF ∷ 0x8F ∷ 0x80
    ∷ 0x80 ∷ 0xBF ∷ 0x81 ∷ 0x81 ∷ 0x85
    ∷ 0x80 ∷ 0x00 ∷ 0xC0 ∷ [])
    (MessageStart 17 ∷ FieldValue 23 (Dec (negsuc 0) (pos 15)) ∷ MessageEnd
    ∷ MessageStart 17 ∷ FieldValue 23 (Dec (pos 63) (pos 1)) ∷ FieldValue 24 (Dec (pos 0) (pos 5)) ∷ MessageEnd
    ∷ MessageStart 17 ∷ [])
    (faulted R1 13)

-- NULL; the empty text; a text that begins with a zero, which is a fault at the byte behind the zero
abbrev pub OptionalTexts : Type 0
OptionalTexts =
    Stream vectors lenient
    (0xC0 ∷ 0x93 ∷ 0x80
    ∷ 0x80 ∷ 0x00 ∷ 0x80
    ∷ 0x80 ∷ 0x00 ∷ 0xC1 ∷ [])
    (MessageStart 18 ∷ MessageEnd
    ∷ MessageStart 18 ∷ FieldValue 25 (AsciiText []) ∷ MessageEnd
    ∷ MessageStart 18 ∷ [])
    (faulted R9 9)

-- x; a group that is there; a sequence of two elements, each with a map of its own
abbrev pub nested_bytes : List ℕ
nested_bytes =
    0xE0 ∷ 0x8F ∷ 0x85
    ∷ 0x82 ∷ 0x01 ∷ 0xFF
    ∷ 0x83
    ∷ 0xC0 ∷ 0x41 ∷ 0xC2 ∷ 0x00 ∷ 0xE4
    ∷ 0x80 ∷ 0xFE ∷ []

-- the events of these
abbrev pub nested_events : List EventData
nested_events =
    MessageStart 14 ∷ FieldValue 15 (U 5)
    ∷ GroupStart 16 ∷ FieldValue 17 (ByteVector (0x01 ∷ 0xFF ∷ [])) ∷ GroupEnd
    ∷ SequenceStart 18 2
    ∷ ElementStart ∷ FieldValue 19 (AsciiText (codes "AB")) ∷ FieldValue 20 (I (pos 100)) ∷ ElementEnd
    ∷ ElementStart ∷ FieldValue 19 (AsciiText (codes "AB")) ∷ FieldValue 20 (I (pos 98)) ∷ ElementEnd
    ∷ SequenceEnd ∷ MessageEnd ∷ []

-- in both modes
abbrev pub NestedMessage : Type 0
NestedMessage = Stream vectors lenient nested_bytes nested_events between × Stream vectors strict nested_bytes nested_events between
