-- Field operators, as statements: the later messages of each stream rest on what the earlier ones have left.
use Rattle.std.specs.Prelude.{[], ◌∷◌, codes, pos}
use Rattle.fast_value.specs.meaning.Kinds.{U, I, AsciiText, UnicodeText}
use Rattle.fast_value.specs.declared.codes.Code.TheVariants.{D7, R2}
use Rattle.fast_stream.specs.meaning.Events.{MessageStart, FieldValue, MessageEnd}
use Rattle.fast_stream.specs.meaning.Streams.{Stream, between, faulted}
use Rattle.fast_examples.specs.meaning.Vectors.{vectors, lenient}

-- ABCDE; a tail XY; nothing sent
abbrev pub TextTails : Type 0
TextTails =
    Stream vectors lenient
    (0xE0 ∷ 0x83 ∷ 0x41 ∷ 0x42 ∷ 0x43 ∷ 0x44 ∷ 0xC5
    ∷ 0xA0 ∷ 0x58 ∷ 0xD9
    ∷ 0x80 ∷ [])
    (MessageStart 2 ∷ FieldValue 3 (AsciiText (codes "ABCDE")) ∷ MessageEnd
    ∷ MessageStart 2 ∷ FieldValue 3 (AsciiText (codes "ABCXY")) ∷ MessageEnd
    ∷ MessageStart 2 ∷ FieldValue 3 (AsciiText (codes "ABCXY")) ∷ MessageEnd ∷ [])
    between

-- GEH6 behind nothing; M6 in place of two characters; ZZ in front; and seven taken from six
abbrev pub TextDeltas : Type 0
TextDeltas =
    Stream vectors lenient
    (0xC0 ∷ 0x84 ∷ 0x80 ∷ 0x47 ∷ 0x45 ∷ 0x48 ∷ 0xB6
    ∷ 0x80 ∷ 0x82 ∷ 0x4D ∷ 0xB6
    ∷ 0x80 ∷ 0xFF ∷ 0x5A ∷ 0xDA
    ∷ 0x80 ∷ 0x87 ∷ [])
    (MessageStart 3 ∷ FieldValue 4 (AsciiText (codes "GEH6")) ∷ MessageEnd
    ∷ MessageStart 3 ∷ FieldValue 4 (AsciiText (codes "GEM6")) ∷ MessageEnd
    ∷ MessageStart 3 ∷ FieldValue 4 (AsciiText (codes "ZZGEM6")) ∷ MessageEnd
    ∷ MessageStart 3 ∷ [])
    (faulted D7 17)

-- the size and the bytes of an e with an acute accent; without its last byte this is no UTF-8
abbrev pub UnicodeDeltas : Type 0
UnicodeDeltas =
    Stream vectors lenient
    (0xC0 ∷ 0x91 ∷ 0x80 ∷ 0x82 ∷ 0xC3 ∷ 0xA9
    ∷ 0x80 ∷ 0x81 ∷ 0x80 ∷ [])
    (MessageStart 16 ∷ FieldValue 22 (UnicodeText (0xC3 ∷ 0xA9 ∷ [])) ∷ MessageEnd
    ∷ MessageStart 16 ∷ [])
    (faulted R2 9)

-- 5; NULL; one more than 5
abbrev pub OptionalDelta : Type 0
OptionalDelta =
    Stream vectors lenient
    (0xC0 ∷ 0x90 ∷ 0x86
    ∷ 0x80 ∷ 0x80
    ∷ 0x80 ∷ 0x82 ∷ [])
    (MessageStart 15 ∷ FieldValue 21 (I (pos 5)) ∷ MessageEnd
    ∷ MessageStart 15 ∷ MessageEnd
    ∷ MessageStart 15 ∷ FieldValue 21 (I (pos 6)) ∷ MessageEnd ∷ [])
    between

-- the greatest uInt32, and nothing sent twice
abbrev pub Increments : Type 0
Increments =
    Stream vectors lenient
    (0xE0 ∷ 0x85 ∷ 0x0F ∷ 0x7F ∷ 0x7F ∷ 0x7F ∷ 0xFF
    ∷ 0x80
    ∷ 0x80 ∷ [])
    (MessageStart 4 ∷ FieldValue 5 (U 4294967295) ∷ MessageEnd
    ∷ MessageStart 4 ∷ FieldValue 5 (U 0) ∷ MessageEnd
    ∷ MessageStart 4 ∷ FieldValue 5 (U 1) ∷ MessageEnd ∷ [])
    between

-- zero; NULL; nothing sent
abbrev pub OptionalCopy : Type 0
OptionalCopy =
    Stream vectors lenient
    (0xE0 ∷ 0x86 ∷ 0x81
    ∷ 0xA0 ∷ 0x80
    ∷ 0x80 ∷ [])
    (MessageStart 5 ∷ FieldValue 6 (U 0) ∷ MessageEnd
    ∷ MessageStart 5 ∷ MessageEnd
    ∷ MessageStart 5 ∷ MessageEnd ∷ [])
    between

-- The map has three bits: identifier, exponent, and the field behind the decimal.
abbrev pub AbsentDecimalTakesNoMantissaBit : Type 0
AbsentDecimalTakesNoMantissaBit =
    Stream vectors lenient
    (0xF0 ∷ 0x87 ∷ 0x80 ∷ 0x85 ∷ [])
    (MessageStart 6 ∷ FieldValue 8 (U 5) ∷ MessageEnd ∷ [])
    between

-- zero; a template that resets, twice, with its identifier copied; nothing sent
abbrev pub ResetForgets : Type 0
ResetForgets =
    Stream vectors lenient
    (0xE0 ∷ 0x86 ∷ 0x81
    ∷ 0xC0 ∷ 0x89
    ∷ 0x80
    ∷ 0xC0 ∷ 0x86 ∷ [])
    (MessageStart 5 ∷ FieldValue 6 (U 0) ∷ MessageEnd
    ∷ MessageStart 8 ∷ MessageEnd
    ∷ MessageStart 8 ∷ MessageEnd
    ∷ MessageStart 5 ∷ MessageEnd ∷ [])
    between
