-- What an encoder writes, as statements: the bytes of a message after those before it, and the dictionary that it leaves.
use Rattle.std.specs.Prelude.{ℕ, ℤ, List, [], ◌∷◌, codes, pos, negsuc}
use Rattle.fast_value.specs.declared.kinds.Kind.TheVariants.{UInt32, Int32, Int64, Ascii}
use Rattle.fast_value.specs.meaning.Kinds.{U, I, Dec, AsciiText, ByteVector}
use Rattle.fast_value.specs.meaning.Messages.{one, group, sequence, Slots, no_slots, absent, present, no_elements, element, MessageData}
use Rattle.fast_dict.specs.meaning.Dictionary.{Dictionary, PreviousData, undefined, empty, assigned}
use Rattle.fast_spelling.specs.declared.faults.EncodeFault.TheVariants.{E3}
use Rattle.fast_spelling.specs.meaning.Encoding.{EncodesMessage}
use Rattle.fast_spelling.specs.meaning.Refusals.{IsRefused}
use Rattle.fast_examples.specs.meaning.Vectors.{vectors, lenient}
use Rattle.fast_examples.specs.meaning.Messages.{nested_bytes}
use Rattle.fast_examples.specs.meaning.Asked.{message, only, none, start, holding, behind}

-- a message of T3 with this text, and the dictionary that it leaves
abbrev pub tail : List ℕ → MessageData
tail text = message 2 (only (AsciiText text))

abbrev pub after_tail : List ℕ → Dictionary
after_tail text = holding 1 (assigned Ascii (AsciiText text)) (behind 3 start)

-- ABCDE whole; a tail XY; nothing sent; and AB, which is shorter than what is kept
abbrev pub TailsEncoded : Type 0
TailsEncoded =
    EncodesMessage vectors lenient
    start (tail (codes "ABCDE"))
    (0xE0 ∷ 0x83 ∷ 0x41 ∷ 0x42 ∷ 0x43 ∷ 0x44 ∷ 0xC5 ∷ []) (after_tail (codes "ABCDE"))
    × EncodesMessage vectors lenient
    (after_tail (codes "ABCDE")) (tail (codes "ABCXY"))
    (0xA0 ∷ 0x58 ∷ 0xD9 ∷ []) (after_tail (codes "ABCXY"))
    × EncodesMessage vectors lenient
    (after_tail (codes "ABCXY")) (tail (codes "ABCXY"))
    (0x80 ∷ []) (after_tail (codes "ABCXY"))
    × IsRefused vectors lenient
    (after_tail (codes "ABCXY")) (tail (codes "AB")) E3

-- what a message of T7 leaves whose y is 5: the previous values of its exponent and of its mantissa, and y's
abbrev pub after_parts : PreviousData → PreviousData → Dictionary
after_parts e m = holding 7 (assigned UInt32 (U 5)) (holding 6 m (holding 5 e (behind 7 start)))

-- no decimal, of which nothing is sent, and 15e-1
abbrev pub DecimalPartsEncoded : Type 0
DecimalPartsEncoded =
    EncodesMessage vectors lenient
    start (message 6 (absent (only (U 5))))
    (0xD0 ∷ 0x87 ∷ 0x85 ∷ []) (after_parts empty undefined)
    × EncodesMessage vectors lenient
    start (message 6 (present (one (Dec (negsuc 0) (pos 15))) (only (U 5))))
    (0xF8 ∷ 0x87 ∷ 0xFF ∷ 0x8F ∷ 0x85 ∷ []) (after_parts (assigned Int32 (I (negsuc 0))) (assigned Int64 (I (pos 15))))

-- what a message of T6 leaves
abbrev pub after_copy : PreviousData → Dictionary
after_copy p = holding 4 p (behind 6 start)

-- 0; a template that resets, twice, the second time by a copied identifier; absence, of which nothing is sent
abbrev pub ResetEncoded : Type 0
ResetEncoded =
    EncodesMessage vectors lenient
    start (message 5 (only (U 0)))
    (0xE0 ∷ 0x86 ∷ 0x81 ∷ []) (after_copy (assigned UInt32 (U 0)))
    × EncodesMessage vectors lenient
    (after_copy (assigned UInt32 (U 0))) (message 8 no_slots)
    (0xC0 ∷ 0x89 ∷ []) (behind 9 start)
    × EncodesMessage vectors lenient
    (behind 9 start) (message 8 no_slots)
    (0x80 ∷ []) (behind 9 start)
    × EncodesMessage vectors lenient
    (behind 9 start) (message 5 none)
    (0xC0 ∷ 0x86 ∷ []) (after_copy empty)

-- what a message of T16 leaves
abbrev pub after_delta : ℤ → Dictionary
after_delta x = holding 11 (assigned Int32 (I x)) (behind 16 start)

-- 5; NULL, which leaves the entry as it is; one more than 5
abbrev pub OptionalDeltaEncoded : Type 0
OptionalDeltaEncoded =
    EncodesMessage vectors lenient
    start (message 15 (only (I (pos 5))))
    (0xC0 ∷ 0x90 ∷ 0x86 ∷ []) (after_delta (pos 5))
    × EncodesMessage vectors lenient
    (after_delta (pos 5)) (message 15 none)
    (0x80 ∷ 0x80 ∷ []) (after_delta (pos 5))
    × EncodesMessage vectors lenient
    (after_delta (pos 5)) (message 15 (only (I (pos 6))))
    (0x80 ∷ 0x82 ∷ []) (after_delta (pos 6))

-- a symbol, AB, and a price
abbrev pub leg : ℤ → Slots
leg px = present (one (AsciiText (codes "AB"))) (only (I px))

-- x; a group that is there; a sequence of two legs
abbrev pub nested : MessageData
nested = message 14
    (present (one (U 5))
    (present (group (only (ByteVector (0x01 ∷ 0xFF ∷ []))))
    (present (sequence (element (leg (pos 100)) (element (leg (pos 98)) no_elements))) no_slots)))

-- what it leaves: the last symbol, and the last price
abbrev pub after_nested : Dictionary
after_nested = holding 10 (assigned Int32 (I (pos 98))) (holding 9 (assigned Ascii (AsciiText (codes "AB"))) (behind 15 start))

-- the bytes are those of which the nested message's events are read
abbrev pub NestedEncoded : Type 0
NestedEncoded = EncodesMessage vectors lenient start nested nested_bytes after_nested
