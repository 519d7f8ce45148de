-- Limits, as statements: what streams may claim, and what a template set can cost.
use Rattle.std.specs.Prelude.{◌≡◌, [], ◌∷◌, ◌++◌, codes, replicate}
use Rattle.fast_value.specs.meaning.Kinds.{U, AsciiText}
use Rattle.fast_value.specs.declared.codes.Code.TheVariants.{D5, L1, L2, L3, L5}
use Rattle.fast_tree.specs.meaning.Sizes.{message_cap, turn_cap, stored_cap, set_depth}
use Rattle.fast_stream.specs.meaning.Events.{MessageStart, FieldValue, SequenceStart, SequenceEnd, ElementStart, ElementEnd, MessageEnd}
use Rattle.fast_stream.specs.meaning.Streams.{Stream, between, faulted}
use Rattle.fast_examples.specs.meaning.Vectors.{vectors, only_t2, nested_sequences, lenient, short_texts, five_elements, widest_counts}

-- a length of 4294967295; one of 1000 where 999 are the limit of a sequence, and of a message too
abbrev pub ElementLimit : Type 0
ElementLimit =
    Stream vectors lenient (0xC0 ∷ 0x82 ∷ 0x0F ∷ 0x7F ∷ 0x7F ∷ 0x7F ∷ 0xFF ∷ []) (MessageStart 1 ∷ []) (faulted L2 7)
    × Stream vectors (record lenient { max_elements = 999; max_total = 999 }) (0xC0 ∷ 0x82 ∷ 0x07 ∷ 0xE8 ∷ []) (MessageStart 1 ∷ []) (faulted L2 4)

-- two elements with one in each
abbrev pub FourElements : Type 0
FourElements =
    Stream nested_sequences five_elements
    (0xC0 ∷ 0x81 ∷ 0x82 ∷ 0x81 ∷ 0x81 ∷ [])
    (MessageStart 0 ∷ SequenceStart 0 2
    ∷ ElementStart ∷ SequenceStart 1 1 ∷ ElementStart ∷ FieldValue 2 (U 7) ∷ ElementEnd ∷ SequenceEnd ∷ ElementEnd
    ∷ ElementStart ∷ SequenceStart 1 1 ∷ ElementStart ∷ FieldValue 2 (U 7) ∷ ElementEnd ∷ SequenceEnd ∷ ElementEnd
    ∷ SequenceEnd ∷ MessageEnd ∷ [])
    between

-- two elements with two in the first, and a length of two in the second
abbrev pub SixElements : Type 0
SixElements =
    Stream nested_sequences five_elements
    (0xC0 ∷ 0x81 ∷ 0x82 ∷ 0x82 ∷ 0x82 ∷ [])
    (MessageStart 0 ∷ SequenceStart 0 2
    ∷ ElementStart ∷ SequenceStart 1 2
    ∷ ElementStart ∷ FieldValue 2 (U 7) ∷ ElementEnd
    ∷ ElementStart ∷ FieldValue 2 (U 7) ∷ ElementEnd
    ∷ SequenceEnd ∷ ElementEnd
    ∷ ElementStart ∷ [])
    (faulted L5 5)

-- four elements of five, and six of five; a length of 1000 where 999 are the limit of a message alone
abbrev pub TotalLimit : Type 0
TotalLimit =
    FourElements
    × SixElements
    × Stream vectors (record lenient { max_total = 999 }) (0xC0 ∷ 0x82 ∷ 0x07 ∷ 0xE8 ∷ []) (MessageStart 1 ∷ []) (faulted L5 4)

-- sizes of 17 and of 4294967295; 16 characters, and 17
abbrev pub TextLimit : Type 0
TextLimit =
    Stream vectors short_texts (0xC0 ∷ 0x88 ∷ 0x91 ∷ []) (MessageStart 7 ∷ []) (faulted L1 3)
    × Stream vectors lenient (0xC0 ∷ 0x88 ∷ 0x0F ∷ 0x7F ∷ 0x7F ∷ 0x7F ∷ 0xFF ∷ []) (MessageStart 7 ∷ []) (faulted L1 7)
    × Stream vectors short_texts (0xC0 ∷ 0x93 ∷ replicate 15 0x41 ++ 0xC1 ∷ [])
    (MessageStart 18 ∷ FieldValue 25 (AsciiText (codes "AAAAAAAAAAAAAAAA")) ∷ MessageEnd ∷ []) between
    × Stream vectors short_texts (0xC0 ∷ 0x93 ∷ replicate 17 0x41) (MessageStart 18 ∷ []) (faulted L1 19)

-- 146 bytes, of which the last has a stop: no bit is set, and so an identifier is to be copied; and 146 without a stop
abbrev pub MapLimit : Type 0
MapLimit =
    Stream vectors lenient (replicate 145 0x00 ++ 0x80 ∷ []) [] (faulted D5 146)
    × Stream vectors lenient (replicate 146 0x00) [] (faulted L3 146)

-- The depth of the built-in set, the most events of a message, and the most that a decoder stores; the most events and
-- turns where the limit on a message says no more than that on a sequence, and where it alone says something; the most
-- events where counts are not limited, and where no element is allowed.
abbrev pub Sizes : Type 0
Sizes =
    (set_depth vectors ≡ 1) × (message_cap vectors lenient ≡ 4008) × (stored_cap vectors lenient ≡ 15667)
    × (message_cap only_t2 lenient ≡ 3004) × (turn_cap only_t2 lenient ≡ 4007)
    × (message_cap nested_sequences five_elements ≡ 24) × (turn_cap nested_sequences five_elements ≡ 32)
    × (message_cap nested_sequences widest_counts ≡ 17179869184) × (message_cap only_t2 widest_counts ≡ 12884901889)
    × (message_cap vectors (record lenient { max_total = 0 }) ≡ 8)
