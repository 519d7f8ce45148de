-- Messages that an encoder refuses, as statements.
use Rattle.std.specs.Prelude.{pos, replicate}
use Rattle.fast_value.specs.meaning.Kinds.{U, I, AsciiText}
use Rattle.fast_value.specs.meaning.Messages.{one, sequence, no_slots, present, no_elements, element, MessageData}
use Rattle.fast_spelling.specs.declared.faults.EncodeFault.TheVariants.{E1, E2, E4}
use Rattle.fast_spelling.specs.meaning.Refusals.{IsRefused}
use Rattle.fast_examples.specs.meaning.Vectors.{vectors, lenient, short_texts}
use Rattle.fast_examples.specs.meaning.Asked.{message, only, none, start}

-- the templates have the numbers 0 to 18
abbrev pub UnknownTemplate : Type 0
UnknownTemplate = IsRefused vectors lenient start (message 19 (only (U 1))) E1

-- a mandatory field that is absent; 2^32 in a uInt32; a signed integer in one; a slot too many
abbrev pub UnsuitedMessages : Type 0
UnsuitedMessages =
    IsRefused vectors lenient start (message 0 none) E2
    × IsRefused vectors lenient start (message 0 (only (U 4294967296))) E2
    × IsRefused vectors lenient start (message 0 (only (I (pos 1)))) E2
    × IsRefused vectors lenient start (message 0 (present (one (U 1)) (only (U 1)))) E2

-- two elements of T2's sequence
abbrev pub two_elements : MessageData
two_elements = message 1 (present (sequence (element (only (U 7)) (element (only (U 7)) no_elements))) no_slots)

-- 17 characters of 16; two elements of one in a sequence, and of one in a message
abbrev pub MessagesOverLimits : Type 0
MessagesOverLimits =
    IsRefused vectors short_texts start (message 18 (only (AsciiText (replicate 17 0x41)))) E4
    × IsRefused vectors (record lenient { max_elements = 1 }) start two_elements E4
    × IsRefused vectors (record lenient { max_total = 1 }) start two_elements E4
