-- Statements about all string fields of a node's code, read from the piece completely, or not sent.
use Rattle.std.specs.Prelude.{◌≡◌, ℕ, ◌⊎◌, ◌%◌, ◌≤◌, Bool, true, false, List, [], ◌∷◌, ◌++◌, length, map, take, Option, Some, None, Ok}
use Rattle.fast_value.specs.declared.kinds.Kind.{Kind}
use Rattle.fast_value.specs.declared.kinds.Kind.TheVariants.{Ascii}
use Rattle.fast_value.specs.meaning.Limits.{Bounds}
use Rattle.fast_tree.specs.declared.operators.Operator.{Operator}
use Rattle.fast_tree.specs.declared.operators.Operator.TheVariants as Op
use Rattle.fast_tree.specs.meaning.Tree.{FieldData}
use Rattle.fast_tree.specs.meaning.Entries.{keeps_value}
use Rattle.fast_dict.specs.declared.slots.Slots.{Slots}
use Rattle.fast_dict.specs.meaning.Dictionary.{PreviousData, undefined, empty, assigned, previous_at}
use Rattle.fast_dict.specs.meaning.Operators.{decide, nothing}
use Rattle.fast_dict.specs.meaning.Slots.{slots_dictionary, slots_terms, HoldsAscii}
use Rattle.fast_stream.specs.meaning.Fields.{sent_text}
use Rattle.fast_units.specs.device.Deciding.{IsDecided}
use Rattle.fast_items.specs.device.FieldsAs.{IsFieldAs, GivesWhole, reader_in}
use Rattle.fast_units.specs.device.NextUnits.{IsNextText}
use Rattle.fast_units.specs.device.Settling.{Serves}
use Rattle.fast_units.specs.device.TextDecisions.{IsTextDecided}
use Rattle.fast_items.specs.declared.taken.TakenText.{TakenText}
use Rattle.fast_units.specs.declared.progress.Progress.TheVariants.{Whole}
use Rattle.fast_units.specs.declared.source.ValueSource.{ValueSource}
use Rattle.fast_units.specs.declared.source.ValueSource.TheVariants as From

-- the bytes without their stop bits
abbrev pub without_stops : List ℕ → List ℕ
without_stops w = map (λ b. b % 128) w

-- a string and the character after it, if there is one
abbrev pub with_last : List ℕ → Option ℕ → List ℕ
with_last front None = front
with_last front (Some c) = front ++ c ∷ []

-- Under these operators a string, or a tail, is all that is sent.
abbrev pub SendsText : Operator → Type 0
SendsText Op.None = Unit {0}
SendsText Op.Default = Unit {0}
SendsText Op.Copy = Unit {0}
SendsText Op.Tail = Unit {0}
SendsText operator = ⊥

-- A string is in the scratch, or at the entry if the operator keeps it there, or it is absent.
abbrev pub IsTextSource : Operator → ValueSource → Type 0
IsTextSource operator From.Absent = Unit {0}
IsTextSource operator From.Scratch = Unit {0}
IsTextSource operator From.Entry = keeps_value operator ≡ true
IsTextSource operator source = ⊥

-- An ASCII string is in the scratch, or the entry holds it, or there is none.
abbrev pub IsAsciiAt : Slots → ℕ → ValueSource → Type 0
IsAsciiAt slots entry From.Absent = Unit {0}
IsAsciiAt slots entry From.Scratch = Unit {0}
IsAsciiAt slots entry From.Entry = HoldsAscii slots entry
IsAsciiAt slots entry source = ⊥

-- No value is held: nothing has been stored yet, or the field was absent.
abbrev pub HoldsNothing : PreviousData → Type 0
HoldsNothing undefined = Unit {0}
HoldsNothing empty = Unit {0}
HoldsNothing (assigned kind v) = ⊥

-- the source of a string that was sent under the operator
abbrev pub text_source : Operator → ValueSource
text_source Op.None = From.Scratch
text_source Op.Default = From.Scratch
text_source operator = From.Entry

-- the result for a string of this number of bytes
abbrev pub text_taken : Operator → ℕ → TakenText
text_taken operator n = record { source = text_source operator; from = 0; bytes = n }

-- Each such field that is in the stream is this string, or absent, complete in these bytes.
abbrev pub IsSentText : Kind → Bool → Operator → ℕ → ℕ → List ℕ → Slots → Slots → List ℕ → TakenText → Type 0
IsSentText kind optional operator entry room rest old new scratch r = (f : FieldData) (strict : Bool) (l : Bounds) → l.max_text ≡ room
    → IsFieldAs f kind optional operator entry → Serves (length (slots_dictionary old)) (slots_terms old) f
    → GivesWhole (reader_in old strict l f) f rest (slots_dictionary old) (slots_dictionary new) scratch r.source r.from r.bytes

-- Each such field under tail that has no initial value and is in the stream is this string, or absent, complete in these bytes.
abbrev pub IsFirstTail : Kind → Bool → ℕ → ℕ → List ℕ → Slots → Slots → List ℕ → TakenText → Type 0
IsFirstTail kind optional entry room rest old new scratch r = (f : FieldData) (strict : Bool) (l : Bounds) → f.initial ≡ None → l.max_text ≡ room
    → IsFieldAs f kind optional Op.Tail entry → Serves (length (slots_dictionary old)) (slots_terms old) f
    → GivesWhole (reader_in old strict l f) f rest (slots_dictionary old) (slots_dictionary new) scratch r.source r.from r.bytes

-- Each such field that is not in the stream though it has a bit has its value at this source, under copy and tail.
abbrev pub IsUnsentText : Kind → Bool → ℕ → Slots → ValueSource → Type 0
IsUnsentText kind optional entry slots source = (f : FieldData) (operator : Operator) → (operator ≡ Op.Copy) ⊎ (operator ≡ Op.Tail)
    → IsFieldAs f kind optional operator entry
    → IsDecided (decide f (previous_at f.entry (slots_dictionary slots)) false nothing) f (slots_dictionary slots) (slots_dictionary slots) (Ok source)

-- For each such field, this string, or NULL, is decided if it was sent.
abbrev pub IsPutText : Operator → ℕ → Option (List ℕ) → Slots → Slots → List ℕ → ValueSource → Type 0
IsPutText operator entry text old new scratch source = SendsText operator × IsTextSource operator source × IsAsciiAt new entry source
    × ((f : FieldData) (optional : Bool) (piece : List ℕ) → IsFieldAs f Ascii optional operator entry
    → Serves (length (slots_dictionary old)) (slots_terms old) f
    → IsTextDecided (decide f (previous_at f.entry (slots_dictionary old)) true (sent_text f.kind text)) f (slots_dictionary old)
    (slots_dictionary new) scratch piece (Ok source))

-- The bytes begin with a string of this number of characters, no more than a block of 16 has.
abbrev pub IsShortText : List ℕ → ℕ → Type 0
IsShortText rest n = (n ≤ 16) × (16 ≤ length rest) × ((nullable : Bool) (room : ℕ) → 16 ≤ room
    → IsNextText nullable room rest (take n (without_stops (take 16 rest))) (Whole true n))
