-- The event that a record of a kind stands for, and where there is none.
use Rattle.std.specs.Prelude.{◌≡◌, ℕ, ℤ, if◌then◌else◌, nat_eq, List, []}
use Rattle.std.specs.Int.{w64, cast_signed}
use Rattle.fast_value.specs.meaning.Kinds.{U, I, Dec, AsciiText, UnicodeText, ByteVector}
use Rattle.fast_stream.specs.meaning.Events.{EventData, MessageStart, FieldValue, GroupStart, GroupEnd, SequenceStart, ElementStart}
use Rattle.fast_stream.specs.meaning.Events.{ElementEnd, SequenceEnd, MessageEnd}
use Rattle.fast_records.specs.declared.records.Record.{Record}
use Rattle.fast_records.specs.meaning.Records.{text_record, record_of, unplaced, event_text}
use Rattle.fast_records.specs.meaning.Lent.{IsHeld}

-- the event of this kind that has the content of a record, and this text
abbrev pub event_of_kind : ℕ → Record → List ℕ → EventData
event_of_kind kind r text =
    if nat_eq kind 1 then MessageStart r.node
    else if nat_eq kind 2 then FieldValue r.node (U r.value)
    else if nat_eq kind 3 then FieldValue r.node (I (cast_signed w64 r.value))
    else if nat_eq kind 4 then FieldValue r.node (Dec r.exponent (cast_signed w64 r.value))
    else if nat_eq kind 5 then FieldValue r.node (AsciiText text)
    else if nat_eq kind 6 then FieldValue r.node (UnicodeText text)
    else if nat_eq kind 7 then FieldValue r.node (ByteVector text)
    else if nat_eq kind 8 then GroupStart r.node
    else if nat_eq kind 9 then GroupEnd
    else if nat_eq kind 10 then SequenceStart r.node r.value
    else if nat_eq kind 11 then ElementStart
    else if nat_eq kind 12 then ElementEnd
    else if nat_eq kind 13 then SequenceEnd
    else MessageEnd

-- the event that a record stands for, with this text
abbrev pub event_back : Record → List ℕ → EventData
event_back r text = event_of_kind r.kind r text

-- the record of an event without a text that has this content
abbrev pub content : ℕ → ℕ → ℕ → ℤ → Record
content kind node value exponent = record { kind = kind; node = node; value = value; length = 0; exponent = exponent }

-- The event is of this record, wherever a text would begin: it has none.
pub record IsMark (r : Record) (e : EventData) : Type 0 where
  pub record_is : (place : ℕ) → unplaced r ≡ record_of place e
  pub text_is : event_text e ≡ []
  pub held : IsHeld e

-- The event is a field of this kind with this text, wherever that begins.
pub record IsTextOf (kind node : ℕ) (text : List ℕ) (e : EventData) : Type 0 where
  pub record_is : (place : ℕ) → text_record kind node place text ≡ record_of place e
  pub text_is : event_text e ≡ text
  pub held : IsHeld e

-- The event is of this record, with this text.
pub record IsOf (r : Record) (text : List ℕ) (e : EventData) : Type 0 where
  pub record_is : unplaced r ≡ record_of r.value e
  pub text_is : event_text e ≡ text
  pub held : IsHeld e

-- No event is.
abbrev pub HasNoEvent : Record → List ℕ → Type 0
HasNoEvent r text = (e : EventData) → ¬ (IsOf r text e)
