-- Which records stand for events, and which bytes for their texts.
use Rattle.std.specs.Prelude.{◌≡◌, ℕ, ◌+◌, min, if◌then◌else◌, nat_eq, List, [], ◌∷◌, length, map, flat_map, pos}
use Rattle.std.specs.Int.{w64, cast_unsigned}
use Rattle.fast_value.specs.meaning.Kinds.{ScalarData, U, I, Dec, AsciiText, UnicodeText, ByteVector, text_of}
use Rattle.fast_stream.specs.meaning.Events.{EventData, MessageStart, FieldValue, GroupStart, GroupEnd, SequenceStart, ElementStart}
use Rattle.fast_stream.specs.meaning.Events.{ElementEnd, SequenceEnd, MessageEnd}
use Rattle.fast_records.specs.declared.records.Record.{Record}

-- the record of what is no text
abbrev pub mark : ℕ → ℕ → ℕ → Record
mark kind node value = record { kind = kind; node = node; value = value; length = 0; exponent = pos 0 }

-- the record of a text that begins at this place
abbrev pub text_record : ℕ → ℕ → ℕ → List ℕ → Record
text_record kind node place v = record { kind = kind; node = node; value = place; length = min (length v) 4294967295; exponent = pos 0 }

-- The record of a field. Signed numbers are in two's complement.
abbrev pub field_record : ℕ → ℕ → ScalarData → Record
field_record place node (U n) = mark 2 node n
field_record place node (I x) = mark 3 node (cast_unsigned w64 x)
field_record place node (Dec e m) = record { kind = 4; node = node; value = cast_unsigned w64 m; length = 0; exponent = e }
field_record place node (AsciiText v) = text_record 5 node place v
field_record place node (UnicodeText v) = text_record 6 node place v
field_record place node (ByteVector v) = text_record 7 node place v

-- The record of an event. Its text begins at this place, if it has one.
abbrev pub record_of : ℕ → EventData → Record
record_of place (MessageStart template) = mark 1 template 0
record_of place (FieldValue node v) = field_record place node v
record_of place (GroupStart node) = mark 8 node 0
record_of place GroupEnd = mark 9 0 0
record_of place (SequenceStart node count) = mark 10 node count
record_of place ElementStart = mark 11 0 0
record_of place ElementEnd = mark 12 0 0
record_of place SequenceEnd = mark 13 0 0
record_of place MessageEnd = mark 14 0 0

-- the text of an event, empty if it has none
abbrev pub event_text : EventData → List ℕ
event_text (FieldValue node v) = text_of v
event_text e = []

-- the texts of events, one behind the other
abbrev pub texts_of : List EventData → List ℕ
texts_of es = flat_map event_text es

-- the records of events, whose texts stand one behind the other from this place on
abbrev pub records_of : ℕ → List EventData → List Record
records_of place [] = []
records_of place (e ∷ es) = record_of place e ∷ records_of (place + length (event_text e)) es

-- the record with this value, if it is of the end of a message
abbrev pub ending_at : ℕ → Record → Record
ending_at n r = if nat_eq r.kind 14 then record { kind = r.kind; node = r.node; value = n; length = r.length; exponent = r.exponent } else r

-- the record without the offset at which its message ends, which is no part of the event
abbrev pub unplaced : Record → Record
unplaced r = ending_at 0 r

-- These records and texts are those of the events, whatever the offsets at which messages end.
pub record AreRecordsOf (es : List EventData) (records : List Record) (texts : List ℕ) : Type 0 where
  pub records_are : map unplaced records ≡ records_of 0 es
  pub texts_are : texts ≡ texts_of es
