-- A stream as it is read: messages without end, each by a reader from the dictionary after the one before.
use Rattle.std.specs.Prelude.{ℕ, suc, List, [], ◌∷◌, ◌++◌}
use Rattle.fast_value.specs.declared.settings.Limits.{Limits}
use Rattle.fast_value.specs.meaning.Limits.{bounds}
use Rattle.fast_value.specs.declared.codes.Code.{Code}
use Rattle.fast_tree.specs.meaning.Tree.{Tree}
use Rattle.fast_dict.specs.meaning.Dictionary.{Dictionary, fresh}
use Rattle.fast_stream.specs.meaning.Events.{EventData}
use Rattle.fast_stream.specs.device.Readers.{Reader, Done, Emit, Stop, Byte}
use Rattle.fast_stream.specs.meaning.Streams.{End, between, inside, faulted}
use Rattle.fast_stream.specs.device.GrammarReaders.{reader_of}
use Rattle.fast_stream.specs.device.Continuations.{message_then}

-- A position in a stream: between two messages, with the dictionary; inside one, with the reader that waits for a byte; or at a fault, with
-- the number of bytes that decided it.
pub data Position (D : Type 0) : Type 0 where
  at_start : D → Position D
  amid : (ℕ → Reader D) → Position D
  at_fault : Code → ℕ → Position D

-- After n bytes a reader goes on until it waits, ends or stops. These are the events on the way.
abbrev pub settle : {D : Type 0} → ℕ → Reader D → List EventData × Position D
settle n (Done d) = ([], at_start d)
settle n (Emit e r) = (e ∷ (settle n r).0, (settle n r).1)
settle n (Stop c) = ([], at_fault c n)
settle n (Byte f) = ([], amid f)

-- One byte more, after n.
abbrev pub step : {D : Type 0} → (D → ℕ → Reader D) → ℕ → Position D → ℕ → List EventData × Position D
step first n (at_start d) b = settle (suc n) (first d b)
step first n (amid f) b = settle (suc n) (f b)
step first n (at_fault c m) b = ([], at_fault c m)

-- All bytes of a list, after n.
abbrev pub run : {D : Type 0} → (D → ℕ → Reader D) → ℕ → Position D → List ℕ → List EventData × Position D
run first n s [] = ([], s)
run first n s (b ∷ w) = ((step first n s b).0 ++ (run first (suc n) (step first n s b).1 w).0, (run first (suc n) (step first n s b).1 w).1)

-- the end of a stream at this position
abbrev pub end_of : {D : Type 0} → Position D → End
end_of (at_start d) = between
end_of (amid f) = inside
end_of (at_fault c n) = faulted c n

-- the reader after a byte for which it waits
abbrev pub after_byte : {A : Type 0} → Reader A → ℕ → Reader A
after_byte (Done a) b = Done a
after_byte (Emit e r) b = Emit e r
after_byte (Stop c) b = Stop c
after_byte (Byte f) b = f b

-- the first byte of a message
unfoldable pub message_begun : Tree → Limits → Dictionary → ℕ → Reader Dictionary
message_begun t l d b = after_byte (reader_of l.strict (message_then t (bounds l) d)) b

-- the events of a stream's bytes, and the position after them
abbrev pub reading : Tree → Limits → List ℕ → List EventData × Position Dictionary
reading t l w = run (message_begun t l) 0 (at_start (fresh t.entries)) w
