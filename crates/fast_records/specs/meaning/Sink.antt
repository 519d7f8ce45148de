-- What a sink of records has taken.
use Rattle.std.specs.Prelude.{◌≡◌, ◌<◌, ◌≤◌, List, [], ◌∷◌, ◌++◌, length}
use Rattle.fast_stream.specs.meaning.Events.{EventData}
use Rattle.fast_records.specs.declared.room.Room.{Room}
use Rattle.fast_records.specs.declared.sink.RecordSink.{RecordSink}
use Rattle.fast_records.specs.device.Room.{IsOpen, IsFull}
use Rattle.fast_records.specs.device.Waiting.{Holds}
use Rattle.fast_records.specs.meaning.Waiting.{pending}

-- the buffers of a sink, and how much of them is filled
abbrev pub room_of : RecordSink → Room
room_of s = record {
  records = s.records;
  texts = s.texts;
  filled = s.filled;
  limit = s.limit;
  used = s.used;
  filled_within = s.filled_within;
  limit_within = s.limit_within;
  used_within = s.used_within;
}

-- These are the events whose records are in the buffers, and then those that wait. One waits only where it had no room, and no later one
-- overtakes it.
pub record Shows (s : RecordSink) (es : List EventData) : Type 0 where
  pub given : List EventData
  pub filled : Holds (room_of s) given
  pub all : es ≡ given ++ pending s.waiting.now
  pub in_order : s.filled < s.limit → pending s.waiting.now ≡ []
  pub unclosed : pending s.waiting.now ≡ [] → IsOpen (room_of s)
  pub full : IsFull (room_of s) (pending s.waiting.now)

-- both are over the same buffers and the same list of what waits
pub record IsSameSink (old new : RecordSink) : Type 0 where
  pub records : new.records.ghost_name ≡ old.records.ghost_name
  pub texts : new.texts.ghost_name ≡ old.texts.ghost_name
  pub waiting : new.waiting.ghost_name ≡ old.waiting.ghost_name
  pub long : length new.records.now ≡ length old.records.now

-- an event was taken
pub record TakesRecord (old : RecordSink) (e : EventData) (new : RecordSink) : Type 0 where
  pub same : IsSameSink old new
  pub grows : old.filled ≤ new.filled
  pub shows : (es : List EventData) → Shows old es → Shows new (es ++ e ∷ [])

-- an event was refused
pub record RefusesRecord (old : RecordSink) (e : EventData) (new : RecordSink) : Type 0 where
  pub same : IsSameSink old new
  pub grows : old.filled ≤ new.filled
  pub shows : (es : List EventData) → Shows old es → Shows new es
