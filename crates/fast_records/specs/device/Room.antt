-- What is filled of a caller's buffers.
use Rattle.std.specs.Prelude.{◌≡◌, ◌≢◌, ◌⊎◌, ℕ, ◌-◌, ◌<◌, ◌≤◌, List, [], ◌∷◌, ◌++◌, length, take}
use Rattle.std.specs.Borrow.{MutBor}
use Rattle.fast_stream.specs.meaning.Events.{EventData}
use Rattle.fast_records.specs.declared.records.Record.{Record}
use Rattle.fast_records.specs.declared.room.Room.{Room}
use Rattle.fast_records.specs.meaning.Feeding.{HasNoRoom}

-- the records that are filled
abbrev pub records_in : Room → List Record
records_in r = take r.filled r.records.now

-- the bytes of texts that are filled
abbrev pub texts_in : Room → List ℕ
texts_in r = take r.used r.texts.now

-- all records may be filled
abbrev pub IsOpen : Room → Type 0
IsOpen r = r.limit ≡ length r.records.now

-- the room is over these buffers, all of which it may fill
pub record IsOver (records : MutBor (List Record)) (texts : MutBor (List ℕ)) (r : Room) : Type 0 where
  pub same_records : r.records.ghost_name ≡ records.ghost_name
  pub same_texts : r.texts.ghost_name ≡ texts.ghost_name
  pub all : IsOpen r

-- a record with this text has no room
abbrev pub LacksRoom : List ℕ → Room → Type 0
LacksRoom text r = (r.limit ≤ r.filled) ⊎ (length r.texts.now - r.used < length text)

-- Where events wait, the first has no room behind what is filled.
abbrev pub IsFull : Room → List EventData → Type 0
IsFull r es = es ≢ [] → HasNoRoom (length r.records.now - r.filled) (length r.texts.now - r.used) es

-- both are over the same buffers
pub record SameBuffers (old new : Room) : Type 0 where
  pub same_records : new.records.ghost_name ≡ old.records.ghost_name
  pub same_texts : new.texts.ghost_name ≡ old.texts.ghost_name

-- a record with its text was added
pub record Adds (next : Record) (text : List ℕ) (old new : Room) : Type 0 where
  pub had_room : old.filled < old.limit
  pub grows : old.filled ≤ new.filled
  pub limit : new.limit ≡ old.limit
  pub long : length new.records.now ≡ length old.records.now
  pub records : records_in new ≡ records_in old ++ next ∷ []
  pub texts : texts_in new ≡ texts_in old ++ text

-- nothing was added
pub record IsAsFilled (old new : Room) : Type 0 where
  pub records : records_in new ≡ records_in old
  pub texts : texts_in new ≡ texts_in old
  pub filled : new.filled ≡ old.filled
  pub used : new.used ≡ old.used
  pub long : length new.records.now ≡ length old.records.now
  pub wide : length new.texts.now ≡ length old.texts.now

-- nothing was added, and there is as much room as before
pub record IsUnchanged (old new : Room) : Type 0 where
  pub as_filled : IsAsFilled old new
  pub limit : new.limit ≡ old.limit
