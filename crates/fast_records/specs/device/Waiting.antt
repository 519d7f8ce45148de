-- What waits for room.
use Rattle.std.specs.Prelude.{◌≡◌, List, ◌++◌}
use Rattle.fast_stream.specs.meaning.Events.{EventData}
use Rattle.fast_records.specs.declared.waiting.Waiting.{Waiting}
use Rattle.fast_records.specs.declared.room.Room.{Room}
use Rattle.fast_records.specs.meaning.Records.{AreRecordsOf}
use Rattle.fast_records.specs.device.Room.{records_in, texts_in}
use Rattle.fast_records.specs.meaning.Waiting.{pending}

-- what is filled of the buffers stands for these events
abbrev pub Holds : Room → List EventData → Type 0
Holds r es = AreRecordsOf es (records_in r) (texts_in r)

-- The first events that waited went into the buffers, behind what was there.
abbrev pub Moves : Room → Waiting → Room → Waiting → Type 0
Moves r w r' w' = (es : List EventData) → Holds r es → (front : List EventData) × (pending w ≡ front ++ pending w') × Holds r' (es ++ front)
