-- What waits for room.
use Rattle.std.specs.Prelude.{List, map}
use Rattle.fast_stream.specs.meaning.Events.{EventData}
use Rattle.fast_decoder.specs.meaning.Recorded.{recorded_data}
use Rattle.fast_records.specs.declared.waiting.Kept.{Kept}
use Rattle.fast_records.specs.declared.waiting.Waiting.{Waiting}

abbrev pub kept_data : Kept → EventData
kept_data k = recorded_data k.event

-- the events that wait
abbrev pub pending : Waiting → List EventData
pending w = map kept_data w.events.items
