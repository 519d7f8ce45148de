-- The events that a recorder keeps.
use Rattle.std.specs.Prelude.{List, map}
use Rattle.fast_value.specs.meaning.Values.{value_data}
use Rattle.fast_stream.specs.meaning.Events.{EventData, MessageStart, FieldValue, GroupStart, GroupEnd, SequenceStart, ElementStart}
use Rattle.fast_stream.specs.meaning.Events.{ElementEnd, SequenceEnd, MessageEnd}
use Rattle.fast_decoder.specs.declared.recorder.Recorded.{Recorded}
use Rattle.fast_decoder.specs.declared.recorder.Recorded.TheVariants as Kept
use Rattle.fast_decoder.specs.declared.recorder.Recorder.{Recorder}

-- the data of a kept event
abbrev pub recorded_data : Recorded → EventData
recorded_data (Kept.MessageStart template) = MessageStart template
recorded_data (Kept.Field node value) = FieldValue node (value_data value)
recorded_data (Kept.GroupStart node) = GroupStart node
recorded_data Kept.GroupEnd = GroupEnd
recorded_data (Kept.SequenceStart node count) = SequenceStart node count
recorded_data Kept.ElementStart = ElementStart
recorded_data Kept.ElementEnd = ElementEnd
recorded_data Kept.SequenceEnd = SequenceEnd
recorded_data Kept.MessageEnd = MessageEnd

-- the events that a recorder has kept
abbrev pub recorded : Recorder → List EventData
recorded r = map recorded_data r.events.items
