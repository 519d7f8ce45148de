-- The data of the events of the Rust types.
use Rattle.fast_value.specs.meaning.Values.{scalar_data}
use Rattle.fast_stream.specs.meaning.Events.{EventData, MessageStart, FieldValue, GroupStart, GroupEnd, SequenceStart, ElementStart}
use Rattle.fast_stream.specs.meaning.Events.{ElementEnd, SequenceEnd, MessageEnd}
use Rattle.fast_stream.specs.declared.events.Event.{Event}
use Rattle.fast_stream.specs.declared.events.Event.TheVariants as Lent

-- the data of an event
abbrev pub event_data : Event → EventData
event_data (Lent.MessageStart template) = MessageStart template
event_data (Lent.Field node value) = FieldValue node (scalar_data value)
event_data (Lent.GroupStart node) = GroupStart node
event_data Lent.GroupEnd = GroupEnd
event_data (Lent.SequenceStart node count) = SequenceStart node count
event_data Lent.ElementStart = ElementStart
event_data Lent.ElementEnd = ElementEnd
event_data Lent.SequenceEnd = SequenceEnd
event_data Lent.MessageEnd = MessageEnd
