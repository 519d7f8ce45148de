-- How starts and ends nest.
use Rattle.std.specs.Prelude.{◌≡◌, ℕ, zero, suc, List, [], ◌∷◌, Option, Some, None}
use Rattle.fast_stream.specs.meaning.Events.{EventData, MessageStart, FieldValue, GroupStart, GroupEnd, SequenceStart, ElementStart}
use Rattle.fast_stream.specs.meaning.Events.{ElementEnd, SequenceEnd, MessageEnd}
use Rattle.fast_stream.specs.meaning.Streams.{End, between}

-- what is open: a message, a group, a sequence of which so many elements are to come, an element
pub data Open : Type 0 where
  a_message : Open
  a_group : Open
  a_sequence : ℕ → Open
  an_element : Open

-- Fields, groups and sequences stand in a message, a group or an element, and not in a sequence itself.
abbrev pub in_segment : List Open → List Open → Option (List Open)
in_segment [] next = None
in_segment (a_message ∷ os) next = Some next
in_segment (a_group ∷ os) next = Some next
in_segment (an_element ∷ os) next = Some next
in_segment (a_sequence n ∷ os) next = None

-- each end closes what was opened last
abbrev pub end_message : List Open → Option (List Open)
end_message (a_message ∷ []) = Some []
end_message os = None

abbrev pub end_group : List Open → Option (List Open)
end_group (a_group ∷ os) = Some os
end_group os = None

abbrev pub end_element : List Open → Option (List Open)
end_element (an_element ∷ os) = Some os
end_element os = None

-- a sequence ends behind as many elements as it began with
abbrev pub start_element : List Open → Option (List Open)
start_element (a_sequence (suc n) ∷ os) = Some (an_element ∷ a_sequence n ∷ os)
start_element os = None

abbrev pub end_sequence : List Open → Option (List Open)
end_sequence (a_sequence zero ∷ os) = Some os
end_sequence os = None

-- messages stand in nothing
abbrev pub start_message : List Open → Option (List Open)
start_message [] = Some (a_message ∷ [])
start_message os = None

-- what is open behind an event, innermost first; None where the event can't come
abbrev pub after_event : EventData → List Open → Option (List Open)
after_event (MessageStart n) os = start_message os
after_event (FieldValue n v) os = in_segment os os
after_event (GroupStart n) os = in_segment os (a_group ∷ os)
after_event GroupEnd os = end_group os
after_event (SequenceStart n count) os = in_segment os (a_sequence count ∷ os)
after_event ElementStart os = start_element os
after_event ElementEnd os = end_element os
after_event SequenceEnd os = end_sequence os
after_event MessageEnd os = end_message os

abbrev pub after_one : EventData → Option (List Open) → Option (List Open)
after_one e None = None
after_one e (Some os) = after_event e os

-- what is open behind events
abbrev pub after_events : Option (List Open) → List EventData → Option (List Open)
after_events o [] = o
after_events o (e ∷ es) = after_events (after_one e o) es

-- Each event comes where it can, from nothing open on; between two messages nothing is open.
abbrev pub AreNested : List EventData → End → Type 0
AreNested es e = (os : List Open) × (after_events (Some []) es ≡ Some os) × (e ≡ between → os ≡ [])
