-- The events that a sink receives, and those of a complete message. In the code Event is the view of the Rust enum.
use Rattle.std.specs.Prelude.{ℕ, List, [], ◌∷◌, ◌++◌, slice_get, Option, Some, None}
use Rattle.fast_value.specs.meaning.Kinds.{ScalarData}
use Rattle.fast_value.specs.meaning.Messages.{ItemData, one, group as group_item, sequence as sequence_item, Slots, no_slots, absent}
use Rattle.fast_value.specs.meaning.Messages.{present, Elements, no_elements, element, MessageData, count}
use Rattle.fast_tree.specs.meaning.Tree.{Instruction, field, parts, group, sequence, Body, end, step, TemplateData, Tree}

-- an event that a sink receives
pub data EventData : Type 0 where
  MessageStart : ℕ → EventData
  FieldValue : ℕ → ScalarData → EventData
  GroupStart : ℕ → EventData
  GroupEnd : EventData
  SequenceStart : ℕ → ℕ → EventData
  ElementStart : EventData
  ElementEnd : EventData
  SequenceEnd : EventData
  MessageEnd : EventData

-- the events of a scalar, and of each element in turn
abbrev pub value_events : ℕ → ItemData → List EventData
value_events n (one v) = FieldValue n v ∷ []
value_events n other = []

-- the elements one after the other
abbrev pub element_events : (Slots → List EventData) → Elements → List EventData
element_events events no_elements = []
element_events events (element vs rest) = ElementStart ∷ events vs ++ ElementEnd ∷ element_events events rest

-- a group's start, its slots and its end
abbrev pub group_events : ℕ → (Slots → List EventData) → ItemData → List EventData
group_events n events (group_item vs) = GroupStart n ∷ events vs ++ GroupEnd ∷ []
group_events n events other = []

-- a sequence's start with its count, its elements and its end
abbrev pub sequence_events : ℕ → (Slots → List EventData) → ItemData → List EventData
sequence_events n events (sequence_item rows) = SequenceStart n (count rows) ∷ element_events events rows ++ SequenceEnd ∷ []
sequence_events n events other = []

-- An instruction's item, and a body's slots, in preorder. Absent slots give no event.
unfoldable mutual
  pub item_events : Instruction → ItemData → List EventData
  item_events (field l f) x = value_events l.node x
  item_events (parts l e m) x = value_events l.node x
  item_events (group l optional body) x = group_events l.node (body_events body) x
  item_events (sequence l length body) x = sequence_events l.node (body_events body) x

  pub body_events : Body → Slots → List EventData
  body_events end vs = []
  body_events (step i is) no_slots = []
  body_events (step i is) (absent vs) = body_events is vs
  body_events (step i is) (present x vs) = item_events i x ++ body_events is vs

-- the message of a template, if there is one
abbrev pub template_events : ℕ → Option TemplateData → Slots → List EventData
template_events n None vs = []
template_events n (Some t) vs = MessageStart n ∷ body_events t.body vs ++ MessageEnd ∷ []

-- the events of a message
abbrev pub events : Tree → MessageData → List EventData
events t m = template_events m.template (slice_get t.templates m.template) m.slots
