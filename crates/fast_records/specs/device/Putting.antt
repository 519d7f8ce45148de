-- Messages and their parts, by the events that say them.
use Rattle.std.specs.Prelude.{◌≡◌, ℕ, List, [], ◌∷◌, ◌++◌, length, Option, Some, None}
use Rattle.std.specs.declared.vec.Vec.{Vec}
use Rattle.std.specs.declared.alloc.Global.{Global}
use Rattle.fast_value.specs.declared.messages.Item.{Item}
use Rattle.fast_value.specs.meaning.Views.{item_data, elements_data}
use Rattle.fast_value.specs.meaning.Messages.{ItemData, Slots, absent, present, Elements, count}
use Rattle.fast_tree.specs.meaning.Tree.{Instruction, Body}
use Rattle.fast_stream.specs.meaning.Events.{EventData, GroupEnd, ElementStart, ElementEnd, SequenceEnd, MessageEnd, element_events, item_events, body_events}
use Rattle.fast_records.specs.declared.putting.Mark.{Mark}
use Rattle.fast_records.specs.declared.putting.Mark.TheVariants as Is

-- the event of a mark
abbrev pub mark_event : Mark → EventData
mark_event Is.ElementStart = ElementStart
mark_event Is.ElementEnd = ElementEnd
mark_event Is.SequenceEnd = SequenceEnd
mark_event Is.GroupEnd = GroupEnd
mark_event Is.MessageEnd = MessageEnd

-- the first events are those of the slots, and then the mark
abbrev pub IsBodyPut : Body → Mark → Slots → List EventData → List EventData → Type 0
IsBodyPut body end vs from to = from ≡ body_events body vs ++ mark_event end ∷ to

-- the first events are those of the item
abbrev pub IsItemPut : Instruction → ItemData → List EventData → List EventData → Type 0
IsItemPut i x from to = from ≡ item_events i x ++ to

-- the first events are those of the item, if there is one
abbrev pub IsSlotPut : Instruction → Option ItemData → List EventData → List EventData → Type 0
IsSlotPut i None from to = to ≡ from
IsSlotPut i (Some x) from to = IsItemPut i x from to

-- the first events are those of so many elements, and then the end of the sequence
pub record AreRowsPut (body : Body) (n : ℕ) (rows : Elements) (from to : List EventData) : Type 0 where
  pub counted : count rows ≡ n
  pub said : from ≡ element_events (body_events body) rows ++ SequenceEnd ∷ to

-- slots, and others behind them
abbrev pub followed : List (Option Item) → Slots → Slots
followed [] vs = vs
followed (None ∷ xs) vs = absent (followed xs vs)
followed (Some x ∷ xs) vs = present (item_data x) (followed xs vs)

-- Of a whole body these slots are put, and this rest is left: its events stand behind those that were taken.
pub record IsPutTo (whole : Body) (slots : List (Option Item)) (rest : Body) (from to : List EventData) : Type 0 where
  pub taken : List EventData
  pub said : from ≡ taken ++ to
  pub says : (vs : Slots) → body_events whole (followed slots vs) ≡ taken ++ body_events rest vs

-- so many elements are put
pub record ArePutTo (body : Body) (n : ℕ) (rows : List (Vec (Option Item) Global)) (from to : List EventData) : Type 0 where
  pub counted : length rows ≡ n
  pub said : from ≡ element_events (body_events body) (elements_data rows) ++ to
