-- The choice of messages, as a choice from a list of them.
use Rattle.std.specs.Prelude.{◌≡◌, ℕ, Bool, true, false, All, List, [], ◌∷◌, ◌++◌, flat_map, filter, take, drop, Option, Some, None}
use Rattle.fast_stream.specs.meaning.Events.{EventData, MessageStart, MessageEnd}
use Rattle.fast_select.specs.declared.selected.Chooser.{Chooser}
use Rattle.fast_select.specs.meaning.Choosing.{is_among, chosen}

-- A whole message: its template, and the events between its start and its end.
pub record Whole : Type 0 where
  pub template : ℕ
  pub inner : List EventData

-- the event is neither the start nor the end of a message
abbrev pub is_inner : EventData → Bool
is_inner (MessageStart n) = false
is_inner MessageEnd = false
is_inner e = true

-- there is one message, and not more
abbrev pub IsOne : Whole → Type 0
IsOne m = All (λ e. is_inner e ≡ true) m.inner

-- the events of a message
abbrev pub whole_events : Whole → List EventData
whole_events m = MessageStart m.template ∷ m.inner ++ MessageEnd ∷ []

-- the first of the messages, or all
abbrev pub first_of : Option ℕ → List Whole → List Whole
first_of None ms = ms
first_of (Some n) ms = take n ms

-- Those from a number on that have one of the templates, and of these the first.
abbrev pub picked : Chooser → List Whole → List Whole
picked c ms = first_of c.rest (filter (λ m. is_among c.only m.template) (drop c.skip ms))

-- Law: between two messages, the events that are chosen of whole messages are those of the messages that are picked.
abbrev pub ChoosesMessages : Type 0
ChoosesMessages = (c : Chooser) (ms : List Whole) → c.is_in ≡ false → All IsOne ms → chosen c (flat_map whole_events ms) ≡ flat_map whole_events (picked c ms)
