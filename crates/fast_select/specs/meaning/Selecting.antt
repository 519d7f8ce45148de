-- What a sink of the chosen messages does to the sink to which it passes their events.
use Rattle.std.specs.Prelude.{◌≡◌, ◌⊎◌, Bool, true, false, List, [], ◌∷◌, ◌++◌}
use Rattle.fast_stream.specs.meaning.Events.{EventData}
use Rattle.fast_stream.specs.meaning.Sinks.{Takes}
use Rattle.fast_select.specs.declared.selected.Selected.{Selected}
use Rattle.fast_select.specs.meaning.Choosing.{is_none_left, is_chosen, after}

-- the event is passed on, or not
abbrev pub PassesIf : {S : Type 0} → (S → EventData → S → Type 0) → Bool → S → EventData → S → Type 0
PassesIf takes true s e s' = takes s e s'
PassesIf takes false s e s' = s' ≡ s

-- An event is passed on if it belongs to a chosen message.
pub record Passes {S : Type 0} (takes : S → EventData → S → Type 0) (old : Selected S) (e : EventData) (new : Selected S) : Type 0 where
  pub chooser : new.chooser ≡ after old.chooser e
  pub inner : PassesIf takes (is_chosen old.chooser e) old.inner e new.inner
  pub full : new.is_full ≡ is_none_left new.chooser.rest

-- More messages may be chosen after the event.
pub record TakesOn {S : Type 0} (takes : S → EventData → S → Type 0) (old : Selected S) (e : EventData) (new : Selected S) : Type 0 where
  pub passes : Passes takes old e new
  pub goes_on : new.is_full ≡ false

-- The event ends the last message that can be chosen; or the inner sink stops at it.
pub record StopsOn {S : Type 0} (takes stops : S → EventData → S → Type 0) (old : Selected S) (e : EventData) (new : Selected S) : Type 0 where
  pub how :
      Passes takes old e new × (new.is_full ≡ true)
      ⊎ (is_chosen old.chooser e ≡ true) × stops old.inner e new.inner × (new.is_full ≡ old.is_full)

-- the events of some pieces, of which the last one is the first of the list
abbrev pub in_order : List (List EventData) → List EventData
in_order [] = []
in_order (p ∷ ps) = in_order ps ++ p

-- A sink took the events of some pieces, and was flushed before each piece.
abbrev pub TakesPieces : {S : Type 0} → (S → EventData → S → Type 0) → (S → S → Type 0) → S → List (List EventData) → S → Type 0
TakesPieces takes flushes s [] s' = s' ≡ s
TakesPieces {S} takes flushes s (p ∷ ps) s' = (mid : S) × (flushed : S) × TakesPieces takes flushes s ps mid × flushes mid flushed × Takes takes flushed p s'

-- A sink took the events, and was flushed in between.
pub record Gives {S : Type 0} (takes : S → EventData → S → Type 0) (flushes : S → S → Type 0) (s : S) (es : List EventData) (s' : S) : Type 0 where
  pub pieces : List (List EventData)
  pub are : in_order pieces ≡ es
  pub took : TakesPieces takes flushes s pieces s'
