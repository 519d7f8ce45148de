-- Phrases: parts of a stream. A phrase says of each list of bytes whether it is the complete phrase, with the result of the phrase; or a
-- proper prefix of it; or the shortest prefix that decides a fault. The events that the bytes emit are listed with them.
use Rattle.std.specs.Prelude.{◌≡◌, ◌⊎◌, ℕ, List, [], ◌∷◌, ◌++◌, Result, Ok, Err}
use Rattle.fast_value.specs.declared.codes.Code.{Code}
use Rattle.fast_stream.specs.meaning.Events.{EventData}

-- the bytes of a phrase: the complete phrase, a proper prefix, or a prefix that decides a fault
pub data Reached (A : Type 0) : Type 0 where
  whole : A → Reached A
  cut : Reached A
  wrong : Code → Reached A

-- a relation of bytes, their events, and what they reach
abbrev pub Phrase : Type 0 → Type 1
Phrase A = List ℕ → List EventData → Reached A → Type 0

-- no byte and no event, and a given result
unfoldable pub gives : {A : Type 0} → A → List ℕ → List EventData → Reached A → Type 0
gives a w es (whole b) = (w ≡ []) × (es ≡ []) × (b ≡ a)
gives a w es cut = ⊥
gives a w es (wrong c) = ⊥

-- no byte, and one event
unfoldable pub hands : EventData → List ℕ → List EventData → Reached (Unit {0}) → Type 0
hands e w es (whole b) = (w ≡ []) × (es ≡ e ∷ [])
hands e w es cut = ⊥
hands e w es (wrong c) = ⊥

-- no byte, and a result or a fault: it is decided at the byte before
unfoldable pub settles : {A : Type 0} → Result A Code → List ℕ → List EventData → Reached A → Type 0
settles (Ok a) w es r = gives a w es r
settles (Err d) w es (whole b) = ⊥
settles (Err d) w es cut = ⊥
settles (Err d) w es (wrong c) = (w ≡ []) × (es ≡ []) × (c ≡ d)

-- Some prefix of the bytes is the complete first phrase, and the rest is read by the next one, which may depend on the result of the first.
abbrev pub GoesOn : {A B : Type 0} → Phrase A → (A → Phrase B) → List ℕ → List EventData → Reached B → Type 0
GoesOn {A} p k w es r = (u v : List ℕ) × (fs gs : List EventData) × (a : A) × p u fs (whole a) × k a v gs r × (w ≡ u ++ v) × (es ≡ fs ++ gs)

-- One phrase after the other. They are truncated, or wrong, in the first or in the second.
infixl 10 ◌followed_by◌
unfoldable pub ◌followed_by◌ : {A B : Type 0} → Phrase A → (A → Phrase B) → List ℕ → List EventData → Reached B → Type 0
◌followed_by◌ p k w es (whole b) = GoesOn p k w es (whole b)
◌followed_by◌ p k w es cut = p w es cut ⊎ GoesOn p k w es cut
◌followed_by◌ p k w es (wrong c) = p w es (wrong c) ⊎ GoesOn p k w es (wrong c)
