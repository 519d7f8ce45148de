-- What events can be of a body, of elements and of a message, and what they can't be.
use Rattle.std.specs.Prelude.{◌≡◌, ◌≢◌, ℕ, ◌+◌, ◌<◌, List, ◌∷◌, ◌++◌, length}
use Rattle.fast_value.specs.meaning.Messages.{Slots, Elements, count, MessageData}
use Rattle.fast_tree.specs.declared.instructions.Node.{Node}
use Rattle.fast_tree.specs.meaning.Tree.{Body, step, Tree}
use Rattle.fast_tree.specs.meaning.Nodes.{body_among}
use Rattle.fast_tree.specs.meaning.Numbers.{AreBelow}
use Rattle.fast_stream.specs.meaning.Events.{EventData, SequenceEnd, element_events, body_events, events}
use Rattle.fast_spelling.specs.device.Nodes.{instruction_in}
use Rattle.fast_records.specs.declared.putting.Mark.{Mark}
use Rattle.fast_records.specs.device.Putting.{mark_event}

-- The events are those of slots of the body, then the mark, then the rest.
abbrev pub IsDue : Body → Mark → List EventData → List EventData → Type 0
IsDue b end from rest = (vs : Slots) × (from ≡ body_events b vs ++ mark_event end ∷ rest)

-- so of no slots, whatever the rest is
abbrev pub HasNoBody : Body → Mark → List EventData → Type 0
HasNoBody b end from = (rest : List EventData) → ¬ (IsDue b end from rest)

-- Whatever can be due of a whole body at one place can be due of the rest at the next.
abbrev pub IsLeft : Body → Body → Mark → List EventData → List EventData → Type 0
IsLeft whole b end from to = (rest : List EventData) → IsDue whole end from rest → IsDue b end to rest

-- Whatever can be due from a node of a body on can be due of the nodes behind it, at the next place.
abbrev pub Passes : List Node → ℕ → List EventData → List EventData → Type 0
Passes nodes n from to =
    (ns : List ℕ) (end : Mark) (rest : List EventData) → AreBelow (length nodes) ns
    → IsDue (step (instruction_in nodes n) (body_among nodes ns)) end from rest → IsDue (body_among nodes ns) end to rest

-- Nothing can be due from the node on.
abbrev pub IsStuck : List Node → ℕ → List EventData → Type 0
IsStuck nodes n from =
    (ns : List ℕ) (end : Mark) → AreBelow (length nodes) ns → HasNoBody (step (instruction_in nodes n) (body_among nodes ns)) end from

-- not so many elements, up to the sequence's end
abbrev pub HasNoRows : Body → ℕ → List EventData → Type 0
HasNoRows b n from = (rows : Elements) (rest : List EventData) → count rows ≡ n → from ≢ element_events (body_events b) rows ++ SequenceEnd ∷ rest

-- Whatever can be due of all elements at one place can be due of those behind so many at the next.
abbrev pub AreLeft : Body → ℕ → ℕ → List EventData → List EventData → Type 0
AreLeft b n i from to =
    (rows : Elements) (rest : List EventData) → count rows ≡ n → from ≡ element_events (body_events b) rows ++ SequenceEnd ∷ rest
    → (others : Elements) × (count others + i ≡ n) × (to ≡ element_events (body_events b) others ++ SequenceEnd ∷ rest)

-- no message of the set at the front
abbrev pub HasNoFront : Tree → List EventData → Type 0
HasNoFront t from = (m : MessageData) (rest : List EventData) → m.template < length t.templates → from ≢ events t m ++ rest
