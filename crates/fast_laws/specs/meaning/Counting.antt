-- The elements of a message, by its events.
use Rattle.std.specs.Prelude.{◌≡◌, ℕ, ◌+◌, ◌≤◌, List, [], ◌∷◌, ◌++◌}
use Rattle.fast_value.specs.declared.settings.Limits.{Limits}
use Rattle.fast_stream.specs.meaning.Events.{EventData, MessageStart, FieldValue, GroupStart, GroupEnd, SequenceStart, ElementStart}
use Rattle.fast_stream.specs.meaning.Events.{ElementEnd, SequenceEnd, MessageEnd}

-- A sequence's start adds the elements that it announces, and a message's start begins anew.
abbrev pub counted_with : EventData → ℕ → ℕ
counted_with (MessageStart n) k = 0
counted_with (SequenceStart n count) k = k + count
counted_with (FieldValue n v) k = k
counted_with (GroupStart n) k = k
counted_with GroupEnd k = k
counted_with ElementStart k = k
counted_with ElementEnd k = k
counted_with SequenceEnd k = k
counted_with MessageEnd k = k

abbrev pub counted_from : ℕ → List EventData → ℕ
counted_from k [] = k
counted_from k (e ∷ es) = counted_from (counted_with e k) es

-- the elements of the last message, inner ones too, by the events so far
abbrev pub counted : List EventData → ℕ
counted es = counted_from 0 es

-- at no moment there are more than a message may have
abbrev pub AreFew : Limits → List EventData → Type 0
AreFew l es = (fs gs : List EventData) → es ≡ fs ++ gs → counted fs ≤ l.max_total

-- a sequence begins with no more elements than one may have
abbrev pub HasFew : Limits → EventData → Type 0
HasFew l (SequenceStart n count) = count ≤ l.max_elements
HasFew l (MessageStart n) = Unit {0}
HasFew l (FieldValue n v) = Unit {0}
HasFew l (GroupStart n) = Unit {0}
HasFew l GroupEnd = Unit {0}
HasFew l ElementStart = Unit {0}
HasFew l ElementEnd = Unit {0}
HasFew l SequenceEnd = Unit {0}
HasFew l MessageEnd = Unit {0}
