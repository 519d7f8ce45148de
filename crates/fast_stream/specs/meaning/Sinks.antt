-- The events that a sink has accepted.
use Rattle.std.specs.Prelude.{◌≡◌, ◌++◌, List, [], ◌∷◌}
use Rattle.fast_stream.specs.meaning.Events.{EventData}

-- A sink's own relation says how an event that it accepts changes its value. These are the values after a list of events, one after the
-- other.
abbrev pub Takes : {S : Type 0} → (S → EventData → S → Type 0) → S → List EventData → S → Type 0
Takes takes s [] s' = s' ≡ s
Takes {S} takes s (e ∷ es) s' = (mid : S) × takes s e mid × Takes takes mid es s'

-- Some of the events were accepted, and the sink stopped at the next one.
abbrev pub TakesUpTo : {S : Type 0} → (S → EventData → S → Type 0) → (S → EventData → S → Type 0) → S → List EventData → S → Type 0
TakesUpTo {S} takes stops s es s' = (front rest : List EventData) × (e : EventData) × (mid : S) × (es ≡ front ++ e ∷ rest)
    × Takes takes s front mid × stops mid e s'
