-- Which events records stand for.
use Rattle.std.specs.Prelude.{◌≡◌, ℕ, ◌<◌, List, [], ◌∷◌, take, drop}
use Rattle.std.specs.Int.{w64, cast_unsigned, cast_signed}
use Rattle.fast_value.specs.meaning.Kinds.{ScalarData, I, Dec}
use Rattle.fast_stream.specs.meaning.Events.{EventData, FieldValue, SequenceStart}
use Rattle.fast_records.specs.declared.records.Record.{Record}
use Rattle.fast_records.specs.meaning.Records.{record_of, unplaced, event_text}

-- a signed number is the one that its 64 bits say
abbrev pub IsHeldScalar : ScalarData → Type 0
IsHeldScalar (I x) = cast_signed w64 (cast_unsigned w64 x) ≡ x
IsHeldScalar (Dec e m) = cast_signed w64 (cast_unsigned w64 m) ≡ m
IsHeldScalar v = Unit {0}

-- An event that can be handed over: its number has 64 bits, its count 32.
abbrev pub IsHeld : EventData → Type 0
IsHeld (FieldValue node v) = IsHeldScalar v
IsHeld (SequenceStart node count) = count < 4294967296
IsHeld e = Unit {0}

-- The record is that of the event, and its text stands in these where the record says. At the end of a message its value may be any.
pub record Tells (texts : List ℕ) (r : Record) (e : EventData) : Type 0 where
  pub record_is : unplaced r ≡ record_of r.value e
  pub text_is : event_text e ≡ take r.length (drop r.value texts)
  pub held : IsHeld e

-- so of each record and its event
abbrev pub AreTold : List ℕ → List Record → List EventData → Type 0
AreTold texts [] [] = Unit {0}
AreTold texts [] (e ∷ es) = ⊥
AreTold texts (r ∷ rs) [] = ⊥
AreTold texts (r ∷ rs) (e ∷ es) = Tells texts r e × AreTold texts rs es
