-- The steps of a machine without a byte.
use Rattle.std.specs.Prelude.{◌≡◌, ℕ, suc, List, [], ◌∷◌, Result, Ok, Err}
use Rattle.fast_dict.specs.meaning.Dictionary.{Dictionary}
use Rattle.fast_stream.specs.declared.faults.FaultCode.{FaultCode}
use Rattle.fast_machine.specs.declared.machine.Turn.{Turn}
use Rattle.fast_machine.specs.declared.machine.Turn.TheVariants.{Silent, Handed, Waits}
use Rattle.fast_stream.specs.meaning.Events.{EventData}
use Rattle.fast_stream.specs.meaning.Sinks.{Takes}
use Rattle.fast_stream.specs.device.Readers.{Reader, Done, Emit, Stop, Byte}
use Rattle.fast_machine.specs.device.Handing.{Hands}

-- a reader that emits these events first
abbrev pub emits : List EventData → Reader Dictionary → Reader Dictionary
emits [] r = r
emits (e ∷ es) r = Emit e (emits es r)

-- the number of events that a reader emits before it waits, ends or stops
abbrev pub events_due : Reader Dictionary → ℕ
events_due (Done d) = 0
events_due (Emit e r) = suc (events_due r)
events_due (Stop c) = 0
events_due (Byte f) = 0

-- A turn of a machine that had the reader: it goes on after it emitted events or none, and then has the second reader; or it waits, and has
-- the third one; or it is at an end.
abbrev pub Moves : {S : Type 0} → (S → EventData → S → Type 0) → (S → EventData → S → Type 0) → Reader Dictionary → S
    → Result Turn FaultCode → S → Reader Dictionary → Reader Dictionary → Type 0
Moves takes stops r s (Ok Silent) s' on waits = (r ≡ on) × (s' ≡ s)
Moves takes stops r s (Ok Handed) s' on waits = (e : EventData) × (es : List EventData) × (r ≡ emits (e ∷ es) on) × Takes takes s (e ∷ es) s'
Moves takes stops r s (Ok Waits) s' on waits = Hands takes stops r s (Ok tt) s' waits
Moves takes stops r s (Err c) s' on waits = (q : Reader Dictionary) → Hands takes stops r s (Err c) s' q

-- The events of the second reader from the second sink on are those of the first from the first on.
abbrev pub Onward : {S : Type 0} → (S → EventData → S → Type 0) → (S → EventData → S → Type 0) → Reader Dictionary → S → Reader Dictionary → S → Type 0
Onward {S} takes stops r s r' s' = (o : Result Unit FaultCode) (t : S) (q : Reader Dictionary) → Hands takes stops r' s' o t q → Hands takes stops r s o t q
