-- The events that a reader emits before it waits for a byte, and the units that a machine reads.
use Rattle.std.specs.Prelude.{◌≡◌, ◌⊎◌, ℕ, ◌+◌, ◌<◌, ◌≤◌, List, [], ◌∷◌, ◌++◌, length, take, Result, Ok, Err, IsOk}
use Rattle.fast_value.specs.declared.settings.Limits.{Limits}
use Rattle.fast_value.specs.meaning.Limits.{bounds}
use Rattle.fast_value.specs.declared.codes.Code.{Code}
use Rattle.fast_tree.specs.meaning.Tree.{Tree}
use Rattle.fast_stream.specs.declared.faults.FaultCode.{FaultCode}
use Rattle.fast_stream.specs.declared.faults.FaultCode.TheVariants as Why
use Rattle.fast_dict.specs.meaning.Dictionary.{Dictionary}
use Rattle.fast_stream.specs.meaning.Events.{EventData}
use Rattle.fast_stream.specs.meaning.Sinks.{Takes, TakesUpTo}
use Rattle.fast_stream.specs.device.Readers.{Reader, Done, Emit, Stop, Byte}
use Rattle.fast_stream.specs.device.GrammarReaders.{reader_of}
use Rattle.fast_stream.specs.device.Continuations.{message_then}
use Rattle.fast_stream.specs.device.Machine.{after_bytes}
pub use Rattle.fast_units.specs.device.Taking.{Waits, Quiet}
use Rattle.fast_stream.specs.device.Running.{Position, at_start, amid, at_fault, after_byte, run, message_begun}

-- The sink accepts, one after the other, the events that the reader emits before it waits or ends, and this is the rest of the reader; or
-- the reader stops at its fault; or the sink stops at one of the events.
abbrev pub Hands : {S : Type 0} → (S → EventData → S → Type 0) → (S → EventData → S → Type 0) → Reader Dictionary → S
    → Result Unit FaultCode → S → Reader Dictionary → Type 0
Hands takes stops (Done d) s r s' q = IsOk r × (s' ≡ s) × (q ≡ Done d)
Hands takes stops (Byte f) s r s' q = IsOk r × (s' ≡ s) × (q ≡ Byte f)
Hands takes stops (Stop c) s r s' q = (r ≡ Err (Why.Stream c)) × (s' ≡ s)
Hands {S} takes stops (Emit e p) s r s' q = ((mid : S) × takes s e mid × Hands takes stops p mid r s' q) ⊎ (stops s e s' × (r ≡ Err Why.SinkStopped))

-- the reader at the next byte: a message, if none has begun
abbrev pub due : Tree → Limits → Reader Dictionary → Reader Dictionary
due t l (Done d) = reader_of l.strict (message_then t (bounds l) d)
due t l (Emit e r) = Emit e r
due t l (Stop c) = Stop c
due t l (Byte f) = Byte f

-- A machine with this reader consumes some of the bytes, of which only the last emits events.
pub record IsTaken {S : Type 0} (takes stops : S → EventData → S → Type 0) (t : Tree) (l : Limits) (from : Reader Dictionary)
    (rest : List ℕ) (s : S) (n : ℕ) (r : Result Unit FaultCode) (s' : S) (to : Reader Dictionary) : Type 0 where
  pub some : 0 < n
  pub within : n ≤ length rest
  pub quiet : Quiet (due t l from) (take n rest)
  pub hands : Hands takes stops (after_bytes (due t l from) (take n rest)) s r s' to

-- the position of a reader that waits or ends
abbrev pub waiting_at : Reader Dictionary → Position Dictionary
waiting_at (Done d) = at_start d
waiting_at (Emit e r) = amid (after_byte (Emit e r))
waiting_at (Stop c) = amid (after_byte (Stop c))
waiting_at (Byte f) = amid f

-- For each number of bytes before them, the bytes lead from the one position to the other, with these events.
abbrev pub Leads : Tree → Limits → Position Dictionary → List ℕ → List EventData → Position Dictionary → Type 0
Leads t l from w es to = (n : ℕ) → run (message_begun t l) n from w ≡ (es, to)

-- The sink accepted the events of the bytes.
pub record TookEvents {S : Type 0} (takes : S → EventData → S → Type 0) (t : Tree) (l : Limits) (from : Position Dictionary) (w : List ℕ)
    (s s' : S) (to : Position Dictionary) : Type 0 where
  pub events : List EventData
  pub leads : Leads t l from w events to
  pub taken : Takes takes s events s'

-- The sink accepted the events of the bytes up to the fault, which the last of them decides.
pub record Failed {S : Type 0} (takes : S → EventData → S → Type 0) (t : Tree) (l : Limits) (from : Position Dictionary) (w : List ℕ)
    (s s' : S) (c : Code) : Type 0 where
  pub events : List EventData
  pub leads : (n : ℕ) → run (message_begun t l) n from w ≡ (events, at_fault c (n + length w))
  pub taken : Takes takes s events s'

-- The sink accepted the events of all bytes but the last, and stopped at one that the last byte gives.
pub record Stopped {S : Type 0} (takes stops : S → EventData → S → Type 0) (t : Tree) (l : Limits) (from : Position Dictionary)
    (w : List ℕ) (s s' : S) : Type 0 where
  pub before : List ℕ
  pub byte : ℕ
  pub bytes : w ≡ before ++ byte ∷ []
  pub mid : S
  pub at : Position Dictionary
  pub took : TookEvents takes t l from before s mid at
  pub given : List EventData
  pub gives : (n : ℕ) → (run (message_begun t l) n at (byte ∷ [])).0 ≡ given
  pub stopped : TakesUpTo takes stops mid given s'

-- the effect of these bytes, by the result
abbrev pub Fed : {S : Type 0} → (S → EventData → S → Type 0) → (S → EventData → S → Type 0) → Tree → Limits → Position Dictionary → List ℕ
    → S → Result Unit FaultCode → S → Position Dictionary → Type 0
Fed takes stops t l from w s (Ok u) s' to = TookEvents takes t l from w s s' to
Fed takes stops t l from w s (Err (Why.Stream c)) s' to = Failed takes t l from w s s' c
Fed takes stops t l from w s (Err Why.SinkStopped) s' to = Stopped takes stops t l from w s s'
Fed takes stops t l from w s (Err Why.L4) s' to = ⊥
