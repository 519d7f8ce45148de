-- How far a run has come.
use Rattle.std.specs.Prelude.{◌≡◌, ℕ, ◌≤◌, Bool, true, false, List, ◌++◌, length, Some, None, is_some, Result, Ok, Err}
use Rattle.fast_value.specs.declared.settings.Limits.{Limits}
use Rattle.fast_tree.specs.meaning.Tree.{Tree}
use Rattle.fast_stream.specs.declared.faults.Fault.{Fault}
use Rattle.fast_stream.specs.declared.faults.FaultCode.{FaultCode}
use Rattle.fast_stream.specs.declared.faults.FaultCode.TheVariants as Why
use Rattle.fast_stream.specs.meaning.Events.{EventData}
use Rattle.fast_stream.specs.meaning.Streams.{End, between, inside, Stream}
use Rattle.fast_decoder.specs.meaning.Decoding.{DecoderData, HasRead, Carried, tree}
use Rattle.fast_select.specs.declared.selected.Selected.{Selected}
use Rattle.fast_select.specs.meaning.Selecting.{TakesOn, StopsOn}
use Rattle.fast_command.specs.declared.faults.ShowEnd.{ShowEnd}
use Rattle.fast_command.specs.declared.faults.ShowEnd.TheVariants.{Good, Faulted, Truncated}
use Rattle.fast_command.specs.declared.faults.RunFault.{RunFault}
use Rattle.fast_command.specs.declared.faults.RunFault.TheVariants.{Read, Write, BadHex, Templates as Refused, Make, Text, Encode, Memory}
use Rattle.fast_command.specs.meaning.Showing.{StandsFor, IsGoodEnd}
use Rattle.fast_command.specs.device.Progress.{IsTaken}
use Rattle.fast_run.specs.declared.runs.Run.{Run}

-- The run has read the text, which stands for the bytes, and these gave the events. There was no fault.
pub record Progress (t : Tree) (l : Limits) (hex : Bool) (s : Run) (text b : List ℕ) (es : List EventData) : Type 0 where
  pub set : tree s.decoder ≡ t
  pub limits : s.decoder.limits ≡ l
  pub so : HasRead s.decoder b es
  pub good : s.decoder.fault ≡ None
  pub hex_is : is_some s.unhexer ≡ hex
  pub taken : IsTaken s.unhexer text b

-- A piece of the text was fed after what had been read: it stands for more bytes.
pub record Fed {S : Type 0} (takes stops : S → EventData → S → Type 0) (old : Run) (text b : List ℕ) (es : List EventData) (piece : List ℕ)
    (s : Selected S) (r : Result (Unit {0}) Fault) (new : Run) (s' : Selected S) : Type 0 where
  pub bytes : List ℕ
  pub taken : IsTaken new.unhexer (text ++ piece) (b ++ bytes)
  pub few : length bytes ≤ length piece
  pub carried : Carried (TakesOn takes) (StopsOn takes stops) old.decoder b es bytes s r new.decoder s'

-- how a run ends at the fault of a feed
abbrev pub ending_at : Fault → FaultCode → Bool → Result ShowEnd RunFault
ending_at f Why.SinkStopped true = Ok Good
ending_at f Why.SinkStopped false = Err Write
ending_at f (Why.Stream c) full = Ok (Faulted f)
ending_at f Why.L4 full = Ok (Faulted f)

-- how a run ends at the end of the input
abbrev pub EndsAt : Tree → Limits → Bool → List ℕ → List ℕ → List EventData → Result ShowEnd RunFault → Type 0
EndsAt t l hex text b es (Ok Good) = StandsFor hex text b None × Stream t l b es between
EndsAt t l hex text b es (Ok (Truncated n)) = StandsFor hex text b None × Stream t l b es inside × (n ≡ length b)
EndsAt t l hex text b es (Ok (Faulted f)) = ⊥
EndsAt t l hex text b es (Err (BadHex n)) = StandsFor hex text b (Some n) × ((e : End) × Stream t l b es e × IsGoodEnd e)
EndsAt t l hex text b es (Err Read) = ⊥
EndsAt t l hex text b es (Err Write) = ⊥
EndsAt t l hex text b es (Err (Refused fault)) = ⊥
EndsAt t l hex text b es (Err (Make cause)) = ⊥
EndsAt t l hex text b es (Err (Text line kind)) = ⊥
EndsAt t l hex text b es (Err (Encode message fault)) = ⊥
EndsAt t l hex text b es (Err Memory) = ⊥
