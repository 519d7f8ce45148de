-- The part of a unit that a machine reads, and the turn after it.
use Rattle.std.specs.Prelude.{ℕ, ◌<◌, ◌≤◌, List, length, take, Result}
use Rattle.fast_value.specs.declared.settings.Limits.{Limits}
use Rattle.fast_dict.specs.meaning.Dictionary.{Dictionary}
use Rattle.fast_stream.specs.meaning.Events.{EventData}
use Rattle.fast_stream.specs.device.Readers.{Reader}
use Rattle.fast_stream.specs.device.Machine.{after_bytes}
use Rattle.fast_units.specs.device.Taking.{Quiet}
use Rattle.fast_machine.specs.device.Handing.{due}
use Rattle.fast_machine.specs.device.Positions.{Set, tree_in, IsTurn}
use Rattle.fast_stream.specs.declared.faults.FaultCode.{FaultCode}
use Rattle.fast_machine.specs.declared.machine.Machine.{Machine}
use Rattle.fast_machine.specs.declared.machine.Turn.{Turn}

-- A machine with this reader consumes some of the bytes, of which only the last emits events, and a turn after them ends with this result.
pub record IsTakenTo {S : Type 0} (takes stops : S → EventData → S → Type 0) (set : Set) (l : Limits) (from : Reader Dictionary)
    (rest : List ℕ) (s : S) (n : ℕ) (result : Result Turn FaultCode) (s' : S) (m : Machine) : Type 0 where
  pub some : 0 < n
  pub within : n ≤ length rest
  pub quiet : Quiet (due (tree_in set) l from) (take n rest)
  pub turn : IsTurn takes stops set l (after_bytes (due (tree_in set) l from) (take n rest)) s result s' m
