-- The start of a segment: with its map, if its instructions use any bits.
use Rattle.std.specs.Prelude.{ℕ, zero, suc, Result, Ok, Err}
use Rattle.fast_stream.specs.declared.faults.FaultCode.{FaultCode}
use Rattle.fast_machine.specs.declared.machine.Machine.{Machine}
use Rattle.fast_machine.specs.declared.machine.Turn.{Turn}
use Rattle.fast_machine.specs.declared.machine.Turn.TheVariants.{Handed, Waits}
use Rattle.fast_machine.specs.declared.machine.Waiting.TheVariants.{SegmentMap}

-- the end of a turn in which a segment begins whose instructions use this number of bits
abbrev pub opened_turn : ℕ → Turn
opened_turn zero = Handed
opened_turn (suc n) = Waits

-- the machine after it: it waits for the map, if there is one
abbrev pub awaiting : ℕ → Machine → Machine
awaiting zero m = m
awaiting (suc n) m = record m { waiting = SegmentMap (suc n) }

-- the end of such a turn, or the fault if the sink stopped
abbrev pub opened_result : Result ℕ FaultCode → Result Turn FaultCode
opened_result (Ok n) = Ok (opened_turn n)
opened_result (Err c) = Err c

abbrev pub opened_by : Result ℕ FaultCode → Machine → Machine
opened_by (Ok n) m = awaiting n m
opened_by (Err c) m = m
