-- The part of a stream that a decoder waits for, by its fault.
use Rattle.std.specs.Prelude.{Option, Some, None}
use Rattle.fast_stream.specs.declared.faults.Fault.{Fault}
use Rattle.fast_machine.specs.declared.in_hand.Due.{Due}
use Rattle.fast_machine.specs.declared.machine.Machine.{Machine}
use Rattle.fast_decoder.specs.meaning.Decoding.{DecoderData}
use Rattle.fast_machine.specs.device.AtHand.{stopped_at, awaited}

-- the part that a machine waits for, or at which it has stopped if there is a fault
abbrev pub in_hand_at : Option Fault → Machine → Due
in_hand_at None m = awaited m
in_hand_at (Some f) m = stopped_at m

-- the part that a decoder waits for, or at which it has stopped
abbrev pub in_hand : DecoderData → Due
in_hand d = in_hand_at d.fault d.machine
