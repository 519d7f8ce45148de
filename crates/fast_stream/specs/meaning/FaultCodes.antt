-- The numbers and the names of the reasons why a decoder stops, and the numbers of those why none is made.
use Rattle.std.specs.Prelude.{ℕ, List, codes}
use Rattle.fast_value.specs.meaning.Codes.{stream_code_number, stream_code_text}
use Rattle.fast_stream.specs.declared.faults.FaultCode.{FaultCode}
use Rattle.fast_stream.specs.declared.faults.FaultCode.TheVariants.{Stream, L4, SinkStopped}
use Rattle.fast_stream.specs.declared.faults.MakeError.{MakeError}
use Rattle.fast_stream.specs.declared.faults.MakeError.TheVariants.{BadLimits, InitialTooLong, Memory}

-- the number of a code
abbrev pub code_number : FaultCode → ℕ
code_number (Stream c) = stream_code_number c
code_number L4 = 16
code_number SinkStopped = 17

-- the name of a code
abbrev pub code_text : FaultCode → List ℕ
code_text (Stream c) = stream_code_text c
code_text L4 = codes "L4"
code_text SinkStopped = codes "SinkStopped"

-- The number of a reason why no decoder is made. 3 is free.
abbrev pub cause_number : MakeError → ℕ
cause_number BadLimits = 1
cause_number InitialTooLong = 2
cause_number Memory = 4
