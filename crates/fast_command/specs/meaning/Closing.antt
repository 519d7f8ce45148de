-- The line that closes what is shown of a stream.
use Rattle.std.specs.Prelude.{ℕ, List, [], ◌∷◌, ◌++◌, length, codes, decimal}
use Rattle.fast_stream.specs.declared.faults.FaultCode.{FaultCode}
use Rattle.fast_stream.specs.declared.faults.FaultCode.TheVariants.{Stream}
use Rattle.fast_stream.specs.meaning.FaultCodes.{code_text}
use Rattle.fast_stream.specs.meaning.Streams.{End, between, inside, faulted}

-- the line of a fault
abbrev pub fault_line : FaultCode → ℕ → List ℕ
fault_line code place = codes "fault " ++ code_text code ++ codes " at " ++ decimal place ++ 0x0A ∷ []

-- the line of a stream that ends inside a message, behind so many bytes
abbrev pub truncated_line : ℕ → List ℕ
truncated_line n = codes "truncated at " ++ decimal n ++ 0x0A ∷ []

-- The line behind the events of a stream of these bytes, if there is one.
abbrev pub closing : List ℕ → End → List ℕ
closing b between = []
closing b inside = truncated_line (length b)
closing b (faulted c place) = fault_line (Stream c) place
