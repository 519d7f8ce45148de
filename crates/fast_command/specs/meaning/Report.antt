-- The status of the program.
use Rattle.std.specs.Prelude.{ℕ, Result, Ok, Err}
use Rattle.fast_notation.specs.declared.codes.StaticCode.{StaticCode}
use Rattle.fast_notation.specs.declared.codes.StaticFault.{StaticFault}
use Rattle.fast_notation.specs.declared.codes.StaticCode.TheVariants.{Memory as NoMemory}
use Rattle.fast_command.specs.declared.faults.ShowEnd.{ShowEnd}
use Rattle.fast_command.specs.declared.faults.ShowEnd.TheVariants.{Good, Faulted, Truncated}
use Rattle.fast_command.specs.declared.faults.RunFault.{RunFault}
use Rattle.fast_command.specs.declared.faults.RunFault.TheVariants.{Read, Write, BadHex, Templates, Make, Text, Encode, Memory}

-- what a run answers where a template text is refused with this code
abbrev pub refused_by : StaticCode → StaticFault → RunFault
refused_by NoMemory f = Memory
refused_by code f = Templates f

-- what a run answers where a template text is refused
abbrev pub refused : StaticFault → RunFault
refused f = refused_by f.code f

-- the status that says how a run has ended
abbrev pub status_of : Result ShowEnd RunFault → ℕ
status_of (Ok Good) = 0
status_of (Ok (Faulted f)) = 1
status_of (Ok (Truncated n)) = 1
status_of (Err (Text line kind)) = 1
status_of (Err (Encode message fault)) = 1
status_of (Err (Templates fault)) = 2
status_of (Err (Make cause)) = 2
status_of (Err Read) = 3
status_of (Err Write) = 3
status_of (Err (BadHex place)) = 3
status_of (Err Memory) = 3
