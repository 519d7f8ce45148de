-- A goal that a wrong body would leave: `search` proves it of this one, and a named one says at once what is missing.
use Rattle.std.proofs.Common.{rules}
use Rattle.fast_command.proofs.faults.report.Goals as goal

pub returns-in-Ok-Faulted : goal.returns-in-Ok-Faulted
returns-in-Ok-Faulted g c = search rules
