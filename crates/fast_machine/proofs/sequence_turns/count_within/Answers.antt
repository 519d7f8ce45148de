-- A goal that a wrong body would leave: `search` proves it of this one, and a named one says at once what is missing.
use Rattle.std.proofs.Common.{rules}
use Rattle.fast_machine.proofs.sequence_turns.count_within.Goals as goal

pub returns-then-claimed-from-clause-count : goal.returns-then-claimed-from-clause-count
returns-then-claimed-from-clause-count c = search rules
