-- The goal that a wrong body would leave: `search` proves it of this one, and a named one says at once what is missing.
use Rattle.std.proofs.Common.{rules}
use Rattle.fast_wire.proofs.writes.write_unsigned.Goals as goal

pub returns-clause-shortest : goal.returns-clause-shortest
returns-clause-shortest c = search rules
