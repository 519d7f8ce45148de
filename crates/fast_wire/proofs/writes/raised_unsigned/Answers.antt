-- The goal that a wrong body would leave: `search` proves it of this one, and a named one says at once what is missing.
use Rattle.std.proofs.Common.{rules}
use Rattle.fast_wire.proofs.writes.raised_unsigned.Goals as goal

pub returns-in-Some-clause-meaning : goal.returns-in-Some-clause-meaning
returns-in-Some-clause-meaning c = search rules
