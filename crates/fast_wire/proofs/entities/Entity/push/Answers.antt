-- The goal that a wrong body would leave: `search` proves it of this one, and a named one says at once what is missing.
use Rattle.std.proofs.Common.{rules}
use Rattle.fast_wire.proofs.entities.Entity.push.Goals as goal

pub returns-clause-too_long : goal.returns-clause-too_long
returns-clause-too_long c = search rules
