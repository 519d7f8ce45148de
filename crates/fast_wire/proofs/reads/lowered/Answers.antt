-- The goal that a wrong body would leave: `search` proves it of this one, and a named one says at once what is missing.
use Rattle.std.proofs.Common.{rules}
use Rattle.fast_wire.proofs.reads.lowered.Goals as goal

pub returns-in-1-to-170141183460469231731687303715884105727 : goal.returns-in-1-to-170141183460469231731687303715884105727
returns-in-1-to-170141183460469231731687303715884105727 c = search rules
