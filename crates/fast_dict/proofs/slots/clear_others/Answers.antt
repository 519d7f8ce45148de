-- The goals that a wrong body would leave: `grind` proves them of this one, and named ones say at once what is missing.
use Rattle.std.proofs.Common.{arith}
use Rattle.std.proofs.lemmas.Grind.{common_steps}
use Rattle.fast_dict.proofs.slots.clear_others.Goals as goal

pub returns-clause-items : goal.returns-clause-items
returns-clause-items c = grind (arith, common_steps)
