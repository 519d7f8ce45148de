-- The goals that a wrong body would leave: `grind` proves them of this one, and named ones say at once what is missing.
use Rattle.std.proofs.Common.{arith}
use Rattle.std.proofs.lemmas.Grind.{common_steps}
use Rattle.fast_dict.proofs.rule.items.tail_of.Goals as goal

pub returns-clause-some : goal.returns-clause-some
returns-clause-some c = grind (arith, common_steps)
