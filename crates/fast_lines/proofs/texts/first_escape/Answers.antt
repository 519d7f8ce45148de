use Rattle.std.proofs.lemmas.Grind.{common_steps}
use Rattle.std.proofs.Common.{arith}
use Rattle.fast_lines.proofs.texts.first_escape.Goals as goal

pub returns-then-is_marked-clause-first : goal.returns-then-is_marked-clause-first
returns-then-is_marked-clause-first c = grind (arith, common_steps)

pub returns-then-first-eq120-clause-first : goal.returns-then-first-eq120-clause-first
returns-then-first-eq120-clause-first c = grind (arith, common_steps)

pub returns-then-first-eq120-clause-none : goal.returns-then-first-eq120-clause-none
returns-then-first-eq120-clause-none c = grind (arith, common_steps)
