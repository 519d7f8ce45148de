use Rattle.std.proofs.Common.{arith}
use Rattle.std.proofs.lemmas.Grind.{common_steps}
use Rattle.fast_command.proofs.unhexer.Unhexer.take.Goals as goal

pub loop-character-preserved : goal.loop-character-preserved
loop-character-preserved c = grind (arith, common_steps)
