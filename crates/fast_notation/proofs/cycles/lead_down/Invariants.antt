use Rattle.std.proofs.Common.{take}
use Rattle.std.specs.Prelude.{All}
use Rattle.fast_notation.specs.device.Cycles.{LeadsDown}
use Rattle.fast_notation.proofs.cycles.lead_down.Given as goal

abbrev pub invariant-loop-target : goal.invariant-loop-target
invariant-loop-target l = All (LeadsDown l.ranks l.is_strict l.rank) (take l.target-index l.targets)
