use Rattle.std.proofs.Common.{take}
use Rattle.std.specs.Prelude.{All}
use Rattle.fast_notation.specs.device.Extents.{IsShallow}
use Rattle.fast_notation.proofs.chains.check_depths.Given as goal

abbrev pub invariant-loop-k : goal.invariant-loop-k
invariant-loop-k l = All IsShallow (take l.k l.extents)
