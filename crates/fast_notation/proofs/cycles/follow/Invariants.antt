use Rattle.std.proofs.Common.{◌≡◌, length}
use Rattle.std.specs.Prelude.{All}
use Rattle.fast_notation.specs.device.Cycles.{IsReached}
use Rattle.fast_notation.proofs.cycles.follow.Given as goal

abbrev pub invariant-loop-target : goal.invariant-loop-target
invariant-loop-target l = record { met : length l.met ≡ length l.graph; reached : All (IsReached l.graph l.start) l.ahead.items }
