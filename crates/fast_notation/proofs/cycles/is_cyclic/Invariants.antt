use Rattle.std.proofs.Common.{◌≡◌, length}
use Rattle.std.specs.Prelude.{All, vec_len}
use Rattle.fast_notation.specs.device.Cycles.{IsReached}
use Rattle.fast_notation.proofs.cycles.is_cyclic.Given as goal

abbrev pub invariant-loop-turn : goal.invariant-loop-turn
invariant-loop-turn l = record { met : vec_len l.met ≡ length l.graph; reached : All (IsReached l.graph l.start) l.ahead.items }
