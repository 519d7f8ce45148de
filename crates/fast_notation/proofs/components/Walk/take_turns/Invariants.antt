use Rattle.std.proofs.Common.{◌≡◌}
use Rattle.fast_notation.proofs.components.Walk.take_turns.Given as goal

abbrev pub invariant-loop : goal.invariant-loop
invariant-loop l = l.self.graph ≡ l.initial.self.graph
