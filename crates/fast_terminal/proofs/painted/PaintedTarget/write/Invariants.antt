use Rattle.std.proofs.Common.{◌≡◌, length}
use Rattle.fast_terminal.proofs.painted.PaintedTarget.write.Given as goal

abbrev pub invariant-loop-byte : goal.invariant-loop-byte
invariant-loop-byte g l = g.T.Target.has_failed l.self.inner ≡ g.T.Target.has_failed l.fn.self.inner

abbrev pub decreases-loop-byte : goal.decreases-loop-byte
decreases-loop-byte g l = length l.rest
