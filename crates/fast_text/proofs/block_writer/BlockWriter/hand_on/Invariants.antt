use Rattle.std.proofs.Common.{◌-◌, ◌≡◌, []}
use Rattle.fast_text.specs.meaning.Streams.{Appends}
use Rattle.fast_text.specs.meaning.BlockWriter.{target_of, with_kept}
use Rattle.fast_text.proofs.block_writer.BlockWriter.hand_on.Given as goal

abbrev pub invariant-loop-self : goal.invariant-loop-self
invariant-loop-self g l = Appends (with_kept g.T.Target.written l.fn.self) (with_kept g.T.Target.written l.self) []
    × (g.T.Target.has_failed (target_of l.self) ≡ g.T.Target.has_failed (target_of l.fn.self))

abbrev pub decreases-loop-self : goal.decreases-loop-self
decreases-loop-self g l = l.self.end - l.self.start
