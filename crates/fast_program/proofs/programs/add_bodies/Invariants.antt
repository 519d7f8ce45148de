use Rattle.std.proofs.Common.{take}
use Rattle.fast_program.specs.device.Programs.{Extends, AreStarts, BeginsNode}
use Rattle.fast_program.proofs.programs.add_bodies.Given as goal

-- where the bodies so far begin
abbrev pub invariant-loop-node : goal.invariant-loop-node
invariant-loop-node l = Extends l.nodes l.fn.ops.items l.ops.items × AreStarts BeginsNode l.ops.items l.starts.items (take l.node-index l.nodes)
