use Rattle.std.proofs.Common.{take}
use Rattle.fast_program.specs.device.Starts.{IsStartOf, AreInOrder}
use Rattle.fast_program.specs.device.Programs.{Extends, AreStarts}
use Rattle.fast_program.proofs.programs.add_templates.Given as goal

-- where the bodies so far begin
abbrev pub invariant-loop-number : goal.invariant-loop-number
invariant-loop-number l = Extends l.nodes l.fn.ops.items l.ops.items
    × AreStarts IsStartOf l.ops.items l.starts.items (take l.number l.templates) × AreInOrder l.starts.items
