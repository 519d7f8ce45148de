use Rattle.std.proofs.Common.{◌≡◌, List, ◌++◌, take}
use Rattle.fast_program.specs.declared.ops.Op.{Op}
use Rattle.fast_program.specs.device.Runs.{AreNumbered}
use Rattle.fast_program.specs.device.Programs.{SuitNodes}
use Rattle.fast_program.proofs.Runs.{AreOps}
use Rattle.fast_program.proofs.programs.add_body.Given as goal

-- the ops so far, behind those that were there
abbrev pub invariant-loop-number : goal.invariant-loop-number
invariant-loop-number l =
    (run : List Op) × (l.ops.items ≡ l.fn.ops.items ++ run) × AreOps run (take l.number-index l.body)
    × (SuitNodes l.fn.ops.items l.nodes → SuitNodes l.ops.items l.nodes) × (AreNumbered l.fn.ops.items → AreNumbered l.ops.items)
