-- The ops so far are general.
use Rattle.std.proofs.Common.{◌≡◌, ◌++◌, map, take, drop}
use Rattle.fast_program.specs.device.Ops.{general_op}
use Rattle.fast_program.proofs.programs.generalize_ops.Given as goal

abbrev pub invariant-loop-op : goal.invariant-loop-op
invariant-loop-op l = l.ops ≡ map general_op (take l.op-index l.initial.ops) ++ drop l.op-index l.initial.ops
