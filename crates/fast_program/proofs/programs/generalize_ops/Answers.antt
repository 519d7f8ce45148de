use Rattle.std.proofs.Common.{add-one}
use Rattle.fast_program.specs.device.Ops.{general_op}
use Rattle.fast_program.proofs.General.{mapped_more}
use Rattle.fast_program.proofs.programs.generalize_ops.Goals as goal

pub loop-op-preserved : goal.loop-op-preserved
loop-op-preserved c = rw (add-one, c.generalized.ensures, c.loop-op.invariant)
    (mapped_more general_op c.args.ops.now c.loop-op.op-index _ c.loop-op-test.true)
