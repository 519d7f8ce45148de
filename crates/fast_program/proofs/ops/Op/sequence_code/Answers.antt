use Rattle.std.proofs.Common.{refl}
use Rattle.fast_program.specs.device.Codes.{IsCoded}
use Rattle.fast_program.proofs.ops.Op.sequence_code.Goals as goal

pub returns-in-None-true : goal.returns-in-None-true
unfolding IsCoded
returns-in-None-true c entry body = (c.args.length.now, body, refl, c.in-None-true.is-0, c.in-None-true.is-1)

pub returns-in-None-false : goal.returns-in-None-false
unfolding IsCoded
returns-in-None-false c entry body = (c.args.length.now, body, refl, c.in-None-false.is-0, c.in-None-false.is-1)
