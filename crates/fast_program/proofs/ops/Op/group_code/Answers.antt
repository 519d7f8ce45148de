use Rattle.std.proofs.Common.{refl}
use Rattle.fast_program.specs.device.Codes.{IsCoded}
use Rattle.fast_program.proofs.ops.Op.group_code.Goals as goal

pub returns-then-optional : goal.returns-then-optional
unfolding IsCoded
returns-then-optional c entry body = rw c.if-optional.true (body, refl)

pub returns-else-optional : goal.returns-else-optional
unfolding IsCoded
returns-else-optional c entry body = rw c.if-optional.false (body, refl)
