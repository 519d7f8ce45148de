-- An overlong entity is refused.
use Rattle.std.proofs.Common.{refl}
use Rattle.fast_wire.proofs.reads.judge_nullable_signed.Goals as goal

pub returns-then-is_refused_signed-clause-overlong : goal.returns-then-is_refused_signed-clause-overlong
returns-then-is_refused_signed-clause-overlong c = (λ _. c.if-is_refused_signed.ensures.0 refl, λ _. refl)
