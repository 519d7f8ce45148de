use Rattle.fast_encoder.proofs.Able.{new, reset, next}
use Rattle.fast_encoder.proofs.laws.stays_able.Goals as goal

pub returns-clause-new : goal.returns-clause-new
returns-clause-new c = new

pub returns-clause-reset : goal.returns-clause-reset
returns-clause-reset c = reset

pub returns-clause-next : goal.returns-clause-next
returns-clause-next c = next
