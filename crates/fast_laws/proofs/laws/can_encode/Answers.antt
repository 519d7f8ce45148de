use Rattle.fast_laws.proofs.settling.Messages.{next_can_encode}
use Rattle.fast_laws.proofs.settling.Sets.{new_can_encode}
use Rattle.fast_laws.proofs.laws.can_encode.Goals as goal

pub returns-clause-new : goal.returns-clause-new
returns-clause-new c = new_can_encode

pub returns-clause-next : goal.returns-clause-next
returns-clause-next c = next_can_encode
