use Rattle.fast_laws.proofs.nodes.Granting.{set_is_granted}
use Rattle.fast_laws.proofs.laws.set_is_granted.Goals as goal

pub returns : goal.returns
returns c = set_is_granted
