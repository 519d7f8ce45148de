use Rattle.fast_spelling.proofs.again.GrantedSets.{read_is_granted}
use Rattle.fast_spelling.proofs.laws.read_is_granted.Goals as goal

pub returns : goal.returns
returns c = read_is_granted
