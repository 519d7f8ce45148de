use Rattle.fast_laws.proofs.messages.Counting.{total_is_counted}
use Rattle.fast_laws.proofs.laws.total_is_counted.Goals as goal

pub returns : goal.returns
returns c = total_is_counted
