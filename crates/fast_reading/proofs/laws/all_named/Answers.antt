use Rattle.fast_messages.proofs.names.AllNamed.{all_named}
use Rattle.fast_reading.proofs.laws.all_named.Goals as goal

pub returns : goal.returns
returns c = all_named
