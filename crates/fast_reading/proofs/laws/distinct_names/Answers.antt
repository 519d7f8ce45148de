use Rattle.fast_messages.proofs.names.SetNames.{distinct_names}
use Rattle.fast_reading.proofs.laws.distinct_names.Goals as goal

pub returns : goal.returns
returns c = distinct_names
