use Rattle.fast_messages.proofs.unique.OneReading.{one_reading}
use Rattle.fast_reading.proofs.laws.one_reading.Goals as goal

pub returns : goal.returns
returns c = one_reading
