use Rattle.fast_messages.proofs.values.Shown.{values_are_shown}
use Rattle.fast_reading.proofs.laws.values_are_shown.Goals as goal

pub returns : goal.returns
returns c = values_are_shown
