use Rattle.fast_messages.proofs.readings.Back.{lines_closed}
use Rattle.fast_reading.proofs.laws.lines_are_closed.Goals as goal

pub returns : goal.returns
returns c = lines_closed
