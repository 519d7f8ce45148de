use Rattle.fast_messages.proofs.readings.Back.{read_back}
use Rattle.fast_reading.proofs.laws.lines_are_read_back.Goals as goal

pub returns : goal.returns
returns c = read_back
