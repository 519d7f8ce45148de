use Rattle.fast_messages.proofs.readings.ReadAgain.{shown_lines_are_read}
use Rattle.fast_reading.proofs.laws.shown_lines_are_read.Goals as goal

pub returns : goal.returns
returns c = shown_lines_are_read
