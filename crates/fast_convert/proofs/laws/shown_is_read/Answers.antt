use Rattle.fast_convert.proofs.ReadAgain.{shown_is_read}
use Rattle.fast_convert.proofs.laws.shown_is_read.Goals as goal

pub returns : goal.returns
returns c = shown_is_read
