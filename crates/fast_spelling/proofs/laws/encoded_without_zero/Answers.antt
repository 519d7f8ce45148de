use Rattle.fast_spelling.proofs.again.MessagesAgain.{encoded_without_zero}
use Rattle.fast_spelling.proofs.laws.encoded_without_zero.Goals as goal

pub returns : goal.returns
returns c = encoded_without_zero
