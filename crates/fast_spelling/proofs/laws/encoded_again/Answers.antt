use Rattle.fast_spelling.proofs.again.MessagesAgain.{encoded_again}
use Rattle.fast_spelling.proofs.laws.encoded_again.Goals as goal

pub returns : goal.returns
returns c = encoded_again
