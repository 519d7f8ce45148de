use Rattle.fast_spelling.proofs.again.MessagesAgain.{all_encoded_again}
use Rattle.fast_spelling.proofs.laws.all_encoded_again.Goals as goal

pub returns : goal.returns
returns c = all_encoded_again
