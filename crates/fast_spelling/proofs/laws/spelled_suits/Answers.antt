use Rattle.fast_spelling.proofs.again.MessagesAgain.{spelled_suits}
use Rattle.fast_spelling.proofs.laws.spelled_suits.Goals as goal

pub returns : goal.returns
returns c = spelled_suits
