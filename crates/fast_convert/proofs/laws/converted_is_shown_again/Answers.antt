use Rattle.fast_convert.proofs.ShownAgain.{is_back}
use Rattle.fast_convert.proofs.laws.converted_is_shown_again.Goals as goal

pub returns : goal.returns
returns c = is_back
