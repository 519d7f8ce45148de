use Rattle.fast_spelling.proofs.again.Examples.{delta_example, tail_example}
use Rattle.fast_spelling.proofs.laws.read_but_refused.Goals as goal

pub returns : goal.returns
returns c = (delta_example, tail_example)
