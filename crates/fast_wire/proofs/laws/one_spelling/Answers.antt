use Rattle.fast_wire.proofs.numbers.Spellings.{one_spelling}
use Rattle.fast_wire.proofs.laws.one_spelling.Goals as goal

pub returns : goal.returns
returns c = one_spelling
