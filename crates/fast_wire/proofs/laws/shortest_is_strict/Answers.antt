use Rattle.fast_wire.proofs.numbers.Spellings.{shortest_is_strict}
use Rattle.fast_wire.proofs.laws.shortest_is_strict.Goals as goal

pub returns : goal.returns
returns c = shortest_is_strict
