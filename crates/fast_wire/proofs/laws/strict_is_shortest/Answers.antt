use Rattle.fast_wire.proofs.numbers.Spellings.{strict_is_shortest}
use Rattle.fast_wire.proofs.laws.strict_is_shortest.Goals as goal

pub returns : goal.returns
returns c = strict_is_shortest
