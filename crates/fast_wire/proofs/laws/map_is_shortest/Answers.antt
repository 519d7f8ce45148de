use Rattle.fast_wire.proofs.map_bits.Narrow.{map_is_shortest}
use Rattle.fast_wire.proofs.laws.map_is_shortest.Goals as goal

pub returns : goal.returns
returns c = map_is_shortest
