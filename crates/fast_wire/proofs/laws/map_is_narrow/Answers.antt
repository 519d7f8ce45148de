use Rattle.fast_wire.proofs.map_bits.Narrow.{map_is_narrow}
use Rattle.fast_wire.proofs.laws.map_is_narrow.Goals as goal

pub returns : goal.returns
returns c = map_is_narrow
