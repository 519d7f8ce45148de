use Rattle.fast_wire.proofs.map_bits.Building.{built_blank}
use Rattle.fast_wire.proofs.builder.MapBuilder.new.Goals as goal

pub invariant_of-result : goal.invariant_of-result
invariant_of-result c = built_blank
