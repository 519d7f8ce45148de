use Rattle.fast_wire.proofs.map_bits.Spare.{spare_by_mask}
use Rattle.fast_wire.proofs.maps.map_overlong.Goals as goal

pub returns-then-map-gt1 : goal.returns-then-map-gt1
returns-then-map-gt1 c = spare_by_mask c.args.map.now c.if-map-gt1.true
