use Rattle.std.proofs.Common.{sym, ◌∙◌}
use Rattle.std.proofs.lemmas.Bool.{le-ltb}
use Rattle.fast_wire.proofs.map_bits.Bits.{bit-at, bit-past}
use Rattle.fast_wire.proofs.maps.map_bit.Goals as goal

pub returns-then-byte-map-clause-bit : goal.returns-then-byte-map-clause-bit
returns-then-byte-map-clause-bit c = sym (bit-at c.args.map.now c.args.i)

pub returns-else-byte-map-clause-bit : goal.returns-else-byte-map-clause-bit
returns-else-byte-map-clause-bit c = le-ltb _ _ c.if-byte-map.false ∙ sym (bit-past c.args.map.now c.args.i c.if-byte-map.false)
