use Rattle.std.proofs.Common.{◌≡◌, take}
use Rattle.fast_wire.proofs.builder.MapBuilder.finish.Given as goal

abbrev pub invariant-loop-byte : goal.invariant-loop-byte
invariant-loop-byte l = l.map.items ≡ take l.byte-index l.byte-items
