use Rattle.std.proofs.Common.{map}
use Rattle.fast_notation.specs.device.Extents.{AreExtents}
use Rattle.fast_notation.specs.device.WrittenSets.{written_data}
use Rattle.fast_notation.proofs.chains.extents_of.Given as goal

abbrev pub invariant-loop-round : goal.invariant-loop-round
invariant-loop-round l = AreExtents (map written_data l.templates) l._round l.extents.items
