use Rattle.std.proofs.Common.{◌≡◌, ◌++◌, drop, map}
use Rattle.std.specs.HashMap.{get_by_text}
use Rattle.fast_notation.specs.device.Extents.{named_extent, next_extents}
use Rattle.fast_notation.specs.device.WrittenSets.{written_data}
use Rattle.fast_notation.proofs.chains.next_extents.Given as goal

abbrev pub invariant-loop-k : goal.invariant-loop-k
invariant-loop-k l =
    l.next.items ++ next_extents (named_extent (get_by_text l.names) l.extents) (drop l.k l.extents) (map written_data (drop l.k l.templates))
    ≡ next_extents (named_extent (get_by_text l.names) l.extents) l.extents (map written_data l.templates)
