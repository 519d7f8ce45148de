use Rattle.std.proofs.Common.{◌≡◌, ◌+◌, take}
use Rattle.std.specs.Prelude.{sum_by}
use Rattle.fast_notation.specs.device.Extents.{known_nodes}
use Rattle.fast_tree.specs.meaning.Sizes.{node_limit}
use Rattle.fast_notation.proofs.chains.check_nodes.Given as goal

abbrev pub invariant-loop-k : goal.invariant-loop-k
invariant-loop-k l = l.room + sum_by known_nodes (take l.k l.extents) ≡ node_limit
