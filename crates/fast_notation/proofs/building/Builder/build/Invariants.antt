use Rattle.std.proofs.Common.{map, take}
use Rattle.fast_notation.specs.device.Built.{AreBuilt}
use Rattle.fast_notation.specs.device.EntryKeys.{entries_of}
use Rattle.fast_tree.specs.meaning.NodeData.{node_data, outline}
use Rattle.fast_notation.specs.device.WrittenSets.{written_data}
use Rattle.fast_notation.proofs.building.Builder.build.Given as goal

abbrev pub invariant-loop-k : goal.invariant-loop-k
invariant-loop-k l = AreBuilt (map written_data l.self.set.now.templates.items) (entries_of l.self.entries.now)
    (map written_data (take l.k l.self.set.now.templates.items)) (map node_data l.nodes.items) (map outline l.templates.items)
