use Rattle.std.proofs.Common.{◌≡◌, ◌++◌, drop, map}
use Rattle.std.specs.HashMap.{get_by_text}
use Rattle.fast_notation.specs.device.Cycles.{numbers, targets_of}
use Rattle.fast_notation.specs.device.WrittenSets.{written_data}
use Rattle.fast_notation.proofs.cycles.graph_of.Given as goal

abbrev pub invariant-loop-template : goal.invariant-loop-template
invariant-loop-template l =
    map numbers l.graph.items ++ map (targets_of (get_by_text l.names)) (map written_data (drop l.template-index l.templates)) ≡ map
    (targets_of (get_by_text l.names)) (map written_data l.templates)
