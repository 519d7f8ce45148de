use Rattle.std.proofs.Common.{◌≡◌, ◌++◌, drop}
use Rattle.std.specs.List.{filter_map}
use Rattle.std.specs.HashMap.{get_by_text}
use Rattle.fast_notation.specs.device.References.{references_in}
use Rattle.fast_notation.proofs.cycles.+targets.Given as goal

abbrev pub invariant-add_targets-loop-field : goal.invariant-add_targets-loop-field
invariant-add_targets-loop-field l =
    l.targets.items ++ filter_map (get_by_text l.names) (references_in (drop l.field-index l.fields)) ≡ l.initial.targets.items
    ++ filter_map (get_by_text l.names) (references_in l.fields)
