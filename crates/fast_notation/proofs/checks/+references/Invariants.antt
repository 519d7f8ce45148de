use Rattle.std.proofs.Common.{◌≡◌, drop}
use Rattle.std.specs.Prelude.{is_some}
use Rattle.std.specs.List.{list_all}
use Rattle.std.specs.HashMap.{get_by_text}
use Rattle.fast_notation.specs.device.References.{references_in}
use Rattle.fast_notation.proofs.checks.+references.Given as goal

abbrev pub invariant-are_known-loop-field : goal.invariant-are_known-loop-field
invariant-are_known-loop-field l = list_all (λ q. is_some (get_by_text l.names q)) (references_in (drop l.field-index l.fields)) ≡ list_all
    (λ q. is_some (get_by_text l.names q)) (references_in l.fields)
