use Rattle.std.proofs.Common.{take, map}
use Rattle.std.specs.Prelude.{All, IsSome}
use Rattle.fast_tree.specs.meaning.AsWritten.{all_references}
use Rattle.fast_tree.specs.device.Places.{place_of_name}
use Rattle.fast_notation.specs.device.WrittenSets.{written_data}
use Rattle.fast_notation.proofs.checks.check_references.Given as goal

abbrev pub invariant-loop-k : goal.invariant-loop-k
invariant-loop-k l = All (λ t. All (λ name. IsSome (place_of_name name (map written_data l.templates)))
    (all_references (written_data t).fields)) (take l.k l.templates)
