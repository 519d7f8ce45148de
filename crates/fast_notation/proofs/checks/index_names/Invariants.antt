use Rattle.std.proofs.Common.{◌≡◌, ◌≢◌, ℕ, List, take, map}
use Rattle.std.specs.Prelude.{AllPairs}
use Rattle.std.specs.HashMap.{get_by_text}
use Rattle.fast_tree.specs.device.Places.{place_of_name}
use Rattle.fast_notation.specs.device.WrittenSets.{written_data}
use Rattle.fast_notation.proofs.checks.index_names.Given as goal

abbrev pub invariant-loop-k : goal.invariant-loop-k
invariant-loop-k l = record {
  index : (q : List ℕ) → get_by_text l.names q ≡ place_of_name q (map written_data (take l.k l.templates));
  names : AllPairs (λ a b. a.name ≢ b.name) (map written_data (take l.k l.templates));
}
