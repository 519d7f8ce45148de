use Rattle.std.proofs.Common.{◌≡◌, ◌≢◌, ℕ, Some, take, map}
use Rattle.std.specs.Prelude.{AllPairs, nat_eq}
use Rattle.std.specs.HashMap.{get}
use Rattle.fast_tree.specs.device.Places.{place_of_id}
use Rattle.fast_notation.specs.device.WrittenSets.{written_data}
use Rattle.fast_notation.proofs.checks.index_ids.Given as goal

abbrev pub invariant-loop-k : goal.invariant-loop-k
invariant-loop-k l = record {
  index : (q : ℕ) → get nat_eq l.ids q ≡ place_of_id q (map written_data (take l.k l.templates));
  ids : AllPairs (λ a b. (id : ℕ) → a.id ≡ Some id → b.id ≢ Some id) (map written_data (take l.k l.templates));
}
