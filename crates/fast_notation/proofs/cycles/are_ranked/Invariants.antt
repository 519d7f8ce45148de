use Rattle.std.proofs.Common.{◌≡◌, ◌<◌, ℕ, slice_get, Some}
use Rattle.std.specs.Prelude.{nat_lt}
use Rattle.fast_notation.specs.device.Cycles.{Refers, LeadsDown}
use Rattle.fast_notation.proofs.cycles.are_ranked.Given as goal

abbrev pub invariant-loop-k : goal.invariant-loop-k
invariant-loop-k l = (a b : ℕ) → a < l.k → Refers l.graph a b → (r : ℕ) × (slice_get l.ranks a ≡ Some r) × LeadsDown l.ranks (nat_lt a l.first) r b
