-- Before the first step.
use Rattle.std.proofs.Common.{arith}
use Rattle.std.specs.Prelude.{◌≡◌, ℕ, ◌<◌, List, [], ◌∷◌, length, Some}
use Rattle.fast_cursor.specs.device.Segments.{first_node}

-- Where a node is next, something is left.
pub first_some : (ns : List ℕ) (n : ℕ) → first_node ns ≡ Some n → 0 < length ns
first_some [] n e = absurd (cc e)
first_some (k ∷ ns) n e = omega arith
