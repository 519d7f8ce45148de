-- Elements replaced by one and the same, in order.
use Rattle.std.proofs.Common.{◌≡◌, ℕ, ◌<◌, List, [], ◌∷◌, ◌++◌, length, drop, refl, ap, arith}
use Rattle.std.specs.Prelude.{zero, suc, replicate, slice_set}

-- one element more
pub cleared_more : {X : Type 0} (u : X) (xs : List X) (i : ℕ) → i < length xs
    → slice_set (replicate i u ++ drop i xs) i u ≡ replicate (suc i) u ++ drop (suc i) xs
cleared_more u [] i h = absurd (omega arith)
cleared_more u (x ∷ xs) zero h = refl
cleared_more u (x ∷ xs) (suc i) h = ap (λ ys. u ∷ ys) (cleared_more u xs i (omega arith))
