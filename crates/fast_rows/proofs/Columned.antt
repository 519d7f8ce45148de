-- The columns of bytes, and of none.
use Rattle.std.proofs.Common.{◌≡◌, ℕ, ◌-◌, ◌*◌, ◌+◌, ◌<◌, List, [], ◌∷◌, ◌++◌, false, refl, length, take, codes, arith}
use Rattle.fast_rows.specs.meaning.Columns.{offset, cells, columns}

-- there are no bytes
pub columns_of_none : (at : ℕ) (bytes : List ℕ) → length bytes ≡ 0 → offset false at ++ codes "                           " ≡ columns at bytes
columns_of_none at [] h = refl
columns_of_none at (c ∷ cs) h = absurd (omega (arith, h))

-- there are some
pub columns_of_some : (at : ℕ) (bytes : List ℕ) → 0 < length bytes
    → cells at bytes ++ take (3 * (8 - length bytes) + 2) (codes "                          ") ≡ columns at bytes
columns_of_some at [] h = absurd (omega (arith, h))
columns_of_some at (c ∷ cs) h = refl
