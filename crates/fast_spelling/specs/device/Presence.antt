-- The presence bits of a segment as a number.
use Rattle.std.specs.Prelude.{ℕ, zero, suc, ◌-◌, ◌/◌, ◌%◌, nat_eq, Bool, List, [], ◌∷◌, ◌++◌}
use Rattle.std.specs.Int.Count.{count_leading_zeros}

-- the lower n bits of a number, the most significant first
unfoldable pub low_bits : ℕ → ℕ → List Bool
low_bits zero x = []
low_bits (suc n) x = low_bits n (x / 2) ++ nat_eq (x % 2) 1 ∷ []

-- the bits of a word of 64 bits after its most significant one
abbrev pub bits_after : ℕ → List Bool
bits_after word = low_bits (63 - count_leading_zeros 64 word) word
