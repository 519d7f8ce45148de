-- Numbers of 32 and of 64 bits that stop at the greatest.
use Rattle.std.specs.Prelude.{ℕ, min}

-- the number, or the greatest of 32 bits
abbrev pub in_32_bits : ℕ → ℕ
in_32_bits n = min n 4294967295

-- the number, or the greatest of 64 bits
abbrev pub in_64_bits : ℕ → ℕ
in_64_bits n = min n 18446744073709551615
