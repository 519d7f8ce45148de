-- Integers of 32 bits as those of 128 bits.
use Rattle.std.proofs.Common.{◌≡◌, arith, ℤ, pos, negsuc}
use Rattle.std.specs.Prelude.{◌≤ℤ◌}
use Rattle.std.proofs.lemmas.Int.{ints, to_z-of_z}
use mir.Syntax.{w32, w128}
use mir.Val.{SFits, to_z, of_z}
use Rattle.fast_wire.specs.meaning.Integers.{IsWithin, signed_range, unsigned_range}

length_fits : (z : ℤ) → IsWithin (signed_range 31) z → SFits w128 z
length_fits (pos n) h = record { sfits = let k : pos n ≤ℤ pos 2147483647 = h.1 in omega (arith, ints, k) }
length_fits (negsuc n) h = record { sfits = let k : negsuc 2147483647 ≤ℤ negsuc n = h.0 in omega (arith, ints, k) }

size_fits : (z : ℤ) → IsWithin (unsigned_range 32) z → SFits w128 z
size_fits (pos n) h = record { sfits = let k : pos n ≤ℤ pos 4294967295 = h.1 in omega (arith, ints, k) }
size_fits (negsuc n) h = let k : pos 0 ≤ℤ negsuc n = h.0 in absurd (omega (arith, ints, k))

-- A subtraction length, and a size, read as they are.
pub length_again : (z : ℤ) → IsWithin (signed_range 31) z → to_z w128 (of_z w128 z) ≡ z
length_again z h = to_z-of_z w128 z (length_fits z h)

pub size_again : (z : ℤ) → IsWithin (unsigned_range 32) z → to_z w128 (of_z w128 z) ≡ z
size_again z h = to_z-of_z w128 z (size_fits z h)

pub length_narrow : (z : ℤ) → IsWithin (signed_range 31) z → to_z w32 (of_z w32 z) ≡ z
length_narrow (pos n) h = to_z-of_z w32 (pos n) (record { sfits = let k : pos n ≤ℤ pos 2147483647 = h.1 in omega (arith, ints, k) })
length_narrow (negsuc n) h = to_z-of_z w32 (negsuc n) (record { sfits = let k : negsuc 2147483647 ≤ℤ negsuc n = h.0 in omega (arith, ints, k) })
