-- Presence maps of one byte.
use Rattle.std.proofs.Common.{refl, ap, arith, le-leb}
use Rattle.std.proofs.Math.Nat.{le-max_left}
use Rattle.std.specs.Prelude.{◌≡◌, ℕ, ◌+◌, ◌/◌, ◌≤◌, Bool, true, false, ◌&&◌, not, nat_le, List, [], ◌∷◌, length, take}
use Rattle.fast_wire.specs.meaning.Maps.{bytes_for}
use Rattle.fast_stream.specs.device.GrammarReaders.{spare}

-- One byte has none to spare,
spare_short : (w : List ℕ) → length w ≤ 1 → spare w ≡ false
spare_short [] h = refl
spare_short (a ∷ []) h = refl
spare_short (a ∷ b ∷ w) h = absurd (omega (arith, h))

pub judged_short : (s : Bool) (w : List ℕ) → length w ≤ 1 → (s && spare w) ≡ false
judged_short true w h = spare_short w h
judged_short false w h = refl

-- and is not too wide.
pub fits_short : (s : Bool) (n : ℕ) (w : List ℕ) → length w ≤ 1 → (s && not (nat_le (length w) (bytes_for n))) ≡ false
fits_short true n w h = let some : 1 ≤ bytes_for n = le-max_left 1 ((n + 6) / 7) in ap not (le-leb (length w) (bytes_for n) (omega (arith, h, some)))
fits_short false n w h = refl

pub length_one : (w : List ℕ) → length (take 1 w) ≤ 1
length_one [] = omega arith
length_one (b ∷ w) = omega arith
