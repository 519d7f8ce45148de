-- The bits of a map, one after the other.
use Rattle.std.proofs.Common.{refl, arith}
use Rattle.std.specs.Prelude.{◌≡◌, ℕ, zero, suc, ◌*◌, Bool, List, [], ◌∷◌, length, drop}
use Rattle.fast_wire.specs.meaning.Maps.{bits, later_bits}

-- seven of each byte
pub length-bits : (w : List ℕ) → length (bits w) ≡ 7 * length w
length-bits [] = refl
length-bits (b ∷ bs) = let e = length-bits bs in omega (arith, e)

pub later-drop : (bs : List Bool) (n : ℕ) → later_bits (drop n bs) ≡ drop (suc n) bs
later-drop [] zero = refl
later-drop [] (suc n) = refl
later-drop (b ∷ bs) zero = refl
later-drop (b ∷ bs) (suc n) = later-drop bs n
