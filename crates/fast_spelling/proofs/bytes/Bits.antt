-- Bits of a map in the making.
use Rattle.std.proofs.Common.{◌≡◌, ℕ, suc, ◌*◌, ◌≤◌, List, [], ◌∷◌, length, refl, ap, sym, ◌∙◌, arith}
use Rattle.std.specs.Prelude.{zero, Bool, true, false, slice_index_or, replicate}
use Rattle.std.proofs.lemmas.List.{length-append, get_or_past}
use Rattle.fast_wire.specs.meaning.Maps.{seven_bits, bits, IsMap}
use Rattle.fast_spelling.specs.meaning.Encoding.{SameBits, ShortestMap}

-- bits of which none is set
pub blank : (n k : ℕ) → slice_index_or (replicate n false) k false ≡ false
blank zero k = refl
blank (suc n) zero = refl
blank (suc n) (suc k) = blank n k

pub blank_length : (n : ℕ) → length (replicate n false) ≡ n
blank_length zero = refl
blank_length (suc n) = ap suc (blank_length n)

-- seven bits a byte
pub length_bits : (w : List ℕ) → length (bits w) ≡ 7 * length w
length_bits [] = refl
length_bits (b ∷ w) = length-append (seven_bits b) (bits w) ∙ omega (arith, length_bits w)

-- A set bit behind those that a map can have is in no map.
pub wide : (b : List Bool) (i : ℕ) → slice_index_or b i false ≡ true → 1022 ≤ i → (m : List ℕ) → IsMap true m → ¬ (SameBits (bits m) b)
wide b i set far m form same =
    let none : slice_index_or (bits m) i false ≡ false = get_or_past (bits m) i false (omega (arith, length_bits m, form.short, far)) in
    let clash : false ≡ true = sym none ∙ same i ∙ set in
    absurd (cc)

-- the map of a segment that has none
pub closes_without : (h : Bool) (b : List Bool) → h ≡ false → ShortestMap h b []
closes_without true b e = absurd (cc e)
closes_without false b e = refl
