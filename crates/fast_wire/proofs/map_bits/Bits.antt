-- The bits of a map, by their places.
use Rattle.std.proofs.Common.{◌≡◌, Bool, false, ℕ, zero, suc, ◌+◌, ◌*◌, ◌-◌, ◌/◌, ◌%◌, ◌^◌, ◌<◌, ◌≤◌, List, [], ◌∷◌, length, get_or, refl}
use Rattle.std.proofs.Common.{ap, ◌∙◌, sym, arith, lit<}
use Rattle.std.specs.Prelude.{nat_eq}
use Rattle.std.proofs.Math.Nat.{zero-div, mod-lt}
use Rattle.std.proofs.lemmas.List.{get_or_past}
use Rattle.fast_wire.specs.meaning.Maps.{bits}

-- a bit of a byte, as the code tests it
abbrev pub bit_of : ℕ → ℕ → Bool
bit_of byte k = nat_eq ((byte / 2 ^ k) % 2) 1

zero-bit : (k : ℕ) → bit_of 0 k ≡ false
zero-bit k = rw (zero-div (2 ^ k)) refl

bits-at : (w : List ℕ) (q r : ℕ) → r < 7 → get_or (bits w) (7 * q + r) false ≡ bit_of (get_or w q 0) (6 - r)
bits-at [] q r l = sym (zero-bit (6 - r))
bits-at (b ∷ bs) zero zero l = refl
bits-at (b ∷ bs) zero (suc zero) l = refl
bits-at (b ∷ bs) zero (suc (suc zero)) l = refl
bits-at (b ∷ bs) zero (suc (suc (suc zero))) l = refl
bits-at (b ∷ bs) zero (suc (suc (suc (suc zero)))) l = refl
bits-at (b ∷ bs) zero (suc (suc (suc (suc (suc zero))))) l = refl
bits-at (b ∷ bs) zero (suc (suc (suc (suc (suc (suc zero)))))) l = refl
bits-at (b ∷ bs) zero (suc (suc (suc (suc (suc (suc (suc r))))))) l = absurd (omega arith)
bits-at (b ∷ bs) (suc q) r l =
    let seven : 7 * suc q + r ≡ suc (suc (suc (suc (suc (suc (suc (7 * q + r))))))) = omega arith in
    ap (λ (n : ℕ). get_or (bits (b ∷ bs)) n false) seven ∙ bits-at bs q r l

-- the bit at a place
pub bit-at : (w : List ℕ) (i : ℕ) → get_or (bits w) i false ≡ bit_of (get_or w (i / 7) 0) (6 - i % 7)
bit-at w i =
    let e : i ≡ 7 * (i / 7) + i % 7 = omega arith in
    ap (λ (n : ℕ). get_or (bits w) n false) e ∙ bits-at w (i / 7) (i % 7) (mod-lt i (lit< tt))

-- behind the last bit
pub bit-past : (w : List ℕ) (i : ℕ) → length w ≤ i / 7 → get_or (bits w) i false ≡ false
bit-past w i l = bit-at w i ∙ ap (λ (b : ℕ). bit_of b (6 - i % 7)) (get_or_past w (i / 7) 0 l) ∙ zero-bit (6 - i % 7)
