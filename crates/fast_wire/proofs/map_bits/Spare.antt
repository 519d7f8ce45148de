-- A spare byte at the end of a map.
use Rattle.std.proofs.Common.{◌≡◌, ℕ, suc, ◌-◌, ◌<◌, List, [], ◌∷◌, ◌++◌, length, get_or, refl, ap, ◌∙◌, sym, arith, length-append, eqb}
use Rattle.std.specs.Prelude.{◌↔◌, bit_and, true}
use Rattle.std.proofs.lemmas.Nat.{and_mask}
use Rattle.std.proofs.lemmas.Bool.Decides.{Decides-eqb}
use Rattle.fast_wire.specs.meaning.Maps.{HasSpareByte}

last_behind : (x : ℕ) (w : List ℕ) → 0 < length w → get_or (x ∷ w) (length (x ∷ w) - 1) 0 ≡ get_or w (length w - 1) 0
last_behind x w l =
    let e : length (x ∷ w) - 1 ≡ suc (length w - 1) = omega arith in
    ap (λ (n : ℕ). get_or (x ∷ w) n 0) e

-- two bytes or more, of which the last is told apart
pub last_split : (w : List ℕ) → 1 < length w → (front : List ℕ) × (byte : ℕ) × (w ≡ front ++ byte ∷ get_or w (length w - 1) 0 ∷ [])
last_split [] l = absurd (omega arith)
last_split (x ∷ []) l = absurd (omega arith)
last_split (x ∷ y ∷ []) l = ([], x, refl)
last_split (x ∷ y ∷ z ∷ w) l =
    let s = last_split (y ∷ z ∷ w) (omega arith) in
    (x ∷ s.0, s.1, ap (λ r. x ∷ r) s.2 ∙ ap (λ (n : ℕ). x ∷ s.0 ++ s.1 ∷ n ∷ []) (sym (last_behind x (y ∷ z ∷ w) (omega arith))))

pub last_of : (front : List ℕ) (byte last : ℕ) → get_or (front ++ byte ∷ last ∷ []) (length (front ++ byte ∷ last ∷ []) - 1) 0 ≡ last
last_of [] byte last = refl
last_of (x ∷ front) byte last = last_behind x (front ++ byte ∷ last ∷ []) (omega (arith, length-append front (byte ∷ last ∷ []))) ∙ last_of front byte last

-- whether the last byte is spare, by its lower seven bits
pub spare_by_mask : (w : List ℕ) → 1 < length w → (eqb (bit_and (get_or w (length w - 1) 0) 127) 0 ≡ true) ↔ HasSpareByte w
spare_by_mask w l = (
  λ t. let s = last_split w l in (
    s.0,
    s.1,
    get_or w (length w - 1) 0,
    s.2,
    sym (and_mask (get_or w (length w - 1) 0) 7)
        ∙ (Decides-eqb (bit_and (get_or w (length w - 1) 0) 127) 0).0 t,
  ),
  λ (front, byte, last, d, e). (Decides-eqb (bit_and (get_or w (length w - 1) 0) 127) 0).1 (and_mask (get_or w (length w - 1) 0) 7 ∙ rw d (rw last_of e)),
)
