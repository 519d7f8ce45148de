-- A map that goes on with the bytes of a piece, in cells among others.
use Rattle.std.proofs.Common.{refl, sym, ap, subst, ◌∙◌, arith, get_or}
use Rattle.std.specs.Prelude.{◌≡◌, ℕ, ◌+◌, ◌<◌, ◌≤◌, List, [], ◌∷◌, ◌++◌, length, take}
use Rattle.std.proofs.lemmas.List.{length-append, length-take-le}
use Rattle.fast_wire.specs.device.Words.{IsShortEntity}
use Rattle.fast_wire.specs.meaning.Maps.{map_limit}
use Rattle.fast_wire.specs.meaning.Entities.{HaveNoStop, IsEntity}
use Rattle.fast_cursor.specs.declared.pending.MapFront.{MapFront}
use Rattle.fast_cursor.specs.declared.pending.MapFront.TheVariants.{Whole, TooLong, Cut}
use Rattle.fast_cursor.specs.device.Pending.{IsNextMap}
use Rattle.fast_cursor.specs.device.MapTaking.{IsMapTaken}
use Rattle.fast_cursor.specs.device.Segments.{map_at}
use Rattle.fast_cursor.proofs.Segments.{IsFilled}

pub taken-whole : (front cells rest after old now : List ℕ) (len n start : ℕ) → take len cells ≡ front → length front ≡ len
    → IsFilled map_limit old start after now → IsNextMap len cells rest after (Whole n)
    → IsMapTaken front rest (map_at now start (len + n)) (Whole n)
taken-whole front cells rest after old now len n start same count filled next =
    let (some, within, short, bytes, entity) = next in
    let size : length (take n rest) ≡ n = length-take-le n rest within in
    let sum = length-append front (take n rest) in
    let front-is : take len cells ++ take n rest ≡ front ++ take n rest = ap (λ w. w ++ take n rest) same in
    (some, within, omega (arith, sum), subst IsEntity front-is entity, filled.inner (len + n) short ∙ bytes ∙ front-is)

pub taken-full : (front cells rest after map : List ℕ) (len n : ℕ) (r : MapFront) → r ≡ TooLong n → take len cells ≡ front
    → length front ≡ len → IsNextMap len cells rest after (TooLong n) → IsMapTaken front rest map r
taken-full front cells rest after map len n r is same count next =
    let (some, within, full, no_stop) = next in
    subst (IsMapTaken front rest map) (sym is) (some, within, omega arith, subst (λ w. HaveNoStop (w ++ take n rest)) same no_stop)

pub taken-cut : (front cells rest after old now : List ℕ) (len start : ℕ) (r : MapFront) → r ≡ Cut → take len cells ≡ front
    → length front ≡ len → IsFilled map_limit old start after now → IsNextMap len cells rest after Cut
    → IsMapTaken front rest (map_at now start (len + length rest)) r
taken-cut front cells rest after old now len start r is same count filled next =
    let (short, bytes, no_stop) = next in
    let sum = length-append front rest in
    let front-is : take len cells ++ rest ≡ front ++ rest = ap (λ w. w ++ rest) same in
    subst (IsMapTaken front rest (map_at now start (len + length rest))) (sym is)
    (omega (arith, sum), subst HaveNoStop front-is no_stop, filled.inner (len + length rest) (omega arith) ∙ bytes ∙ front-is)

-- The first byte of the piece is the whole map.
pub taken-first : (front rest map : List ℕ) → front ≡ [] → 0 < length rest → 128 ≤ get_or rest 0 0 → map ≡ get_or rest 0 0 ∷ []
    → IsMapTaken front rest map (Whole 1)
taken-first front [] map none some stop is = absurd (omega (arith, some))
taken-first front (b ∷ rest) map none some stop is =
    subst (λ w. IsMapTaken w (b ∷ rest) map (Whole 1)) (sym none)
    (omega arith, omega arith, omega arith, ([], b, refl, λ k d h. absurd (omega (arith, h)), stop), is)

-- An entity has a byte at least.
pub entity-some : (w : List ℕ) (n : ℕ) → IsEntity w → length w ≡ n → 0 < n
entity-some w n (front, last, is, below, stop) count =
    let sum = length-append front (last ∷ []) in
    let e : length w ≡ length (front ++ last ∷ []) = ap length is in
    omega (arith, sum, e, count)

-- A map that stands whole in the piece.
pub taken-entity : (front rest map : List ℕ) (sum len : ℕ) → front ≡ [] → IsShortEntity sum len rest → map ≡ take len rest
    → IsMapTaken front rest map (Whole len)
taken-entity front rest map sum len none h is =
    let count : length (take len rest) ≡ len = length-take-le len rest h.whole in
    let short : len ≤ 8 = h.short in
    subst (λ w. IsMapTaken w rest map (Whole len)) (sym none) (entity-some (take len rest) len h.entity count, h.whole, omega arith, h.entity, is)
