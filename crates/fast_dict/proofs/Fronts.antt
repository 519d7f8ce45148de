-- Common fronts of lists, element by element.
use Rattle.std.proofs.Common.{◌≡◌, ◌⊎◌, ℕ, ◌+◌, ◌-◌, ◌<◌, ◌≤◌, List, [], ◌∷◌, length, take, drop, get_or, refl, ap, sym, subst, ◌∙◌, arith, inl, inr}
use Rattle.std.specs.Prelude.{zero, suc, slice_index_or}
use Rattle.std.proofs.lemmas.Bool.{cases_lt, eq-eqb}
use Rattle.std.proofs.lemmas.Bool.Decides.{eqb_tells}
use Rattle.std.specs.Int.{w64, from_le_bytes, to_le_bytes}
use Rattle.std.proofs.lemmas.List.{drop_all, drop-drop, get_or-take, get_or-drop, get_or_past, length-take-le, length-drop}
use Rattle.std.proofs.lemmas.Nat.{le_bytes_8}
use Rattle.fast_dict.specs.meaning.Rule.{common_front}

-- an empty list has no front in common
front_nil : (xs : List ℕ) → common_front xs [] ≡ 0
front_nil [] = refl
front_nil (x ∷ xs) = refl

-- past the end of the second list
pub front_past : (xs ys : List ℕ) (k : ℕ) → length ys ≤ k → common_front (drop k xs) (drop k ys) ≡ 0
front_past xs ys k h = rw (drop_all k ys h) (front_nil (drop k xs))

-- one more in common
pub front_more : (xs ys : List ℕ) (k : ℕ) → k < length xs → k < length ys → slice_index_or xs k 0 ≡ slice_index_or ys k 0
    → common_front (drop k xs) (drop k ys) ≡ suc (common_front (drop (suc k) xs) (drop (suc k) ys))
front_more [] ys k h g e = absurd (omega arith)
front_more (x ∷ xs) [] k h g e = absurd (omega arith)
front_more (x ∷ xs) (y ∷ ys) zero h g e = rw (eq-eqb x y e) refl
front_more (x ∷ xs) (y ∷ ys) (suc k) h g e = front_more xs ys k (omega arith) (omega arith) e

-- the two differ
pub front_stops : (xs ys : List ℕ) (k : ℕ) → k < length xs → k < length ys → (slice_index_or xs k 0 ≡ slice_index_or ys k 0 → ⊥)
    → common_front (drop k xs) (drop k ys) ≡ 0
front_stops [] ys k h g e = absurd (omega arith)
front_stops (x ∷ xs) [] k h g e = absurd (omega arith)
front_stops (x ∷ xs) (y ∷ ys) zero h g e = elim (eqb_tells x y) [ inl t ↦ absurd (e t.1) | inr t ↦ rw t.0 refl ]
front_stops (x ∷ xs) (y ∷ ys) (suc k) h g e = front_stops xs ys k (omega arith) (omega arith) e

head_of : (x y : ℕ) (xs ys : List ℕ) → x ∷ xs ≡ y ∷ ys → x ≡ y
head_of x y xs ys e = cc

tail_of : (x y : ℕ) (xs ys : List ℕ) → x ∷ xs ≡ y ∷ ys → xs ≡ ys
tail_of x y xs ys e = cc

-- so many in common
pub front_taken : (n : ℕ) (xs ys : List ℕ) → n ≤ length xs → n ≤ length ys → take n xs ≡ take n ys
    → common_front xs ys ≡ n + common_front (drop n xs) (drop n ys)
front_taken zero xs ys h g e = omega arith
front_taken (suc n) [] ys h g e = absurd (omega arith)
front_taken (suc n) (x ∷ xs) [] h g e = absurd (omega arith)
front_taken (suc n) (x ∷ xs) (y ∷ ys) h g e =
    let m = front_taken n xs ys (omega arith) (omega arith) (tail_of x y (take n xs) (take n ys) e) in
    rw (eq-eqb x y (head_of x y (take n xs) (take n ys) e)) (omega (arith, m))

-- eight bytes, as one number and back
eight_back : (w : List ℕ) (k n : ℕ) → k + 8 ≤ length w → ((i : ℕ) → get_or w i 0 < 256) → n ≡ from_le_bytes w64 (take 8 (drop k w))
    → to_le_bytes w64 n ≡ take 8 (drop k w)
eight_back w k n h bytes e =
    let long : length (drop k w) ≡ length w - k = length-drop k w in
    le_bytes_8 (take 8 (drop k w)) n (length-take-le 8 (drop k w) (omega (arith, h, long))) (λ i. small i (cases_lt i 8)) e
  where
    small : (i : ℕ) → (i < 8) ⊎ (8 ≤ i) → get_or (take 8 (drop k w)) i 0 < 256
    small i (inl l) = subst (λ (b : ℕ). b < 256) (sym (get_or-take 8 (drop k w) i 0 l ∙ get_or-drop k w i 0)) (bytes (k + i))
    small i (inr l) =
        let long : length (drop k w) ≡ length w - k = length-drop k w in
        let end : length (take 8 (drop k w)) ≡ 8 = length-take-le 8 (drop k w) (omega (arith, h, long)) in
        subst (λ (b : ℕ). b < 256) (sym (get_or_past (take 8 (drop k w)) i 0 (omega (arith, end, l)))) (omega arith)

-- eight more in common, by one comparison
pub eight_more : (xs ys : List ℕ) (k n m : ℕ) → k + 8 ≤ length xs → k + 8 ≤ length ys → ((i : ℕ) → get_or xs i 0 < 256)
    → ((i : ℕ) → get_or ys i 0 < 256) → n ≡ from_le_bytes w64 (take 8 (drop k xs)) → m ≡ from_le_bytes w64 (take 8 (drop k ys)) → n ≡ m
    → common_front (drop k xs) (drop k ys) ≡ 8 + common_front (drop (k + 8) xs) (drop (k + 8) ys)
eight_more xs ys k n m h g bx by e f same =
    let longx : length (drop k xs) ≡ length xs - k = length-drop k xs in
    let longy : length (drop k ys) ≡ length ys - k = length-drop k ys in
    let eights : take 8 (drop k xs) ≡ take 8 (drop k ys) = sym (eight_back xs k n h bx e) ∙ ap (to_le_bytes w64) same ∙ eight_back ys k m g by f in
    let taken = front_taken 8 (drop k xs) (drop k ys) (omega (arith, h, longx)) (omega (arith, g, longy)) eights in
    taken ∙ ap (λ (v : List ℕ). 8 + common_front v (drop 8 (drop k ys))) (drop-drop 8 k xs)
    ∙ ap (λ (v : List ℕ). 8 + common_front (drop (k + 8) xs) v) (drop-drop 8 k ys)
