-- Slots of one size, one behind the other.
use Rattle.std.proofs.Common.{◌≡◌, ℕ, ◌+◌, ◌*◌, ◌<◌, ◌≤◌, List, [], ◌∷◌, ◌++◌, length, drop, refl, ap, sym, ◌∙◌, append_assoc, add-one, arith}
use Rattle.std.specs.Prelude.{zero, suc, Bool, true, false, Option, Some, None, is_some, slice_index_or, cond, count_by}
use Rattle.std.proofs.Math.Seq.{drop-cons}
use Rattle.std.proofs.lemmas.List.Sums.{sum_by-cons}
use Rattle.fast_dict.specs.device.Places.{places_from}

-- a mark that is set takes the next slot
pub place_more : (size next : ℕ) (marks : List Bool) (i : ℕ) (d : Bool) (items all : List (Option ℕ)) → i < length marks
    → slice_index_or marks i d ≡ true → items ++ places_from size next (drop i marks) ≡ all
    → (items ++ Some next ∷ []) ++ places_from size (next + size) (drop (i + 1) marks) ≡ all
place_more size next marks i d items all h e p = rw (append_assoc, add-one)
    (ap (λ y. items ++ places_from size next y) (ap (λ b. b ∷ drop (suc i) marks) (sym e) ∙ sym (drop-cons marks i d h)) ∙ p)

-- a mark that is not set takes none
pub place_none : (size next : ℕ) (marks : List Bool) (i : ℕ) (d : Bool) (items all : List (Option ℕ)) → i < length marks
    → slice_index_or marks i d ≡ false → items ++ places_from size next (drop i marks) ≡ all
    → (items ++ None ∷ []) ++ places_from size next (drop (i + 1) marks) ≡ all
place_none size next marks i d items all h e p = rw (append_assoc, add-one)
    (ap (λ y. items ++ places_from size next y) (ap (λ b. b ∷ drop (suc i) marks) (sym e) ∙ sym (drop-cons marks i d h)) ∙ p)

-- a mark more
set_more : (ms : List Bool) → count_by (λ b. b) (true ∷ ms) ≡ 1 + count_by (λ b. b) ms
set_more ms = sum_by-cons (λ b. cond b 1 0) true ms

-- a mark more that is not set
set_none : (ms : List Bool) → count_by (λ b. b) (false ∷ ms) ≡ 0 + count_by (λ b. b) ms
set_none ms = sum_by-cons (λ b. cond b 1 0) false ms

-- the bytes of the slots
pub room_more : (size next all : ℕ) (marks : List Bool) (i : ℕ) (d : Bool) → i < length marks → slice_index_or marks i d ≡ true
    → next + count_by (λ b. b) (drop i marks) * size ≡ all → (next + size) + count_by (λ b. b) (drop (i + 1) marks) * size ≡ all
room_more size next all marks i d h e p =
    let q : count_by (λ b. b) (drop i marks) ≡ 1 + count_by (λ b. b) (drop (i + 1) marks) =
    rw add-one (ap (count_by (λ b. b)) (drop-cons marks i d h ∙ ap (λ b. b ∷ drop (suc i) marks) e) ∙ set_more (drop (suc i) marks)) in
    let r : next + (1 + count_by (λ b. b) (drop (i + 1) marks)) * size ≡ all = rw (← q) p in
    omega arith

-- the same where no slot is taken
pub room_none : (size next all : ℕ) (marks : List Bool) (i : ℕ) (d : Bool) → i < length marks → slice_index_or marks i d ≡ false
    → next + count_by (λ b. b) (drop i marks) * size ≡ all → next + count_by (λ b. b) (drop (i + 1) marks) * size ≡ all
room_none size next all marks i d h e p =
    let q : count_by (λ b. b) (drop i marks) ≡ 0 + count_by (λ b. b) (drop (i + 1) marks) =
    rw add-one (ap (count_by (λ b. b)) (drop-cons marks i d h ∙ ap (λ b. b ∷ drop (suc i) marks) e) ∙ set_none (drop (suc i) marks)) in
    let r : next + (0 + count_by (λ b. b) (drop (i + 1) marks)) * size ≡ all = rw (← q) p in
    omega arith

-- no slot begins before the first
pub places-above : (size start : ℕ) (marks : List Bool) (i p : ℕ) → slice_index_or (places_from size start marks) i None ≡ Some p → start ≤ p
places-above size start [] i p e = absurd (cc)
places-above size start (true ∷ ms) zero p e = let s : start ≡ p = (cc) in omega arith
places-above size start (true ∷ ms) (suc i) p e = let h = places-above size (start + size) ms i p e in omega arith
places-above size start (false ∷ ms) zero p e = absurd (cc)
places-above size start (false ∷ ms) (suc i) p e = places-above size start ms i p e

-- no two slots meet
pub places-ordered : (size start : ℕ) (marks : List Bool) (i j p q : ℕ) → i < j
    → slice_index_or (places_from size start marks) i None ≡ Some p → slice_index_or (places_from size start marks) j None ≡ Some q
    → p + size ≤ q
places-ordered size start [] i j p q h a b = absurd (cc)
places-ordered size start (m ∷ ms) i zero p q h a b = absurd (omega arith)
places-ordered size start (true ∷ ms) zero (suc j) p q h a b = let s : start ≡ p = (cc) in let t = places-above size (start + size) ms j q b in omega arith
places-ordered size start (true ∷ ms) (suc i) (suc j) p q h a b = places-ordered size (start + size) ms i j p q (omega arith) a b
places-ordered size start (false ∷ ms) zero (suc j) p q h a b = absurd (cc)
places-ordered size start (false ∷ ms) (suc i) (suc j) p q h a b = places-ordered size start ms i j p q (omega arith) a b

-- every slot ends within the room of all
pub places-within : (size start : ℕ) (marks : List Bool) (i p : ℕ) → slice_index_or (places_from size start marks) i None ≡ Some p
    → p + size ≤ start + count_by (λ b. b) marks * size
places-within size start [] i p e = absurd (cc)
places-within size start (true ∷ ms) zero p e = let s : start ≡ p = (cc) in
    let g : p + size ≤ start + (1 + count_by (λ b. b) ms) * size = omega arith in rw (set_more ms) g
places-within size start (true ∷ ms) (suc i) p e = let h = places-within size (start + size) ms i p e in
    let g : p + size ≤ start + (1 + count_by (λ b. b) ms) * size = omega arith in rw (set_more ms) g
places-within size start (false ∷ ms) zero p e = absurd (cc)
places-within size start (false ∷ ms) (suc i) p e = let h = places-within size start ms i p e in
    let g : p + size ≤ start + (0 + count_by (λ b. b) ms) * size = omega arith in rw (set_none ms) g

-- there is a slot exactly where the mark is set
pub has_place : (size start : ℕ) (marks : List Bool) (i : ℕ) → is_some (slice_index_or (places_from size start marks) i None) ≡ slice_index_or marks i false
has_place size start [] i = refl
has_place size start (true ∷ ms) zero = refl
has_place size start (true ∷ ms) (suc i) = has_place size (start + size) ms i
has_place size start (false ∷ ms) zero = refl
has_place size start (false ∷ ms) (suc i) = has_place size start ms i
