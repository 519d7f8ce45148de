-- A text written into its slot leaves the other slots as they are, and what stands in front of it.
use Rattle.std.proofs.Common.{◌≡◌, ℕ, ◌+◌, ◌-◌, ◌<◌, ◌≤◌, List, ◌++◌, length, take, drop, refl, ap, sym, ◌∙◌, append_assoc, arith, inl, inr}
use Rattle.std.proofs.Common.{length-append, length-take-le, length-drop}
use Rattle.std.specs.Prelude.{◌⊎◌, ◌≢◌, true, false, nat_le, if◌then◌else◌, Option, Some, None, is_some, slice_index_or}
use Rattle.std.proofs.Math.Seq.{take-append-add}
use Rattle.std.proofs.lemmas.Bool.{cases_order}
use Rattle.std.proofs.lemmas.Bool.Decides.{leb_tells}
use Rattle.std.proofs.lemmas.List.{drop-take, drop-append-le, take-append-le, take-take}
use Rattle.std.proofs.lemmas.Slice.{drop-append-drop}
use Rattle.fast_dict.specs.meaning.Operators.{with_tail}
use Rattle.fast_dict.specs.meaning.Slots.{text_in}

-- a part of a list with a text at p, where that does not meet the text
pub part_elsewhere : (b t : List ℕ) (p q size : ℕ) → p + length t ≤ length b → (q + size ≤ p) ⊎ (p + length t ≤ q)
    → take size (drop q (take p b ++ t ++ drop (p + length t) b)) ≡ take size (drop q b)
part_elsewhere b t p q size h (inl k) =
    let long : length (take p b) ≡ p = length-take-le p b (omega arith) in
    let within : q + size ≤ length (take p b) = omega arith in
    let front : take (q + size) (take p b ++ t ++ drop (p + length t) b) ≡ take (q + size) b =
    rw append_assoc (take-append-le (q + size) (take p b) (t ++ drop (p + length t) b) within ∙ take-take (q + size) p b k) in
    sym (drop-take q size (take p b ++ t ++ drop (p + length t) b)) ∙ ap (drop q) front ∙ drop-take q size b
part_elsewhere b t p q size h (inr k) =
    let long : length (take p b) ≡ p = length-take-le p b (omega arith) in
    let size_of : length (take p b ++ t) ≡ p + length t = length-append (take p b) t ∙ ap (λ n. n + length t) long in
    ap (take size) (drop-append-drop (p + length t) b (take p b ++ t) q k size_of)

-- the text of another slot of the same size, where the text stands at m, within the slot that begins at p
pub text_elsewhere : (b t : List ℕ) (ps : List (Option ℕ)) (e p m i room size : ℕ) → p ≤ m → m + length t ≤ p + room → size ≤ room
    → p + room ≤ length b → i ≢ e → slice_index_or ps e None ≡ Some p
    → ((i j p q : ℕ) → i < j → slice_index_or ps i None ≡ Some p → slice_index_or ps j None ≡ Some q → p + room ≤ q)
    → text_in (take m b ++ t ++ drop (m + length t) b) (slice_index_or ps i None) size ≡ text_in b (slice_index_or ps i None) size
text_elsewhere b t ps e p m i room size hm ht hs hp ne at ordered = go (slice_index_or ps i None) refl (cases_order i e)
  where
    go : (place : Option ℕ) → slice_index_or ps i None ≡ place → (i ≡ e) ⊎ ((i < e) ⊎ (e < i))
        → text_in (take m b ++ t ++ drop (m + length t) b) place size ≡ text_in b place size
    go None is c = refl
    go (Some q) is (inl same) = absurd (ne same)
    go (Some q) is (inr (inl below)) = let k = ordered i e q p below is at in part_elsewhere b t m q size (omega arith) (inl (omega arith))
    go (Some q) is (inr (inr above)) = let k = ordered e i p q above at is in part_elsewhere b t m q size (omega arith) (inr (omega arith))

-- the text of a slot behind whose first bytes another one was written
pub text_behind : (b t : List ℕ) (p at size : ℕ) → p + at + length t ≤ length b → size ≤ length t
    → take (at + size) (drop p (take (p + at) b ++ t ++ drop (p + at + length t) b)) ≡ take at (drop p b) ++ take size t
text_behind b t p at size h k =
    let rest : List ℕ = t ++ drop (p + at + length t) b in
    let front : List ℕ = take at (drop p b) in
    let long : length (take (p + at) b) ≡ p + at = length-take-le (p + at) b (omega arith) in
    let cut : drop p (take (p + at) b ++ t ++ drop (p + at + length t) b) ≡ front ++ rest =
    ap (drop p) (append_assoc (take (p + at) b) t (drop (p + at + length t) b)) ∙ drop-append-le p (take (p + at) b) rest (omega arith)
    ∙ ap (λ (w : List ℕ). w ++ rest) (drop-take p at b) in
    let left = length-drop p b in
    let size_of : length front ≡ at = length-take-le at (drop p b) (omega (arith, left)) in
    ap (take (at + size)) cut ∙ ap (λ n. take (n + size) (front ++ rest)) (sym size_of) ∙ take-append-add front rest size
    ∙ ap (λ (w : List ℕ). front ++ w) (take-append-le size t (drop (p + at + length t) b) k)

-- the same of one that was written over the text
pub text_over : (b b' t : List ℕ) (place : Option ℕ) (size : ℕ) → text_in b' place (0 + size) ≡ text_in b place 0 ++ t → text_in b' place size ≡ t
text_over b b' t None size h = h
text_over b b' t (Some p) size h = let same : size ≡ 0 + size = omega arith in ap (λ n. take n (drop p b')) same ∙ h

-- A slot has as many bytes of its text as there is room for.
slot_length : (b : List ℕ) (place : Option ℕ) (room size : ℕ) → is_some place ≡ true → ((p : ℕ) → place ≡ Some p → p + room ≤ length b)
    → size ≤ room → length (text_in b place size) ≡ size
slot_length b None room size some within h = absurd (cc some)
slot_length b (Some p) room size some within h =
    let l = within p refl in
    let left = length-drop p b in
    length-take-le size (drop p b) (omega (arith, l, left))

slot_front : (b : List ℕ) (place : Option ℕ) (at size : ℕ) → is_some place ≡ true → at ≤ size → take at (text_in b place size) ≡ text_in b place at
slot_front b None at size some h = absurd (cc some)
slot_front b (Some p) at size some h = take-take at size (drop p b) h

-- what a tail keeps
with_kept : (base part : List ℕ) (at : ℕ) → at ≡ length base - length part → with_tail base part ≡ take at base ++ part
with_kept base part at e = by (leb_tells (length part) (length base))
  where
    by : ((nat_le (length part) (length base) ≡ true) × (length part ≤ length base))
        ⊎ ((nat_le (length part) (length base) ≡ false) × (length base < length part))
        → (if nat_le (length part) (length base) then take (length base - length part) base ++ part else part) ≡ take at base ++ part
    by (inl t) = rw t.0 (ap (λ n. take n base ++ part) (sym e))
    by (inr t) = let z : at ≡ 0 = omega (arith, e) in rw (t.0, z) refl

-- a tail behind what it keeps of a slot's text
pub tail_in : (b part : List ℕ) (place : Option ℕ) (room size at : ℕ) → is_some place ≡ true
    → ((p : ℕ) → place ≡ Some p → p + room ≤ length b) → size ≤ room → at ≡ size - length part
    → text_in b place at ++ part ≡ with_tail (text_in b place size) part
tail_in b part place room size at some within h e =
    let l = slot_length b place room size some within h in
    let k : at ≡ length (text_in b place size) - length part = e ∙ ap (λ n. n - length part) (sym l) in
    ap (λ (w : List ℕ). w ++ part) (sym (slot_front b place at size some (omega (arith, e)))) ∙ sym (with_kept (text_in b place size) part at k)
