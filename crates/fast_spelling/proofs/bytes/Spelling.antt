-- The bytes of texts and of items.
use Rattle.std.proofs.Common.{◌≡◌, ◌≢◌, ℕ, suc, ◌+◌, ◌-◌, ◌<◌, ◌≤◌, ◌^◌, List, [], ◌∷◌, ◌++◌, take, length, get_or, refl, ap, sym, subst, ◌∙◌}
use Rattle.std.proofs.Common.{arith, FitsSigned, to_z, of_z}
use Rattle.std.specs.Prelude.{nat_eq, Bool, true, false, All, ℤ, ◌-ℤ◌, pos, Some, Result, Ok, Err, OnOk}
use Rattle.std.proofs.lemmas.List.{take_more, take_all}
use Rattle.std.specs.Int.{w128}
use Rattle.std.proofs.lemmas.Int.{ints, to_z-of_z}
use Rattle.fast_wire.specs.meaning.Integers.{unsigned_range}
use Rattle.fast_wire.specs.meaning.Shortest.{IsShortest}
use Rattle.fast_wire.specs.meaning.Texts.{SpellsAscii, SpellsVector, SpellsSize}
use Rattle.fast_value.specs.declared.kinds.Kind.{Kind}
use Rattle.fast_value.specs.declared.kinds.Kind.TheVariants.{UInt32, Int32, UInt64, Int64, Decimal, Ascii, Unicode, Bytes}
use Rattle.fast_spelling.specs.device.Drafts.{IsSendablePart, SpellsPart}

-- a text is what stands before its last character, and that one
split_last : (t : List ℕ) (n : ℕ) → length t ≡ suc n → t ≡ take n t ++ get_or t n 0 ∷ []
split_last t n e =
    let h : n < length t = omega (arith, e) in
    sym (take_all (n + 1) t (omega (arith, e))) ∙ take_more t n 0 h

pub ascii_spelled : (t : List ℕ) (nullable : Bool) (room n : ℕ) → All (λ c. c < 128) t → length t ≡ suc n → get_or t 0 0 ≢ 0 → length t ≤ room
    → SpellsAscii nullable room (Some t) (take n t ++ (get_or t n 0 + 128) ∷ [])
ascii_spelled [] nullable room n all e z h = absurd (omega (arith, e))
ascii_spelled (c ∷ v) nullable room n all e z h = (z, all, h, (take n (c ∷ v), get_or (c ∷ v) n 0, split_last (c ∷ v) n e, refl))

-- the size of a vector is a uInt32
sized : (nullable : Bool) (n : ℕ) (u : List ℕ) → n < 2 ^ 31 → IsShortest false nullable (Some (pos n)) u → SpellsSize true nullable (Some n) u
sized nullable n u h s = s (unsigned_range 32) refl (omega (arith, ints, h), omega (arith, ints, h))

vector_spelled : (nullable : Bool) (room : ℕ) (t u : List ℕ) → length t < 2 ^ 31 → IsShortest false nullable (Some (pos (length t))) u
    → length t ≤ room → SpellsVector true nullable room (Some t) (u ++ t)
vector_spelled nullable room t u h s r = (u, sized nullable (length t) u h s, refl, r)

-- a part in a kind is short
pub part_short : (kind : Kind) (t : List ℕ) → IsSendablePart kind t → length t < 2 ^ 31
part_short UInt32 t h = h
part_short Int32 t h = h
part_short UInt64 t h = h
part_short Int64 t h = h
part_short Decimal t h = h
part_short Ascii t h = h.0
part_short Unicode t h = h
part_short Bytes t h = h

pub sized_spelled : (kind : Kind) (nullable : Bool) (t u : List ℕ) → kind ≢ Ascii → length t < 2 ^ 31
    → IsShortest false nullable (Some (pos (length t))) u → SpellsPart kind nullable t (u ++ t)
sized_spelled UInt32 nullable t u other h s room r = vector_spelled nullable room t u h s r
sized_spelled Int32 nullable t u other h s room r = vector_spelled nullable room t u h s r
sized_spelled UInt64 nullable t u other h s room r = vector_spelled nullable room t u h s r
sized_spelled Int64 nullable t u other h s room r = vector_spelled nullable room t u h s r
sized_spelled Decimal nullable t u other h s room r = vector_spelled nullable room t u h s r
sized_spelled Ascii nullable t u other h s room r = absurd (other refl)
sized_spelled Unicode nullable t u other h s room r = vector_spelled nullable room t u h s r
sized_spelled Bytes nullable t u other h s room r = vector_spelled nullable room t u h s r

-- what is so where a call answers Ok
pub on_ok : {R E : Type 0} {A B : Type 0} (r : Result R E) → OnOk r A → (A → B) → OnOk r B
on_ok (Ok x) h f = f h
on_ok (Err e) h f = tt

-- the difference of two equal pairs
pub apart_same : (x y u v : ℤ) → x ≡ u → y ≡ v → x -ℤ y ≡ u -ℤ v
apart_same x y u v p q = ap (λ (z : ℤ). z -ℤ y) p ∙ ap (λ (z : ℤ). u -ℤ z) q

-- a signed integer that was handed to a call
pub handed : (nullable : Bool) (x : ℤ) (w : List ℕ) → FitsSigned w128 x → IsShortest true nullable (Some (to_z w128 (of_z w128 x))) w
    → IsShortest true nullable (Some x) w
handed nullable x w h s = subst (λ (n : ℤ). IsShortest true nullable (Some n) w) (to_z-of_z w128 x h) s

-- a text that is not empty
pub some_left : (t : List ℕ) → false ≡ nat_eq (length t) 0 → length t ≡ suc (length t - 1)
some_left [] e = absurd (cc e)
some_left (x ∷ t) e = omega arith
