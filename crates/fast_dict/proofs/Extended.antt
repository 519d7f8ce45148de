-- A text that goes on behind the first bytes of another.
use Rattle.std.proofs.Common.{◌≡◌, ℕ, ◌+◌, ◌<◌, ◌≤◌, List, [], ◌++◌, length, take, drop, refl, ap, sym, ◌∙◌, arith, inl, inr, length-append, length-take-le}
use Rattle.std.specs.Prelude.{zero, suc, ◌⊎◌, ◌≢◌, Option, Some, None, slice_index_or}
use Rattle.std.proofs.Math.Seq.{take-append_seam}
use Rattle.std.proofs.lemmas.Bool.{cases_order}
use Rattle.std.proofs.lemmas.List.{drop-take, drop-append-le, take-take}
use Rattle.fast_value.specs.declared.kinds.Kind.{Kind}
use Rattle.fast_value.specs.declared.kinds.Kind.TheVariants as K
use Rattle.fast_value.specs.meaning.Kinds.{text_of, value_of_text}
use Rattle.fast_dict.specs.meaning.Entry.{text_length, with_text}
use Rattle.fast_dict.specs.meaning.Dictionary.{PreviousData, assigned}
use Rattle.fast_dict.specs.meaning.Slots.{text_in, length-text_in}
use Rattle.fast_dict.specs.declared.entry.Entry.{Entry}
use Rattle.fast_dict.specs.declared.entry.Entry.TheVariants.{Undefined, Empty, UInt32, Int32, UInt64, Int64, Decimal, Ascii, Unicode, Bytes}
use Rattle.fast_dict.specs.declared.entry.Entry.TheVariants.{OtherUnsigned, OtherSigned, OtherDecimal, OtherAscii, OtherUnicode, OtherBytes}
use Rattle.fast_dict.proofs.Blocks.{part_elsewhere}

-- the text that is held, empty if there is none
text_held : PreviousData → List ℕ
text_held (assigned kind v) = text_of v
text_held p = []

-- the text of a text
pub text_of_text : (kind : Kind) (v : List ℕ) → text_of (value_of_text kind v) ≡ v
text_of_text K.UInt32 v = refl
text_of_text K.Int32 v = refl
text_of_text K.UInt64 v = refl
text_of_text K.Int64 v = refl
text_of_text K.Decimal v = refl
text_of_text K.Ascii v = refl
text_of_text K.Unicode v = refl
text_of_text K.Bytes v = refl

-- A number's entry has no text.
no_front : (b : List ℕ) (p : Option ℕ) (text : List ℕ) (keep : ℕ) → [] ≡ text → keep ≤ length text → text_in b p keep ≡ take keep text
no_front b None text zero e h = refl
no_front b (Some place) text zero e h = refl
no_front b p text (suc keep) e h = let k : 0 ≡ length text = ap length e in absurd (omega (arith, h, k))

-- the first bytes of a text in its slot
some_front : (b : List ℕ) (p : Option ℕ) (text : List ℕ) (size keep : ℕ) → text_in b p size ≡ text → keep ≤ length text → text_in b p keep ≡ take keep text
some_front b None text size keep e h = no_front b None text keep e h
some_front b (Some place) text size keep e h =
    let short : length (text_in b (Some place) size) ≤ size = length-text_in b (Some place) size in
    let same : length (text_in b (Some place) size) ≡ length text = ap length e in
    sym (take-take keep size (drop place b) (omega (arith, h, short, same))) ∙ ap (take keep) e

pub front_of : (b : List ℕ) (p : Option ℕ) (e : Entry) (kind : Kind) (text : List ℕ) (keep : ℕ)
    → with_text e (text_in b p (text_length e)) ≡ assigned kind (value_of_text kind text) → keep ≤ length text
    → text_in b p keep ≡ take keep text
unfolding text_held
front_of b p e kind text keep h l = by e (ap text_held h ∙ text_of_text kind text)
  where
    by : (x : Entry) → text_held (with_text x (text_in b p (text_length x))) ≡ text → text_in b p keep ≡ take keep text
    by Undefined i = no_front b p text keep i l
    by Empty i = no_front b p text keep i l
    by (UInt32 n) i = no_front b p text keep i l
    by (Int32 n) i = no_front b p text keep i l
    by (UInt64 n) i = no_front b p text keep i l
    by (Int64 n) i = no_front b p text keep i l
    by (Decimal n m) i = no_front b p text keep i l
    by (Ascii size) i = some_front b p text size keep i l
    by (Unicode size) i = some_front b p text size keep i l
    by (Bytes size) i = some_front b p text size keep i l
    by (OtherUnsigned k n) i = no_front b p text keep i l
    by (OtherSigned k n) i = no_front b p text keep i l
    by (OtherDecimal k n m) i = no_front b p text keep i l
    by (OtherAscii k size) i = some_front b p text size keep i l
    by (OtherUnicode k size) i = some_front b p text size keep i l
    by (OtherBytes k size) i = some_front b p text size keep i l

-- Bytes written into a slot behind the first ones.
pub text_behind : (b part : List ℕ) (place keep : ℕ) → place + keep + length part ≤ length b
    → take (keep + length part) (drop place (take (place + keep) b ++ part ++ drop (place + keep + length part) b)) ≡ take keep (drop place b) ++ part
text_behind b part place keep h =
    let front : List ℕ = take (place + keep) b in
    let behind : List ℕ = drop (place + keep + length part) b in
    let long : length front ≡ place + keep = length-take-le (place + keep) b (omega arith) in
    let all : length (front ++ part) ≡ place + (keep + length part) = length-append front part ∙ omega (arith, long) in
    sym (drop-take place (keep + length part) (front ++ part ++ behind))
    ∙ ap (drop place) (ap (λ n. take n (front ++ part ++ behind)) (sym all) ∙ take-append_seam (front ++ part) behind)
    ∙ drop-append-le place front part (omega (arith, long))
    ∙ ap (λ xs. xs ++ part) (drop-take place keep b)

-- the text of another slot of the same size
pub behind_elsewhere : (b part : List ℕ) (ps : List (Option ℕ)) (e p keep i room size : ℕ) → keep + length part ≤ room → size ≤ room
    → p + room ≤ length b → i ≢ e → slice_index_or ps e None ≡ Some p
    → ((i j p q : ℕ) → i < j → slice_index_or ps i None ≡ Some p → slice_index_or ps j None ≡ Some q → p + room ≤ q)
    → text_in (take (p + keep) b ++ part ++ drop (p + keep + length part) b) (slice_index_or ps i None) size ≡ text_in b (slice_index_or ps i None) size
behind_elsewhere b part ps e p keep i room size ht hs hp ne at ordered = go (slice_index_or ps i None) refl (cases_order i e)
  where
    go : (place : Option ℕ) → slice_index_or ps i None ≡ place → (i ≡ e) ⊎ ((i < e) ⊎ (e < i))
        → text_in (take (p + keep) b ++ part ++ drop (p + keep + length part) b) place size ≡ text_in b place size
    go None is c = refl
    go (Some q) is (inl same) = absurd (ne same)
    go (Some q) is (inr (inl below)) = let k = ordered i e q p below is at in part_elsewhere b part (p + keep) q size (omega arith) (inl (omega arith))
    go (Some q) is (inr (inr above)) = let k = ordered e i p q above at is in part_elsewhere b part (p + keep) q size (omega arith) (inr (omega arith))
