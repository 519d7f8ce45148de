-- Texts that are joined to what their entries hold.
use Rattle.std.proofs.Common.{refl, sym, ap, arith, inl, inr, get_or, length-append}
use Rattle.std.specs.Prelude.{◌≡◌, ◌⊎◌, ℕ, ◌+◌, ◌-◌, ◌<◌, ◌≤◌, Bool, true, false, nat_le}
use Rattle.std.specs.Prelude.{if◌then◌else◌, List, [], ◌∷◌, ◌++◌, length, take, drop, pos, negsuc, Ok, Err}
use Rattle.std.specs.Str.{is_utf8}
use Rattle.std.proofs.lemmas.Str.{IsUtf8-append, is_utf8-from_IsUtf8, IsUtf8-from_is_utf8}
use Rattle.std.proofs.lemmas.Bool.Decides.{leb_tells}
use Rattle.std.proofs.lemmas.List.{length-take-le, take-take, get_or-take}
use Rattle.fast_value.specs.declared.codes.Code.TheVariants.{D7, R2}
use Rattle.fast_value.specs.declared.kinds.Kind.{Kind}
use Rattle.fast_value.specs.declared.kinds.Kind.TheVariants.{UInt32, Int32, UInt64, Int64, Decimal, Ascii, Unicode, Bytes}
use Rattle.fast_value.specs.meaning.Kinds.{UnicodeText, value_of_text}
use Rattle.fast_dict.specs.meaning.Operators.{checked_text, append_to, prepend_to, kept_of}
use Rattle.fast_units.specs.device.NextUnits.{BeginsWithCharacter, IsNextText}
use Rattle.fast_units.specs.declared.progress.Progress.TheVariants.{Whole}
use Rattle.fast_units.proofs.NextTexts.{text_whole}

-- A text that was checked is UTF-8.
was_utf8 : (v : List ℕ) (b : Bool) → is_utf8 v ≡ b → (if b then Ok (UnicodeText v) else Err R2) ≡ Ok (UnicodeText v) → is_utf8 v ≡ true
was_utf8 v true e h = e
was_utf8 v false e h = absurd (cc h)

-- Two texts are one together.
pub both_texts : (kind : Kind) (v w : List ℕ) → checked_text kind v ≡ Ok (value_of_text kind v)
    → checked_text kind w ≡ Ok (value_of_text kind w) → checked_text kind (v ++ w) ≡ Ok (value_of_text kind (v ++ w))
both_texts UInt32 v w h i = refl
both_texts Int32 v w h i = refl
both_texts UInt64 v w h i = refl
both_texts Int64 v w h i = refl
both_texts Decimal v w h i = refl
both_texts Ascii v w h i = refl
both_texts Unicode v w h i =
    let both : is_utf8 (v ++ w) ≡ true = is_utf8-from_IsUtf8 (v ++ w)
    (IsUtf8-append v w (IsUtf8-from_is_utf8 v (was_utf8 v (is_utf8 v) refl h))
    (IsUtf8-from_is_utf8 w (was_utf8 w (is_utf8 w) refl i))) in
    rw both refl
both_texts Bytes v w h i = refl

-- A subtraction length of which there are as many bytes.
module _ (base : List ℕ) (dropped : ℕ) (within : dropped ≤ length base) where
  pub keeps_front : kept_of base (pos dropped) ≡ Ok (append_to (take (length base - dropped) base))
  keeps_front = by (leb_tells dropped (length base))
    where
      by : ((nat_le dropped (length base) ≡ true) × (dropped ≤ length base)) ⊎ ((nat_le dropped (length base) ≡ false) × (length base < dropped))
          → (if nat_le dropped (length base) then Ok (append_to (take (length base - dropped) base)) else Err D7) ≡ Ok
          (append_to (take (length base - dropped) base))
      by (inl t) = rw t.0 refl
      by (inr t) = absurd (omega (arith, within, t))

  pub keeps_back : kept_of base (negsuc dropped) ≡ Ok (prepend_to (drop dropped base))
  keeps_back = by (leb_tells dropped (length base))
    where
      by : ((nat_le dropped (length base) ≡ true) × (dropped ≤ length base)) ⊎ ((nat_le dropped (length base) ≡ false) × (length base < dropped))
          → (if nat_le dropped (length base) then Ok (prepend_to (drop dropped base)) else Err D7) ≡ Ok (prepend_to (drop dropped base))
      by (inl t) = rw t.0 refl
      by (inr t) = absurd (omega (arith, within, t))

-- An ASCII text that ends with the first stop bit.
pub part_spelled : (rest : List ℕ) (last most : ℕ) → BeginsWithCharacter rest → last < length rest
    → ((k : ℕ) → k < last → get_or rest k 0 < 128) → 128 ≤ get_or rest last 0 → get_or rest last 0 < 256
    → length (take last rest ++ (get_or rest last 0 - 128) ∷ []) ≤ most
    → IsNextText false most rest (take last rest ++ (get_or rest last 0 - 128) ∷ []) (Whole true (last + 1))
part_spelled rest last most begins within before stop byte fits =
    let front : length (take last rest) ≡ last = length-take-le last rest (omega (arith, within)) in
    let all : length (take last rest ++ (get_or rest last 0 - 128) ∷ []) ≡ length (take last rest) + 1 =
    length-append (take last rest) ((get_or rest last 0 - 128) ∷ []) in
    let here : length (take (last + 1) rest) ≡ last + 1 = length-take-le (last + 1) rest (omega (arith, within)) in
    let at : (k : ℕ) → k < last + 1 → get_or (take (last + 1) rest) k 0 ≡ get_or rest k 0 = λ k h. get_or-take (last + 1) rest k 0 h in
    let end : get_or (take (last + 1) rest) last 0 ≡ get_or rest last 0 = at last (omega arith) in
    text_whole false most rest begins (last + 1) last (take last rest) (take last rest ++ (get_or rest last 0 - 128) ∷ [])
    (omega (arith, within)) (omega (arith, fits, all, front)) (omega (arith, here)) (λ k h. rw (at k (omega (arith, h))) (before k h)) (rw end stop) byte
    (sym (take-take last (last + 1) rest (omega arith))) (ap (λ b. take last rest ++ (b - 128) ∷ []) (sym end))
