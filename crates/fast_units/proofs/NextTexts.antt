-- What comes next of an ASCII text.
use Rattle.std.proofs.Common.{refl, sym, ap, ◌∙◌, subst, arith, inl, inr, length-append, get_or}
use Rattle.std.specs.Prelude.{not, slice_get, ◌≡◌, ◌≢◌, ℕ, zero, suc, ◌+◌, ◌-◌, ◌<◌, ◌≤◌, Bool, true, false, List, [], ◌∷◌, ◌++◌, length}
use Rattle.std.specs.Prelude.{take, Some}
use Rattle.std.proofs.lemmas.List.{length-take-le, take_more, take-take, take_all, get_or-take}
use Rattle.std.proofs.lemmas.List.Elements.{All-push, All-from_get_or}
use Rattle.fast_wire.specs.meaning.Entities.{HaveNoStop}
use Rattle.fast_wire.specs.meaning.Texts.{SpellsAscii}
use Rattle.fast_value.specs.declared.codes.Code.TheVariants.{L1}
use Rattle.fast_stream.specs.meaning.Units.{BeginsWithZero}
use Rattle.fast_units.specs.device.NextUnits.{BeginsWithCharacter, IsNextText}
use Rattle.fast_units.specs.declared.progress.Progress.TheVariants.{Whole, Wrong, Cut}

-- What begins with a character
no_zero : (w : List ℕ) → BeginsWithCharacter w → ¬ (BeginsWithZero w)
no_zero [] h (r, e) = let k : 0 ≡ length (0 ∷ r) = ap length e in absurd (omega (arith, k))
no_zero (b ∷ w) h (r, e) = let k : b ≡ 0 = cc e in absurd (h.0 k)

no_bare : (w : List ℕ) → BeginsWithCharacter w → w ≢ 0x80 ∷ []
no_bare [] h e = let k : 0 ≡ 1 = ap length e in absurd (omega (arith, k))
no_bare (b ∷ w) h e = let k : b ≡ 0x80 = cc e in absurd (h.1 k)

begins_front : (w : List ℕ) (n : ℕ) → BeginsWithCharacter w → BeginsWithCharacter (take n w)
begins_front [] zero h = tt
begins_front [] (suc n) h = tt
begins_front (b ∷ w) zero h = tt
begins_front (b ∷ w) (suc n) h = h

-- A text with the stop bit on its last character
spelled : (nullable : Bool) (room : ℕ) (f : List ℕ) (b : ℕ) → HaveNoStop f → 128 ≤ b → b < 256 → BeginsWithCharacter (f ++ b ∷ []) → length f < room
    → SpellsAscii nullable room (Some (f ++ (b - 128) ∷ [])) (f ++ b ∷ [])
spelled nullable room [] b o stop byte h short =
    let whole : b - 128 + 128 ≡ b = omega arith in
    ((λ e. h.1 (omega arith)), All-push (λ c. c < 128) [] (b - 128) o (omega arith), omega (arith, short), ([], b - 128, refl, ap (λ c. c ∷ []) (sym whole)))
spelled nullable room (c ∷ f) b o stop byte h short =
    let whole : b - 128 + 128 ≡ b = omega arith in
    let len : length (f ++ (b - 128) ∷ []) ≡ length f + 1 = length-append f ((b - 128) ∷ []) in
    (h.0, All-push (λ c. c < 128) (c ∷ f) (b - 128) o (omega arith), omega (arith, short, len), (c ∷ f, b - 128, refl, ap (λ d. c ∷ (f ++ d ∷ [])) (sym whole)))

-- A front of the bytes is looked through, as far as there is room.
module _ (nullable : Bool) (room : ℕ) (rest : List ℕ) (begins : BeginsWithCharacter rest) where
  -- It has a stop bit.
  pub text_whole : (m last : ℕ) (more after : List ℕ) → m ≤ length rest → m ≤ room → last < length (take m rest)
      → ((k : ℕ) → k < last → get_or (take m rest) k 0 < 128)
      → 128 ≤ get_or (take m rest) last 0 → get_or rest last 0 < 256 → more ≡ take last (take m rest)
      → after ≡ more ++ (get_or (take m rest) last 0 - 128) ∷ []
      → IsNextText nullable room rest after (Whole true (last + 1))
  text_whole m last more after within short here before stop byte e i =
      let here_len : length (take m rest) ≡ m = length-take-le m rest within in
      let at : get_or (take m rest) last 0 ≡ get_or rest last 0 = get_or-take m rest last 0 (omega arith) in
      let b : ℕ = get_or rest last 0 in
      let w : List ℕ = take last rest in
      let is : take (last + 1) rest ≡ w ++ b ∷ [] = take_more rest last 0 (omega arith) in
      let kept : more ≡ w = e ∙ take-take last m rest (omega arith) in
      let given : after ≡ w ++ (b - 128) ∷ [] = i ∙ ap (λ t. t ++ (get_or (take m rest) last 0 - 128) ∷ []) kept ∙ ap (λ c. w ++ (c - 128) ∷ []) at in
      let o : HaveNoStop w = none_before m last within (omega arith) before in
      let len : length w ≡ last = length-take-le last rest (omega arith) in
      let h : BeginsWithCharacter (w ++ b ∷ []) = subst BeginsWithCharacter is (begins_front rest (last + 1) begins) in
      let top : 128 ≤ b = omega arith in
      (omega arith, omega arith, rw (given, is) (spelled nullable room w b o top byte h (omega arith)))
    where
      none_before : (m last : ℕ) → m ≤ length rest → last < m → ((k : ℕ) → k < last → get_or (take m rest) k 0 < 128) → HaveNoStop (take last rest)
      none_before m last within l before = All-from_get_or (λ c. c < 128) (take last rest) 0 (λ k h.
          let len : length (take last rest) ≡ last = length-take-le last rest (omega arith) in
          let e : get_or (take last rest) k 0 ≡ get_or rest k 0 = get_or-take last rest k 0 (omega arith) in
          let i : get_or (take m rest) k 0 ≡ get_or rest k 0 = get_or-take m rest k 0 (omega arith) in
          let f : get_or (take m rest) k 0 < 128 = before k (omega arith) in
          omega arith)

  -- It has none, and the byte behind the room comes.
  pub text_long : room < length rest → ((k : ℕ) → k < length (take room rest) → get_or (take room rest) k 0 < 128)
      → IsNextText nullable room rest [] (Wrong L1 (room + 1))
  text_long within none =
      let w : List ℕ = take (room + 1) rest in (
        omega arith,
        omega arith,
        (
          inr ((
            (
              take room rest,
              get_or rest room 0,
              take_more rest room 0 within,
              All-from_get_or (λ c. c < 128) (take room rest) 0 none,
              length-take-le room rest (omega arith),
              no_zero w (begins_front rest (room + 1) begins),
              no_bare w (begins_front rest (room + 1) begins),
            ),
            refl,
          )),
          refl,
        ),
      )

  -- It has none, and is all of the bytes.
  pub text_cut : (m : ℕ) → length rest ≤ m → length rest ≤ room
      → ((k : ℕ) → k < length (take m rest) → get_or (take m rest) k 0 < 128) → IsNextText nullable room rest [] Cut
  text_cut m all short none =
      let o : HaveNoStop rest = subst HaveNoStop (take_all m rest all) (All-from_get_or (λ c. c < 128) (take m rest) 0 none) in
      (inl (o, omega arith, no_zero rest begins), refl)

-- A bare stop bit comes, or nothing.
pub text_bare : (nullable : Bool) (room : ℕ) (rest : List ℕ) (b : ℕ) → Some b ≡ slice_get rest 0 → b ≡ 0x80
    → IsNextText nullable room rest [] (Whole (not nullable) 1)
text_bare nullable room [] b e stop = absurd (cc e)
text_bare false room (c ∷ rest) b e stop = let i : c ≡ 0x80 = cc in (omega arith, omega arith, rw i refl)
text_bare true room (c ∷ rest) b e stop = let i : c ≡ 0x80 = cc in (omega arith, omega arith, (refl, rw i refl))
