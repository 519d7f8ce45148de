-- What is left of a text field behind its last unit.
use Rattle.std.proofs.Common.{refl, sym, ap, ◌∙◌, subst, arith, inl, inr, length-append}
use Rattle.std.specs.Prelude.{◌≡◌, ◌≢◌, ◌⊎◌, ℕ, ◌+◌, ◌-◌, ◌<◌, ◌≤◌, Bool, true, false, nat_le, if◌then◌else◌, List, [], ◌++◌, length, take}
use Rattle.std.specs.Prelude.{drop, Option, Some, None, is_some, unwrap_or, ℤ, pos, negsuc, Result, Ok, Err}
use Rattle.std.specs.Str.{is_utf8}
use Rattle.std.proofs.lemmas.List.{set-get_or, get_or-set_same, length-take, length-drop}
use Rattle.std.proofs.lemmas.Bool.Decides.{leb_tells}
use Rattle.fast_value.specs.declared.kinds.Kind.{Kind}
use Rattle.fast_value.specs.declared.kinds.Kind.TheVariants.{Ascii, Unicode, Bytes, UInt32, Int32, UInt64, Int64, Decimal}
use Rattle.fast_value.specs.declared.codes.Code.{Code}
use Rattle.fast_value.specs.declared.codes.Code.TheVariants.{R2, D4, D7}
use Rattle.fast_value.specs.meaning.Kinds.{ScalarData, U, I, Dec, AsciiText, UnicodeText, ByteVector, texts, family, text_of, value_of_text, same_kind}
use Rattle.fast_tree.specs.declared.operators.Operator.{Operator}
use Rattle.fast_tree.specs.declared.operators.Operator.TheVariants.{None as no_operator, Constant, Default, Copy, Increment, Delta, Tail}
use Rattle.fast_tree.specs.meaning.Tree.{FieldData}
use Rattle.fast_tree.specs.meaning.Entries.{keeps_value}
use Rattle.fast_dict.specs.meaning.Answers.{kept_text}
use Rattle.fast_dict.specs.meaning.Dictionary.{Dictionary, PreviousData, undefined, empty, assigned, previous_at, value_in, write_at}
use Rattle.fast_dict.specs.meaning.Held.{text_size}
use Rattle.fast_dict.specs.meaning.Operators.{◌>>=◌, Outcome, gives, keeps, gives_none, checked_in, checked, checked_text, null, decide}
use Rattle.fast_dict.specs.meaning.Operators.{decide_by, start_value, zero_in, delta_base, tail_base, with_tail, Kept, append_to}
use Rattle.fast_dict.specs.meaning.Operators.{prepend_to, kept_of, kept_length, subtraction_step, null_empties}
use Rattle.fast_dict.specs.meaning.Stores.{Terms, IsStorable}
use Rattle.fast_dict.specs.meaning.Slots.{slots_dictionary, slots_terms, slots_texts_fit}
use Rattle.fast_dict.specs.declared.slots.Slots.{Slots}
use Rattle.fast_stream.specs.meaning.Fields.{sent_text}
use Rattle.fast_units.specs.device.Settling.{HasRoomFor, Serves, value_at}
use Rattle.fast_units.specs.device.TextDecisions.{IsTextDecided}
use Rattle.fast_units.specs.declared.source.ValueSource.{ValueSource}
use Rattle.fast_units.specs.declared.source.ValueSource.TheVariants as From

-- What an entry holds, written back.
pub write_back : (e : Option ℕ) (d : Dictionary) → d ≡ write_at e (previous_at e d) d
write_back None d = refl
write_back (Some e) d = sym (set-get_or d e undefined)

-- what an entry holds that was written
pub written : (e : ℕ) (d : Dictionary) (p : PreviousData) → e < length d → previous_at (Some e) (write_at (Some e) p d) ≡ p
written e d p h = get_or-set_same d e p undefined h

-- NULL
decided_null : (f : FieldData) (p : PreviousData) → f.operator ≢ Constant → decide f p true null ≡ gives_none (if null_empties f.operator then empty else p)
decided_null f p n = by f.operator n
  where
    by : (operator : Operator) → operator ≢ Constant → decide_by operator true f p null ≡ gives_none (if null_empties operator then empty else p)
    by no_operator n = refl
    by Constant n = absurd (n refl)
    by Default n = refl
    by Copy n = refl
    by Increment n = refl
    by Delta n = refl
    by Tail n = refl

module _ (f : FieldData) (old new : Dictionary) (scratch piece : List ℕ) where
  -- The field is absent, and its entry is empty, or as it was.
  pub absent_emptied : f.operator ≢ Constant → null_empties f.operator ≡ true → new ≡ write_at f.entry empty old
      → IsTextDecided (decide f (previous_at f.entry old) true null) f old new scratch piece (Ok From.Absent)
  absent_emptied n e h = (
    record { value = None; next = empty },
    decided_null f (previous_at f.entry old) n ∙ ap (λ b. gives_none (if b then empty else previous_at f.entry old)) e,
    record { value = refl; dictionary = h },
  )

  pub absent_left : f.operator ≢ Constant → null_empties f.operator ≡ false → new ≡ old
      → IsTextDecided (decide f (previous_at f.entry old) true null) f old new scratch piece (Ok From.Absent)
  absent_left n e h = (
    record { value = None; next = previous_at f.entry old },
    decided_null f (previous_at f.entry old) n ∙ ap (λ b. gives_none (if b then empty else previous_at f.entry old)) e,
    record { value = refl; dictionary = h ∙ write_back f.entry old },
  )

  -- The text is kept.
  pub text_kept : (text : List ℕ) (v : ScalarData) → checked_text f.kind text ≡ Ok v → is_some f.entry ≡ true
      → ((e : ℕ) → f.entry ≡ Some e → e < length old) → new ≡ write_at f.entry (assigned f.kind v) old
      → IsTextDecided (kept_text f.kind text) f old new scratch piece (Ok From.Entry)
  text_kept text v c i h n = (
    record { value = Some v; next = assigned f.kind v },
    rw c refl,
    record { value = by f.entry i h n; dictionary = n },
  )
    where
      by : (at : Option ℕ) → is_some at ≡ true → ((e : ℕ) → at ≡ Some e → e < length old) → new ≡ write_at at (assigned f.kind v) old
          → Some v ≡ value_in (previous_at at new)
      by None i h n = absurd (cc i)
      by (Some e) i h n = sym (ap (λ (d : Dictionary). value_in (previous_at (Some e) d)) n ∙ ap value_in (written e old (assigned f.kind v) (h e refl)))

  -- The text is kept, and stands at a place of its own as well.
  pub text_kept_too : (place : ValueSource) (text : List ℕ) (v : ScalarData) → checked_text f.kind text ≡ Ok v
      → value_at place f new scratch piece ≡ Some v → new ≡ write_at f.entry (assigned f.kind v) old
      → IsTextDecided (kept_text f.kind text) f old new scratch piece (Ok place)
  text_kept_too place text v c h n = (
    record { value = Some v; next = assigned f.kind v },
    rw c refl,
    record { value = sym h; dictionary = n },
  )

  -- The text is the value, and the entry is as it was.
  pub text_given : (place : ValueSource) (text : List ℕ) (v : ScalarData) → checked_text f.kind text ≡ Ok v → v ≡ value_of_text f.kind text
      → value_at place f new scratch piece ≡ Some (value_of_text f.kind text) → new ≡ old
      → IsTextDecided (checked_text f.kind text >>= (λ w. gives w (previous_at f.entry old))) f old new scratch piece (Ok place)
  text_given place text v c s h n = (
    record { value = Some v; next = previous_at f.entry old },
    rw c refl,
    record { value = ap Some s ∙ sym h; dictionary = n ∙ write_back f.entry old },
  )

  -- By another name of the decision.
  pub decided_as : {d e : Result Outcome Code} (r : Result ValueSource Code) → d ≡ e → IsTextDecided e f old new scratch piece r
      → IsTextDecided d f old new scratch piece r
  decided_as {d} {e} r i h = subst (λ (x : Result Outcome Code). IsTextDecided x f old new scratch piece r) (sym i) h

-- the text of a text
text_of_text : (kind : Kind) (v : List ℕ) → text_of (value_of_text kind v) ≡ v
text_of_text UInt32 v = refl
text_of_text Int32 v = refl
text_of_text UInt64 v = refl
text_of_text Int64 v = refl
text_of_text Decimal v = refl
text_of_text Ascii v = refl
text_of_text Unicode v = refl
text_of_text Bytes v = refl

checked_utf8 : (text : List ℕ) (v : ScalarData) (b : Bool) → is_utf8 text ≡ b → (if b then Ok (UnicodeText text) else Err R2) ≡ Ok v → v ≡ UnicodeText text
checked_utf8 text v true e h = cc h
checked_utf8 text v false e h = absurd (cc h)

-- a text that was checked
pub checked_is : (kind : Kind) (text : List ℕ) (v : ScalarData) → checked_text kind text ≡ Ok v → v ≡ value_of_text kind text
checked_is UInt32 text v h = cc h
checked_is Int32 text v h = cc h
checked_is UInt64 text v h = cc h
checked_is Int64 text v h = cc h
checked_is Decimal text v h = cc h
checked_is Ascii text v h = cc h
checked_is Unicode text v h = checked_utf8 text v (is_utf8 text) refl h
checked_is Bytes text v h = cc h

-- an ASCII text needs no check
pub checked_ascii : (kind : Kind) (text : List ℕ) → kind ≡ Ascii → checked_text kind text ≡ Ok (AsciiText text)
checked_ascii kind text e = ap (λ k. checked_text k text) e

pub value_of_ascii : (kind : Kind) (text : List ℕ) → kind ≡ Ascii → value_of_text kind text ≡ AsciiText text
value_of_ascii kind text e = ap (λ k. value_of_text k text) e

pub ascii_is_text : (kind : Kind) → kind ≡ Ascii → family kind ≡ texts
ascii_is_text kind e = ap family e

-- A text that was sent, by operator.
module _ (f : FieldData) (p : PreviousData) (text : List ℕ) (is_text : family f.kind ≡ texts) where
  checked_sent : checked f (value_of_text f.kind text) ≡ checked_text f.kind text
  checked_sent = ap (λ g. checked_in g f.kind (value_of_text f.kind text)) is_text ∙ ap (checked_text f.kind) (text_of_text f.kind text)

  pub decided_plain : f.operator ≢ Constant → f.operator ≢ Delta → null_empties f.operator ≡ false
      → decide f p true (sent_text f.kind (Some text)) ≡ (checked_text f.kind text >>= (λ w. gives w p))
  decided_plain n m e = by f.operator n m e ∙ ap (λ r. r >>= (λ w. gives w p)) checked_sent
    where
      by : (operator : Operator) → operator ≢ Constant → operator ≢ Delta → null_empties operator ≡ false
          → decide_by operator true f p (sent_text f.kind (Some text)) ≡ (checked f (value_of_text f.kind text) >>= (λ w. gives w p))
      by no_operator n m e = refl
      by Constant n m e = absurd (n refl)
      by Default n m e = refl
      by Copy n m e = absurd (cc e)
      by Increment n m e = absurd (cc e)
      by Delta n m e = absurd (m refl)
      by Tail n m e = absurd (cc e)

  decided_kept : (operator : Operator) → decide_by operator true f p
      (sent_text f.kind (Some text)) ≡ (checked f (value_of_text f.kind text) >>= keeps f.kind) → f.operator ≡ operator
      → decide f p true (sent_text f.kind (Some text)) ≡ kept_text f.kind text
  decided_kept operator h e = ap (λ (o : Operator). decide_by o true f p (sent_text f.kind (Some text))) e ∙ h ∙ ap (λ r. r >>= keeps f.kind) checked_sent

  pub decided_copy : f.operator ≡ Copy → decide f p true (sent_text f.kind (Some text)) ≡ kept_text f.kind text
  decided_copy e = decided_kept Copy refl e

  pub decided_increment : f.operator ≡ Increment → decide f p true (sent_text f.kind (Some text)) ≡ kept_text f.kind text
  decided_increment e = decided_kept Increment refl e

  decided_tail : f.operator ≡ Tail → decide f p true (sent_text f.kind (Some text))
      ≡ (tail_base f p >>= (λ base. kept_text f.kind (with_tail (text_of base) text)))
  decided_tail e = ap (λ (o : Operator). decide_by o true f p (sent_text f.kind (Some text))) e
      ∙ ap (λ (t : List ℕ). tail_base f p >>= (λ base. checked_text f.kind (with_tail (text_of base) t) >>= keeps f.kind)) (text_of_text f.kind text)

  pub decided_tail-ok : (base : ScalarData) → f.operator ≡ Tail → tail_base f p ≡ Ok base
      → decide f p true (sent_text f.kind (Some text)) ≡ kept_text f.kind (with_tail (text_of base) text)
  decided_tail-ok base e h = decided_tail e ∙ ap (λ (r : Result ScalarData Code). r >>= (λ b. kept_text f.kind (with_tail (text_of b) text))) h

-- What can be put at an entry has no text longer than the greatest.
storable_fits : (t : Terms) (e : ℕ) (v : ScalarData) → IsStorable t e v → length (text_of v) ≤ t.max_text
storable_fits t e (U n) h = omega arith
storable_fits t e (I x) h = omega arith
storable_fits t e (Dec x m) h = omega arith
storable_fits t e (AsciiText v) h = h.0
storable_fits t e (UnicodeText v) h = h.0
storable_fits t e (ByteVector v) h = h.0

of_kind_is : (kind found : Kind) (v w : ScalarData) (b : Bool) → same_kind kind found ≡ b → (if b then Ok v else Err D4) ≡ Ok w → v ≡ w
of_kind_is kind found v w true e h = cc h
of_kind_is kind found v w false e h = absurd (cc h)

-- the length of a tail behind what it keeps
pub length-with_tail : (base part : List ℕ) (most : ℕ) → length base ≤ most → length part ≤ most → length (with_tail base part) ≤ most
length-with_tail base part most h l = by (leb_tells (length part) (length base))
  where
    by : ((nat_le (length part) (length base) ≡ true) × (length part ≤ length base))
        ⊎ ((nat_le (length part) (length base) ≡ false) × (length base < length part))
        → length (if nat_le (length part) (length base) then take (length base - length part) base ++ part else part) ≤ most
    by (inl t) = let k = length-append (take (length base - length part) base) part in
        let j = length-take (length base - length part) base in let i = t.1 in rw (t.0, k, j) (omega (arith, h, i))
    by (inr t) = rw t.0 l

-- The base of a delta or of a tail is no longer than the greatest text.
module _ (s : Slots) (f : FieldData) (serves : Serves (length (slots_dictionary s)) (slots_terms s) f) (is_text : family f.kind ≡ texts)
    (keeps_one : keeps_value f.operator ≡ true) where
  start_by : (e : Option ℕ) → f.entry ≡ e → is_some e ≡ true → (i : Option ScalarData) → f.initial ≡ i
      → length (text_of (unwrap_or i (zero_in f.kind (family f.kind)))) ≤ s.max_text
  start_by None h j i k = absurd (cc j)
  start_by (Some e) h j None k = rw (ap (λ g. text_of (zero_in f.kind g)) is_text ∙ text_of_text f.kind []) (omega arith)
  start_by (Some e) h j (Some v) k = storable_fits (slots_terms s) e v (subst (HasRoomFor (slots_terms s) e) k (serves.initial_fits e h))

  start_fits : length (text_of (start_value f)) ≤ s.max_text
  start_fits = start_by f.entry refl (sym serves.kept ∙ keeps_one) f.initial refl

  held_fits : (kind : Kind) (v : ScalarData) → previous_at f.entry (slots_dictionary s) ≡ assigned kind v → length (text_of v) ≤ s.max_text
  held_fits kind v h = by f.entry h
    where
      by : (e : Option ℕ) → previous_at e (slots_dictionary s) ≡ assigned kind v → length (text_of v) ≤ s.max_text
      by None h = absurd (cc h)
      by (Some e) h = subst (λ (q : PreviousData). text_size q ≤ s.max_text) h (slots_texts_fit s e)

  delta_by : (p : PreviousData) → previous_at f.entry (slots_dictionary s) ≡ p → (base : ScalarData) → delta_base f p ≡ Ok base
      → length (text_of base) ≤ s.max_text
  delta_by undefined h base e = let k : start_value f ≡ base = cc e in subst (λ v. length (text_of v) ≤ s.max_text) k start_fits
  delta_by empty h base e = absurd (cc e)
  delta_by (assigned kind v) h base e = subst (λ w. length (text_of w) ≤ s.max_text)
      (of_kind_is f.kind kind v base (same_kind f.kind kind) refl e) (held_fits kind v h)

  tail_by : (p : PreviousData) → previous_at f.entry (slots_dictionary s) ≡ p → (base : ScalarData) → tail_base f p ≡ Ok base
      → length (text_of base) ≤ s.max_text
  tail_by undefined h base e = let k : start_value f ≡ base = cc e in subst (λ v. length (text_of v) ≤ s.max_text) k start_fits
  tail_by empty h base e = let k : start_value f ≡ base = cc e in subst (λ v. length (text_of v) ≤ s.max_text) k start_fits
  tail_by (assigned kind v) h base e = subst (λ w. length (text_of w) ≤ s.max_text)
      (of_kind_is f.kind kind v base (same_kind f.kind kind) refl e) (held_fits kind v h)

  kept_by : (base : List ℕ) (k : ℤ) (kept : Kept) → kept_of base k ≡ Ok kept → kept_length kept ≤ length base
  kept_by base (pos k) kept e = by (nat_le k (length base)) e
    where
      by : (b : Bool) → (if b then Ok (append_to (take (length base - k) base)) else Err D7) ≡ Ok kept → kept_length kept ≤ length base
      by true e = let i : append_to (take (length base - k) base) ≡ kept = cc e in let l = length-take (length base - k) base in
          subst (λ q. kept_length q ≤ length base) i (omega (arith, l))
      by false e = absurd (cc e)
  kept_by base (negsuc k) kept e = by (nat_le k (length base)) e
    where
      by : (b : Bool) → (if b then Ok (prepend_to (drop k base)) else Err D7) ≡ Ok kept → kept_length kept ≤ length base
      by true e = let i : prepend_to (drop k base) ≡ kept = cc e in let l = length-drop k base in subst (λ q. kept_length q ≤ length base) i (omega (arith, l))
      by false e = absurd (cc e)

  step_by : (r : Result ScalarData Code) → delta_base f (previous_at f.entry (slots_dictionary s)) ≡ r → (k : ℤ) (kept : Kept)
      → (r >>= (λ base. kept_of (text_of base) k)) ≡ Ok kept → kept_length kept ≤ s.max_text
  step_by (Ok base) h k kept e = let l = kept_by (text_of base) k kept e in
      let m = delta_by (previous_at f.entry (slots_dictionary s)) refl base h in omega (arith, l, m)
  step_by (Err c) h k kept e = absurd (cc e)

  kept_fits : (k : ℤ) (kept : Kept) → subtraction_step f (previous_at f.entry (slots_dictionary s)) k ≡ Ok kept → kept_length kept ≤ s.max_text
  kept_fits k kept e = step_by (delta_base f (previous_at f.entry (slots_dictionary s))) refl k kept e

  -- What is kept and the part have room together.
  pub tail_together : (base : ScalarData) (kept part : List ℕ) → tail_base f (previous_at f.entry (slots_dictionary s)) ≡ Ok base
      → with_tail (text_of base) part ≡ kept ++ part → length part ≤ s.max_text
      → length kept + length part ≤ s.max_text
  tail_together base kept part e w l =
      let m : length (with_tail (text_of base) part) ≤ s.max_text =
      length-with_tail (text_of base) part s.max_text (tail_by (previous_at f.entry (slots_dictionary s)) refl base e) l in
      let n : length (with_tail (text_of base) part) ≡ length kept + length part = ap length w ∙ length-append kept part in
      omega (arith, m, n)

  pub part_together : (k : ℤ) (kept : Kept) (part : List ℕ) → subtraction_step f (previous_at f.entry (slots_dictionary s)) k ≡ Ok kept
      → ((other : Kept) → subtraction_step f (previous_at f.entry (slots_dictionary s)) k ≡ Ok other
      → length part ≤ s.max_text - kept_length other) → kept_length kept + length part ≤ s.max_text
  part_together k kept part e l = let m = kept_fits k kept e in let n = l kept e in omega (arith, m, n)

-- other operators
pub not_emptied : (operator : Operator) → operator ≢ Copy → operator ≢ Increment → operator ≢ Tail → null_empties operator ≡ false
not_emptied no_operator n m k = refl
not_emptied Constant n m k = refl
not_emptied Default n m k = refl
not_emptied Copy n m k = absurd (n refl)
not_emptied Increment n m k = absurd (m refl)
not_emptied Delta n m k = refl
not_emptied Tail n m k = absurd (k refl)
