-- Fields of texts of a kind, an operator and an entry that are known.
use Rattle.std.proofs.Common.{refl, sym, ap, ◌∙◌, subst, inl, inr, arith, length-append}
use Rattle.std.specs.Prelude.{◌≡◌, ◌≢◌, ◌⊎◌, ℕ, ◌+◌, ◌<◌, ◌≤◌, Bool, true, false, nat_le, List, [], ◌∷◌, ◌++◌, length, take, Some, None, is_some, unwrap_or, Ok}
use Rattle.std.proofs.lemmas.Bool.Decides.{leb_tells}
use Rattle.fast_value.specs.declared.kinds.Kind.{Kind}
use Rattle.fast_value.specs.declared.kinds.Kind.TheVariants.{Ascii}
use Rattle.fast_value.specs.declared.codes.Code.TheVariants.{D6}
use Rattle.fast_value.specs.meaning.Limits.{Bounds}
use Rattle.fast_value.specs.meaning.Kinds.{ScalarData, AsciiText, family, value_of_text}
use Rattle.fast_tree.specs.declared.operators.Operator.{Operator}
use Rattle.fast_tree.specs.declared.operators.Operator.TheVariants as Op
use Rattle.fast_tree.specs.meaning.Tree.{FieldData}
use Rattle.fast_tree.specs.meaning.Entries.{keeps_value}
use Rattle.fast_dict.specs.declared.slots.Slots.{Slots}
use Rattle.fast_dict.specs.meaning.Answers.{kept_text}
use Rattle.fast_dict.specs.meaning.Dictionary.{Dictionary, PreviousData, undefined, empty, assigned, previous_at, write_at}
use Rattle.fast_dict.specs.meaning.Operators.{decide, decide_by, nothing, unsent, start_value, zero_in, tail_base, of_kind, with_tail, null_empties}
use Rattle.fast_dict.specs.meaning.Held.{text_size}
use Rattle.fast_dict.specs.meaning.Slots.{slots_dictionary, slots_texts_fit, HoldsAscii}
use Rattle.fast_stream.specs.meaning.Fields.{sent_text}
use Rattle.fast_units.specs.device.Deciding.{IsDecided}
use Rattle.fast_items.specs.device.FieldsAs.{IsFieldAs, GivesWhole, reader_in}
use Rattle.fast_units.specs.device.NextUnits.{IsNextText, text_or_null}
use Rattle.fast_units.specs.device.TextDecisions.{IsTextDecided}
use Rattle.fast_items.specs.device.TextItems.{SendsText, text_source, text_taken, HoldsNothing, IsPutText, IsSentText, IsFirstTail}
use Rattle.fast_units.specs.declared.progress.Progress.TheVariants.{Whole}
use Rattle.fast_units.specs.declared.source.ValueSource.{ValueSource}
use Rattle.fast_units.specs.declared.source.ValueSource.TheVariants as From
use Rattle.fast_units.proofs.Deciding.{decided_as, copy_decided, absent_decided, write_same}
use Rattle.fast_units.proofs.NextUnits.{text_unit}
use Rattle.fast_units.proofs.TextOutcomes.{absent_emptied, absent_left, ascii_is_text, checked_ascii, checked_is, decided_as as text_as}
use Rattle.fast_units.proofs.TextOutcomes.{decided_copy, decided_plain, decided_tail-ok, length-with_tail, text_given, text_kept}
use Rattle.fast_units.proofs.TextUnits.{text_field, text_last}

-- Nothing is sent under copy or tail.
module _ (f : FieldData) (d : Dictionary) (kind : Kind) (optional : Bool) (operator : Operator) (entry : ℕ)
    (which : (operator ≡ Op.Copy) ⊎ (operator ≡ Op.Tail)) (said : IsFieldAs f kind optional operator entry) where
  keeps_one : (operator ≡ Op.Copy) ⊎ (operator ≡ Op.Tail) → keeps_value operator ≡ true
  keeps_one (inl e) = ap keeps_value e
  keeps_one (inr e) = ap keeps_value e

  goes_unsent : (p : PreviousData) → (operator ≡ Op.Copy) ⊎ (operator ≡ Op.Tail) → decide f p false nothing ≡ unsent f p
  goes_unsent p (inl e) = ap (λ o. decide_by o false f p nothing) (said.operator ∙ e)
  goes_unsent p (inr e) = ap (λ o. decide_by o false f p nothing) (said.operator ∙ e)

  not_increment : (operator ≡ Op.Copy) ⊎ (operator ≡ Op.Tail) → f.operator ≢ Op.Increment
  not_increment (inl e) h = let k : Op.Copy ≡ Op.Increment = sym e ∙ sym said.operator ∙ h in absurd (cc k)
  not_increment (inr e) h = let k : Op.Tail ≡ Op.Increment = sym e ∙ sym said.operator ∙ h in absurd (cc k)

  at_entry : (p : PreviousData) → previous_at (Some entry) d ≡ p → previous_at f.entry d ≡ p
  at_entry p h = ap (λ e. previous_at e d) (said.entry (keeps_one which)) ∙ h

  -- The entry holds a value of the field's kind.
  pub unsent_held : (v : ScalarData) → previous_at (Some entry) d ≡ assigned kind v
      → IsDecided (decide f (previous_at f.entry d) false nothing) f d d (Ok From.Entry)
  unsent_held v h = decided_as f d d (Ok From.Entry) (goes_unsent (previous_at f.entry d) which)
      (copy_decided f d kind v (not_increment which) (at_entry (assigned kind v) h) (sym said.kind))

  -- It is empty.
  pub unsent_empty : optional ≡ true → previous_at (Some entry) d ≡ empty → IsDecided (decide f (previous_at f.entry d) false nothing) f d d (Ok From.Absent)
  unsent_empty o h =
      let p = at_entry empty h in
      decided_as f d d (Ok From.Absent) (goes_unsent (previous_at f.entry d) which ∙ ap (unsent f) p)
      (absent_decided f d d D6 (said.optional ∙ o) (sym (write_same f.entry empty d p)))

-- The kinds of operators under which a text is sent as it is, or as a tail.
sends_other : (operator : Operator) → SendsText operator → (operator ≢ Op.Delta) × (operator ≢ Op.Constant)
sends_other Op.None h = (λ e. absurd (cc e), λ e. absurd (cc e))
sends_other Op.Constant h = absurd h
sends_other Op.Default h = (λ e. absurd (cc e), λ e. absurd (cc e))
sends_other Op.Copy h = (λ e. absurd (cc e), λ e. absurd (cc e))
sends_other Op.Increment h = absurd h
sends_other Op.Delta h = absurd h
sends_other Op.Tail h = (λ e. absurd (cc e), λ e. absurd (cc e))

-- A text, or NULL, of a field stands whole in the bytes, and is decided so.
given_whole : (f : FieldData) (strict : Bool) (l : Bounds) (optional : Bool) (operator : Operator) (entry : ℕ) (rest : List ℕ)
    (old new : Slots) (scratch : List ℕ) (source : ValueSource) (text : List ℕ) (is_text : Bool) (n : ℕ)
    → SendsText operator → IsFieldAs f Ascii optional operator entry → IsNextText optional l.max_text rest text (Whole is_text n)
    → IsTextDecided (decide f (previous_at f.entry (slots_dictionary old)) true (sent_text f.kind (text_or_null text is_text))) f
    (slots_dictionary old) (slots_dictionary new) scratch (take n rest) (Ok source)
    → GivesWhole (reader_in old strict l f) f rest (slots_dictionary old) (slots_dictionary new) scratch source 0 n
given_whole f strict l optional operator entry rest old new scratch source text is_text n sends said next decided =
    let p = previous_at f.entry (slots_dictionary old) in
    let (no_delta, no_constant) = sends_other operator sends in
    let here = text_field strict l f p said.kind (λ h. no_delta (sym said.operator ∙ h)) (λ h. no_constant (sym said.operator ∙ h)) in
    let x = text_or_null text is_text in
    let unit : IsNextText f.optional l.max_text rest text (Whole is_text n) =
    subst (λ b. IsNextText b l.max_text rest text (Whole is_text n)) (sym said.optional) next in
    text_last here f rest (slots_dictionary old) (slots_dictionary new) scratch n x
    (text_unit strict f.optional l.max_text rest text (Whole is_text n) unit)
    (decide f p true (sent_text f.kind x)) (Ok source) _ refl refl decided

-- A text, or NULL, stands whole in the bytes, and is put where it stays.
pub sent_whole : (optional : Bool) (operator : Operator) (entry room : ℕ) (rest : List ℕ) (old new : Slots) (scratch : List ℕ)
    (source : ValueSource) (text : List ℕ) (is_text : Bool) (n : ℕ)
    → IsNextText optional room rest text (Whole is_text n) → IsPutText operator entry (text_or_null text is_text) old new scratch source
    → IsSentText Ascii optional operator entry room rest old new scratch (record { source = source; from = 0; bytes = n })
sent_whole optional operator entry room rest old new scratch source text is_text n next (sends, stands, held, put) f strict l e said serves =
    given_whole f strict l optional operator entry rest old new scratch source text is_text n sends said
    (subst (λ m. IsNextText optional m rest text (Whole is_text n)) (sym e) next) (put f optional (take n rest) said serves)

-- The base of a tail where nothing is held, and of one without initial value.
base_of : (f : FieldData) (p : PreviousData) → HoldsNothing p → tail_base f p ≡ Ok (start_value f)
base_of f undefined h = refl
base_of f empty h = refl
base_of f (assigned kind v) h = absurd h

starts_empty : (f : FieldData) → f.initial ≡ None → f.kind ≡ Ascii → start_value f ≡ AsciiText []
starts_empty f none kind = ap (λ i. unwrap_or i (zero_in f.kind (family f.kind))) none ∙ ap (λ k. zero_in k (family k)) kind

-- A tail behind no text is all of the text.
tail_alone : (part : List ℕ) → with_tail [] part ≡ part
tail_alone [] = refl
tail_alone (x ∷ part) = by (leb_tells (length (x ∷ part)) 0)
  where
    by : ((nat_le (length (x ∷ part)) 0 ≡ true) × (length (x ∷ part) ≤ 0))
        ⊎ ((nat_le (length (x ∷ part)) 0 ≡ false) × (0 < length (x ∷ part))) → with_tail [] (x ∷ part) ≡ x ∷ part
    by (inl t) = let h = t.1 in absurd (omega (arith, h))
    by (inr t) = rw t.0 refl

-- What is decided of a text that was sent.
module _ (f : FieldData) (optional : Bool) (operator : Operator) (entry : ℕ) (old new : Dictionary) (scratch piece text : List ℕ)
    (said : IsFieldAs f Ascii optional operator entry) where
  -- It stands in the scratch, and the entry, if there is one, is as it was.
  pub scratch_decided : operator ≢ Op.Constant → operator ≢ Op.Delta → null_empties operator ≡ false → new ≡ old → scratch ≡ text
      → IsTextDecided (decide f (previous_at f.entry old) true (sent_text f.kind (Some text))) f old new scratch piece (Ok From.Scratch)
  scratch_decided no_constant no_delta left same h =
      let e = checked_ascii f.kind text said.kind in
      text_as f old new scratch piece (Ok From.Scratch)
      (decided_plain f (previous_at f.entry old) text (ascii_is_text f.kind said.kind) (λ i. no_constant (sym said.operator ∙ i))
      (λ i. no_delta (sym said.operator ∙ i)) (ap null_empties said.operator ∙ left))
      (text_given f old new scratch piece From.Scratch text (AsciiText text) e (checked_is f.kind text (AsciiText text) e)
      (ap (λ t. Some (value_of_text f.kind t)) h) same)

  kept_at : keeps_value operator ≡ true → entry < length old → new ≡ write_at (Some entry) (assigned Ascii (AsciiText text)) old
      → IsTextDecided (kept_text f.kind text) f old new scratch piece (Ok From.Entry)
  kept_at keeps within written =
      let e = said.entry keeps in
      text_kept f old new scratch piece text (AsciiText text) (checked_ascii f.kind text said.kind) (ap is_some e)
      (λ i h. let k : Some entry ≡ Some i = sym e ∙ h in let j : entry ≡ i = cc k in subst (λ m. m < length old) j within)
      (written ∙ ap (λ k. write_at (Some entry) (assigned k (AsciiText text)) old) (sym said.kind)
      ∙ ap (λ o. write_at o (assigned f.kind (AsciiText text)) old) (sym e))

  -- Under copy the entry keeps it.
  pub copy_kept : operator ≡ Op.Copy → entry < length old → new ≡ write_at (Some entry) (assigned Ascii (AsciiText text)) old
      → IsTextDecided (decide f (previous_at f.entry old) true (sent_text f.kind (Some text))) f old new scratch piece (Ok From.Entry)
  copy_kept is within written =
      text_as f old new scratch piece (Ok From.Entry) (decided_copy f (previous_at f.entry old) text (ascii_is_text f.kind said.kind)
      (said.operator ∙ is)) (kept_at (ap keeps_value is) within written)

  -- It is a tail behind what the entry held, whose text the entry keeps then.
  pub tail_kept : (base part : List ℕ) → operator ≡ Op.Tail → entry < length old
      → previous_at (Some entry) old ≡ assigned Ascii (AsciiText base) → text ≡ with_tail base part
      → new ≡ write_at (Some entry) (assigned Ascii (AsciiText text)) old
      → IsTextDecided (decide f (previous_at f.entry old) true (sent_text f.kind (Some part))) f old new scratch piece (Ok From.Entry)
  tail_kept base part is within held joined written =
      let p : previous_at f.entry old ≡ assigned Ascii (AsciiText base) = ap (λ e. previous_at e old) (said.entry (ap keeps_value is)) ∙ held in
      let found : tail_base f (previous_at f.entry old) ≡ Ok (AsciiText base) = ap (tail_base f) p ∙ ap (λ k. of_kind k Ascii (AsciiText base)) said.kind in
      text_as f old new scratch piece (Ok From.Entry)
      (decided_tail-ok f (previous_at f.entry old) part (ascii_is_text f.kind said.kind) (AsciiText base) (said.operator ∙ is) found
      ∙ ap (kept_text f.kind) (sym joined))
      (kept_at (ap keeps_value is) within written)

  -- It is a tail behind no text, since the entry held nothing and the field has no initial value.
  pub first_kept : operator ≡ Op.Tail → f.initial ≡ None → entry < length old → HoldsNothing (previous_at (Some entry) old)
      → new ≡ write_at (Some entry) (assigned Ascii (AsciiText text)) old
      → IsTextDecided (decide f (previous_at f.entry old) true (sent_text f.kind (Some text))) f old new scratch piece (Ok From.Entry)
  first_kept is none within nothing_held written =
      let at : f.entry ≡ Some entry = said.entry (ap keeps_value is) in
      let found : tail_base f (previous_at f.entry old) ≡ Ok (AsciiText []) =
      base_of f (previous_at f.entry old) (subst (λ e. HoldsNothing (previous_at e old)) (sym at) nothing_held) ∙ ap Ok (starts_empty f none said.kind) in
      text_as f old new scratch piece (Ok From.Entry)
      (decided_tail-ok f (previous_at f.entry old) text (ascii_is_text f.kind said.kind) (AsciiText []) (said.operator ∙ is) found
      ∙ ap (kept_text f.kind) (tail_alone text))
      (kept_at (ap keeps_value is) within written)

-- A first tail of a field without initial value stands whole in the bytes, and the entry keeps it.
pub first_whole : (optional : Bool) (entry room : ℕ) (rest : List ℕ) (old new : Slots) (scratch text : List ℕ) (n : ℕ)
    → IsNextText optional room rest text (Whole true n) → entry < length (slots_dictionary old)
    → HoldsNothing (previous_at (Some entry) (slots_dictionary old))
    → slots_dictionary new ≡ write_at (Some entry) (assigned Ascii (AsciiText text)) (slots_dictionary old)
    → IsFirstTail Ascii optional entry room rest old new scratch (text_taken Op.Tail n)
first_whole optional entry room rest old new scratch text n next within nothing_held written f strict l none e said serves =
    given_whole f strict l optional Op.Tail entry rest old new scratch From.Entry text true n tt said
    (subst (λ m. IsNextText optional m rest text (Whole true n)) (sym e) next)
    (first_kept f optional Op.Tail entry (slots_dictionary old) (slots_dictionary new) scratch (take n rest) text said refl none within nothing_held written)

-- The text is put where it stays.
module _ (operator : Operator) (entry : ℕ) (old new : Slots) (scratch : List ℕ) where
  scratch_by : (text : List ℕ) (o : Operator) → operator ≡ o → SendsText o → null_empties o ≡ false → text_source o ≡ From.Scratch
      → o ≢ Op.Constant → o ≢ Op.Delta → new ≡ old → scratch ≡ text
      → IsPutText operator entry (Some text) old new scratch (text_source operator)
  scratch_by text o e sends left stands no_constant no_delta same h =
      let source : text_source operator ≡ From.Scratch = ap text_source e ∙ stands in
      subst (λ s. IsPutText operator entry (Some text) old new scratch s) (sym source) (
        subst SendsText (sym e) sends,
        tt,
        tt,
        λ f optional piece said serves. scratch_decided f optional operator entry (slots_dictionary old) (slots_dictionary new) scratch piece text said
            (λ i. no_constant (sym e ∙ i)) (λ i. no_delta (sym e ∙ i)) (ap null_empties e ∙ left) (ap slots_dictionary same) h,
      )

  pub scratch_put : (text : List ℕ) → (operator ≡ Op.None) ⊎ (operator ≡ Op.Default) → new ≡ old → scratch ≡ text
      → IsPutText operator entry (Some text) old new scratch (text_source operator)
  scratch_put text (inl e) same h = scratch_by text Op.None e tt refl refl (λ i. absurd (cc i)) (λ i. absurd (cc i)) same h
  scratch_put text (inr e) same h = scratch_by text Op.Default e tt refl refl (λ i. absurd (cc i)) (λ i. absurd (cc i)) same h

  pub copy_put : (text : List ℕ) → operator ≡ Op.Copy → entry < length (slots_dictionary old) → HoldsAscii new entry
      → slots_dictionary new ≡ write_at (Some entry) (assigned Ascii (AsciiText text)) (slots_dictionary old)
      → IsPutText operator entry (Some text) old new scratch (text_source operator)
  copy_put text e within holds written =
      subst (λ s. IsPutText operator entry (Some text) old new scratch s) (sym (ap text_source e)) (
        subst SendsText (sym e) tt,
        ap keeps_value e,
        holds,
        λ f optional piece said serves. copy_kept f optional operator entry (slots_dictionary old)
            (slots_dictionary new) scratch piece text said e within written,
      )

  pub tail_put : (base part text : List ℕ) → operator ≡ Op.Tail → entry < length (slots_dictionary old) → HoldsAscii new entry
      → previous_at (Some entry) (slots_dictionary old) ≡ assigned Ascii (AsciiText base)
      → text ≡ with_tail base part → slots_dictionary new ≡ write_at (Some entry) (assigned Ascii (AsciiText text)) (slots_dictionary old)
      → IsPutText operator entry (Some part) old new scratch (text_source operator)
  tail_put base part text e within holds held joined written =
      subst (λ s. IsPutText operator entry (Some part) old new scratch s) (sym (ap text_source e)) (
        subst SendsText (sym e) tt,
        ap keeps_value e,
        holds,
        λ f optional piece said serves. tail_kept f optional operator entry (slots_dictionary old)
            (slots_dictionary new) scratch piece text said base part e within held joined written,
      )

  -- NULL leaves the entry as it is, or makes it empty.
  left_by : (o : Operator) → operator ≡ o → SendsText o → null_empties o ≡ false → o ≢ Op.Constant → new ≡ old
      → IsPutText operator entry None old new scratch From.Absent
  left_by o e sends left no_constant same = (
    subst SendsText (sym e) sends,
    tt,
    tt,
    λ f optional piece said serves. absent_left f (slots_dictionary old) (slots_dictionary new) scratch piece
        (λ i. no_constant (sym e ∙ sym said.operator ∙ i)) (ap null_empties (said.operator ∙ e) ∙ left) (ap slots_dictionary same),
  )

  pub null_left : (operator ≡ Op.None) ⊎ (operator ≡ Op.Default) → new ≡ old → IsPutText operator entry None old new scratch From.Absent
  null_left (inl e) same = left_by Op.None e tt refl (λ i. absurd (cc i)) same
  null_left (inr e) same = left_by Op.Default e tt refl (λ i. absurd (cc i)) same

  emptied_by : (o : Operator) → operator ≡ o → SendsText o → null_empties o ≡ true → keeps_value o ≡ true → o ≢ Op.Constant
      → slots_dictionary new ≡ write_at (Some entry) empty (slots_dictionary old)
      → IsPutText operator entry None old new scratch From.Absent
  emptied_by o e sends empties keeps no_constant written = (
    subst SendsText (sym e) sends,
    tt,
    tt,
    λ f optional piece said serves. absent_emptied f (slots_dictionary old) (slots_dictionary new) scratch piece
        (λ i. no_constant (sym e ∙ sym said.operator ∙ i)) (ap null_empties (said.operator ∙ e) ∙ empties)
        (written ∙ ap (λ x. write_at x empty (slots_dictionary old)) (sym (said.entry (ap keeps_value e ∙ keeps)))),
  )

  pub null_emptied : (operator ≡ Op.Copy) ⊎ (operator ≡ Op.Tail)
      → slots_dictionary new ≡ write_at (Some entry) empty (slots_dictionary old)
      → IsPutText operator entry None old new scratch From.Absent
  null_emptied (inl e) written = emptied_by Op.Copy e tt refl refl (λ i. absurd (cc i)) written
  null_emptied (inr e) written = emptied_by Op.Tail e tt refl refl (λ i. absurd (cc i)) written

-- A tail that fits has room behind what it keeps of a text that is held.
pub tail_fits : (s : Slots) (entry : ℕ) (base kept part : List ℕ)
    → previous_at (Some entry) (slots_dictionary s) ≡ assigned Ascii (AsciiText base) → with_tail base part ≡ kept ++ part
    → length part ≤ s.max_text
    → length kept + length part ≤ s.max_text
tail_fits s entry base kept part held joined fits =
    let b : length base ≤ s.max_text = subst (λ q. text_size q ≤ s.max_text) held (slots_texts_fit s entry) in
    let m : length (with_tail base part) ≤ s.max_text = length-with_tail base part s.max_text b fits in
    let n : length (with_tail base part) ≡ length kept + length part = ap length joined ∙ length-append kept part in
    omega (arith, m, n)
