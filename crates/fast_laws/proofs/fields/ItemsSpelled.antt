-- The bytes of an item, under an operator that takes the item, are the field.
use Rattle.std.proofs.Common.{refl, sym, ap, ◌∙◌, subst}
use Rattle.std.proofs.lemmas.List.{append-nil}
use Rattle.std.specs.Prelude.{◌≡◌, ℕ, ◌-◌, ◌≤◌, Bool, true, false, nat_le, T, if◌then◌else◌, List, [], ◌++◌, length, ℤ, pos, Option, Some}
use Rattle.std.specs.Prelude.{None, Result, Ok, Err}
use Rattle.fast_wire.specs.meaning.Integers.{Range, unsigned_range, signed_range, delta_range, SpellsInt}
use Rattle.fast_wire.specs.meaning.Texts.{SpellsVector, SpellsDec}
use Rattle.fast_value.specs.declared.kinds.Kind.{Kind}
use Rattle.fast_value.specs.declared.kinds.Kind.TheVariants.{UInt32, Int32, UInt64, Int64, Decimal, Ascii, Unicode, Bytes}
use Rattle.fast_value.specs.meaning.Kinds.{ScalarData, Family, integers, decimals, texts, family}
use Rattle.fast_value.specs.declared.settings.Limits.{Limits}
use Rattle.fast_value.specs.meaning.Limits.{Bounds, bounds}
use Rattle.fast_value.specs.declared.codes.Code.{Code}
use Rattle.fast_value.specs.declared.codes.Code.TheVariants.{D2, D7, L1}
use Rattle.fast_tree.specs.declared.operators.Operator.{Operator}
use Rattle.fast_tree.specs.declared.operators.Operator.TheVariants.{None as no_operator, Constant, Default, Copy, Increment, Delta, Tail}
use Rattle.fast_tree.specs.meaning.Tree.{FieldData}
use Rattle.fast_dict.specs.meaning.Dictionary.{PreviousData}
use Rattle.fast_dict.specs.meaning.Operators.{Op, Outcome, Sent, nothing, null, value, integer_delta, decimal_delta, text_delta, Kept}
use Rattle.fast_dict.specs.meaning.Operators.{kept_length, IsPlainItem, IsDeltaIn, IsItemBy, decide, decide_by, integer_step, exponent_step}
use Rattle.fast_dict.specs.meaning.Operators.{mantissa_step, subtraction_step, text_step, gives_none}
use Rattle.fast_dict.specs.meaning.Operators
use Rattle.std.proofs.Math.Dec.{le→leb as le_leb}
use Rattle.fast_stream.specs.meaning.Phrases.{whole, Phrase, gives, ◌followed_by◌}
use Rattle.fast_stream.specs.meaning.Grammar.{Grammar, integer, ◌>>=◌, of_result, phrase_of}
use Rattle.fast_stream.proofs.readers.Grammars.{joins}
use Rattle.fast_stream.specs.meaning.Fields.{sized, text, field_term, item_in, item, change_in, sent, not_sent, field_by, field_phrase}
use Rattle.fast_stream.specs.meaning.Fields.{integer_change, decimal_change, text_change}
use Rattle.fast_laws.specs.meaning.Items.{SpellsText, SpellsNull, SpellsNoDelta, SpellsValue, SpellsItemBy, SpellsItem}

-- a first phrase with bytes, and a second one without; and two with bytes
one_then : {A B : Type 0} (p : Phrase A) (k : A → Phrase B) (w : List ℕ) (a : A) (b : B) → p w [] (whole a) → k a [] [] (whole b)
    → ◌followed_by◌ p k w [] (whole b)
unfolding ◌followed_by◌
one_then p k w a b h j = (w, [], [], [], a, h, j, sym (append-nil w), refl)

two_then : {A B : Type 0} (p : Phrase A) (k : A → Phrase B) (w u v : List ℕ) (a : A) (b : B) → w ≡ u ++ v → p u [] (whole a)
    → k a v [] (whole b) → ◌followed_by◌ p k w [] (whole b)
unfolding ◌followed_by◌
two_then p k w u v a b e h j = (u, v, [], [], a, h, j, e, refl)

given : {A : Type 0} (a b : A) → b ≡ a → gives a [] [] (whole b)
unfolding gives
given a b e = (refl, refl, e)

module _ (s : Bool) where
  settled : {A : Type 0} (r : Result A Code) (a : A) → r ≡ Ok a → phrase_of s (of_result r) [] [] (whole a)
  unfolding gives
  settled r a e = subst (λ z. phrase_of s (of_result z) [] [] (whole a)) (sym e) (refl, refl, refl)

  -- a result, and then; a term, and then one without bytes
  result_then : {A B : Type 0} (r : Result A Code) (k : A → Grammar B) (w : List ℕ) (a : A) (b : B) → r ≡ Ok a
      → phrase_of s (k a) w [] (whole b) → phrase_of s (of_result r >>= k) w [] (whole b)
  result_then r k w a b e h = subst (λ z. phrase_of s (of_result z >>= k) w [] (whole b)) (sym e) h

  term_then : {A B : Type 0} (g : Grammar A) (k : A → Grammar B) (w : List ℕ) (a : A) (b : B) → phrase_of s g w [] (whole a)
      → phrase_of s (k a) [] [] (whole b) → phrase_of s (g >>= k) w [] (whole b)
  term_then g k w a b h j = subst (λ z. phrase_of s (g >>= k) z [] (whole b)) (append-nil w) (joins s g k w [] [] [] a (whole b) h j)

abbrev bind_result : {A B : Type 0} → Result A Code → (A → Result B Code) → Result B Code
bind_result r k = Operators.◌>>=◌ r k

ok_or : {A : Type 0} → A → Result A Code → A
ok_or a (Ok b) = b
ok_or a (Err c) = a

same_ok : {A : Type 0} (a b : A) → ◌≡◌ {A = Result A Code} (Ok a) (Ok b) → a ≡ b
unfolding ok_or
same_ok a b e = ap (ok_or a) e

module _ (s : Bool) (l : Limits) where
  abbrev B : Bounds
  B = bounds l

  fits : (n r : ℕ) → n ≤ r → (if nat_le n r then Ok n else Err L1) ≡ Ok n
  fits n r h = go (nat_le n r) (le_leb n r h)
    where
      go : (b : Bool) → T b → (if b then Ok n else Err L1) ≡ Ok n
      go true t = refl
      go false t = elim t [ ]

  vector_of : (nullable : Bool) (r : ℕ) (t : Option (List ℕ)) (w : List ℕ) → SpellsVector s nullable r t w
      → phrase_of s (integer (unsigned_range 32) nullable D2 (sized r)) w [] (whole t)
  vector_of nullable r None w h = one_then _ _ w None None (h, refl) (given None None refl)
  vector_of nullable r (Some t) w (size, h, e, l) = two_then _ _ w size t (Some (pos (length t))) (Some t) e (h, refl)
      (result_then s _ _ t (length t) (Some t) (fits (length t) r l) (one_then _ _ t t (Some t) (refl, refl, refl) (given (Some t) (Some t) refl)))

  text_of : (kind : Kind) (nullable : Bool) (r : ℕ) (t : Option (List ℕ)) (w : List ℕ) → SpellsText s kind nullable r t w
      → phrase_of s (text kind nullable r) w [] (whole t)
  text_of Ascii nullable r t w h = one_then _ _ w t t (h, refl) (given t t refl)
  text_of UInt32 nullable r t w h = vector_of nullable r t w h
  text_of Int32 nullable r t w h = vector_of nullable r t w h
  text_of UInt64 nullable r t w h = vector_of nullable r t w h
  text_of Int64 nullable r t w h = vector_of nullable r t w h
  text_of Decimal nullable r t w h = vector_of nullable r t w h
  text_of Unicode nullable r t w h = vector_of nullable r t w h
  text_of Bytes nullable r t w h = vector_of nullable r t w h

  value_item : (k : Family) (f : FieldData) (v : ScalarData) (w : List ℕ) → SpellsValue s l.max_text f k v w
      → phrase_of s (item_in k B f) w [] (whole (value v))
  value_item (integers range) f v w (x, e, h) = one_then _ _ w (Some x) (value v) (h, refl) (given _ (value v) (ap value e))
  value_item decimals f v w (e, m, q, (u, y, h, j, r)) = two_then _ _ w u y (Some e) (value v) r (h, refl)
      (one_then _ _ y (Some m) (value v) (j, refl) (given _ (value v) (ap value q)))
  value_item texts f v w (t, e, h) = term_then s (text f.kind f.optional l.max_text) _ w (Some t) (value v)
      (text_of f.kind f.optional l.max_text (Some t) w h) (given _ (value v) (ap value e))

  null_item : (k : Family) (f : FieldData) (w : List ℕ) → SpellsNull s l.max_text f k w → phrase_of s (item_in k B f) w [] (whole null)
  null_item (integers range) f w h = one_then _ _ w None null (h, refl) (given null null refl)
  null_item decimals f w h = one_then _ _ w None null (h, refl) (given null null refl)
  null_item texts f w h = term_then s (text f.kind f.optional l.max_text) _ w None null (text_of f.kind f.optional l.max_text None w h) (given null null refl)

  -- deltas
  integer_delta_of : (f : FieldData) (p : PreviousData) (k : ℤ) (w : List ℕ) (o : Outcome) → SpellsInt s delta_range f.optional (Some k) w
      → integer_step f p k ≡ Ok o → phrase_of s (integer delta_range f.optional D2 (integer_change f p)) w [] (whole o)
  integer_delta_of f p k w o h e = one_then _ _ w (Some k) o (h, refl) (settled s _ o e)

  none_of : (r : Range) (c : Code) (f : FieldData) (p : PreviousData) (j : Option ℤ → Grammar Outcome) (w : List ℕ) (o : Outcome)
      → SpellsInt s r f.optional None w → phrase_of s (j None) [] [] (whole o) → phrase_of s (integer r f.optional c j) w [] (whole o)
  none_of r c f p j w o h e = one_then _ _ w None o (h, refl) e

  null_change : (k : Family) (f : FieldData) (p : PreviousData) (w : List ℕ) (o : Outcome) → SpellsNoDelta s f k w → gives_none p ≡ Ok o
      → phrase_of s (change_in k B f p) w [] (whole o)
  null_change (integers range) f p w o h e = none_of delta_range D2 f p (integer_change f p) w o h (settled s _ o e)
  null_change decimals f p w o h e = none_of delta_range D2 f p (decimal_change f p) w o h (settled s _ o e)
  null_change texts f p w o h e = none_of (signed_range 31) D7 f p (text_change B f p) w o h (settled s _ o e)

  -- a step after which another one follows
  split : {A B : Type 0} (r : Result A Code) (k : A → Result B Code) (b : B) → bind_result r k ≡ Ok b → (a : A) × (r ≡ Ok a) × (k a ≡ Ok b)
  split (Ok a) k b e = (a, refl, e)
  split (Err c) k b e = absurd (let z : ◌≡◌ {A = Result _ Code} (Err c) (Ok b) = e in cc)

  decimal_delta_of : (f : FieldData) (p : PreviousData) (k j : ℤ) (w : List ℕ) (o : Outcome)
      → SpellsDec s delta_range delta_range f.optional (Some (k, j)) w
      → bind_result (exponent_step f p k) (λ e. mantissa_step f p e j) ≡ Ok o → phrase_of s (change_in decimals B f p) w [] (whole o)
  decimal_delta_of f p k j w o (u, v, h, i, q) e =
      let r = split (exponent_step f p k) (λ x. mantissa_step f p x j) o e in
      two_then _ _ w u v (Some k) o q (h, refl) (result_then s _ _ v r.0 o r.1 (one_then _ _ v (Some j) o (i, refl) (settled s _ o r.2)))

  text_delta_of : (f : FieldData) (p : PreviousData) (k : ℤ) (part w : List ℕ) (o : Outcome)
      → SpellsItemBy s l.max_text Delta f p (text_delta k part) w
      → bind_result (subtraction_step f p k) (λ kept. text_step f kept part) ≡ Ok o → phrase_of s (change_in texts B f p) w [] (whole o)
  text_delta_of f p k part w o (kept, u, v, q, h, i, r) e =
      let r2 = split (subtraction_step f p k) (λ kept. text_step f kept part) o e in
      let same : kept ≡ r2.0 = same_ok kept r2.0 (sym q ∙ r2.1) in
      two_then _ _ w u v (Some k) o r (h, refl) (result_then s _ _ v kept o q
      (term_then s (text f.kind false (l.max_text - kept_length kept)) _ v (Some part) o
      (text_of f.kind false (l.max_text - kept_length kept) (Some part) v i)
      (settled s _ o (subst (λ z. text_step f z part ≡ Ok o) (sym same) r2.2))))

  delta_of : (k : Family) → (f : FieldData) → family f.kind ≡ k → (p : PreviousData) (item : Sent) (w : List ℕ) (o : Outcome)
      → SpellsItemBy s l.max_text Delta f p item w → IsDeltaIn k f.optional item → decide_by Delta true f p item ≡ Ok o
      → phrase_of s (change_in k B f p) w [] (whole o)
  delta_of k f q p null w o h i e = null_change k f p w o (subst (λ z. SpellsNoDelta s f z w) q h) e
  delta_of (integers range) f q p (integer_delta k) w o h i e = integer_delta_of f p k w o h e
  delta_of decimals f q p (decimal_delta k j) w o h i e = decimal_delta_of f p k j w o h e
  delta_of texts f q p (text_delta k part) w o h i e = text_delta_of f p k part w o h e
  delta_of k f q p nothing w o h i e = elim i [ ]
  delta_of k f q p (value v) w o h i e = elim i [ ]
  delta_of k f q p other w o h i e = elim i [ ]

  -- fields
  plain_item : (f : FieldData) (p : PreviousData) (x : Sent) (w : List ℕ) → SpellsItemBy s l.max_text no_operator f p x w → IsPlainItem f x
      → phrase_of s (item B f) w [] (whole x)
  plain_item f p null w h i = null_item (family f.kind) f w h
  plain_item f p (value v) w h i = value_item (family f.kind) f v w h
  plain_item f p nothing w h i = elim i [ ]
  plain_item f p (integer_delta k) w h i = elim i [ ]
  plain_item f p (decimal_delta k j) w h i = elim i [ ]
  plain_item f p (text_delta k part) w h i = elim i [ ]

  sent_of : (o : Operator) (f : FieldData) (p : PreviousData) (x : Sent) (w : List ℕ) (out : Outcome) → f.operator ≡ o
      → SpellsItemBy s l.max_text no_operator f p x w → IsPlainItem f x → decide_by o true f p x ≡ Ok out
      → phrase_of s (sent B f p) w [] (whole out)
  sent_of o f p x w out q h i e = term_then s (item B f) _ w x out (plain_item f p x w h i)
      (settled s _ out (subst (λ z. decide_by z true f p x ≡ Ok out) (sym q) e))

  unsent_of : (o : Operator) (bit : Bool) (f : FieldData) (p : PreviousData) (x : Sent) (w : List ℕ) (out : Outcome) → f.operator ≡ o
      → SpellsItemBy s l.max_text o f p x w → x ≡ nothing → decide_by o bit f p x ≡ Ok out → phrase_of s (not_sent f p bit) w [] (whole out)
  unsent_of o bit f p x w out q h i e =
      let none_there : w ≡ [] = subst (λ z. SpellsItemBy s l.max_text o f p z w) i h in
      let d : decide f p bit nothing ≡ Ok out = subst (λ z. decide_by z bit f p nothing ≡ Ok out) (sym q) (subst (λ z. decide_by o bit f p z ≡ Ok out) i e) in
      subst (λ z. phrase_of s (not_sent f p bit) z [] (whole out)) (sym none_there) (settled s _ out d)

  field_by_of : (o : Operator) (bit : Bool) (f : FieldData) (p : PreviousData) (x : Sent) (w : List ℕ) (out : Outcome) → f.operator ≡ o
      → SpellsItemBy s l.max_text o f p x w → IsItemBy o bit f x → decide_by o bit f p x ≡ Ok out
      → phrase_of s (field_by o bit B f p) w [] (whole out)
  field_by_of no_operator bit f p x w out q h i e = sent_of no_operator f p x w out q h i e
  field_by_of Constant bit f p x w out q h i e = unsent_of Constant bit f p x w out q h i e
  field_by_of Delta bit f p x w out q h i e = delta_of (family f.kind) f refl p x w out h i e
  field_by_of Default true f p x w out q h i e = sent_of Default f p x w out q h i e
  field_by_of Copy true f p x w out q h i e = sent_of Copy f p x w out q h i e
  field_by_of Increment true f p x w out q h i e = sent_of Increment f p x w out q h i e
  field_by_of Tail true f p x w out q h i e = sent_of Tail f p x w out q h i e
  field_by_of Default false f p x w out q h i e = unsent_of Default false f p x w out q h i e
  field_by_of Copy false f p x w out q h i e = unsent_of Copy false f p x w out q h i e
  field_by_of Increment false f p x w out q h i e = unsent_of Increment false f p x w out q h i e
  field_by_of Tail false f p x w out q h i e = unsent_of Tail false f p x w out q h i e

-- What spells an item that the operator takes spells the field.
pub item_spelled : (l : Limits) (f : FieldData) (p : PreviousData) (bit : Bool) (x : Sent) (v : Option ScalarData) (next : PreviousData)
    (w : List ℕ) → SpellsItem l f p x w → Op f p bit x v next
    → field_phrase l f p bit w [] (whole (record { value = v; next = next }))
unfolding field_term
item_spelled l f p bit x v next w h (i, e) = field_by_of l.strict l f.operator bit f p x w (record { value = v; next = next }) refl h i e
