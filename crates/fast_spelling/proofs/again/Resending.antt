-- Of a value that an operator gave, the rule has an item. It can be sent, unless it is an ASCII text that begins with U+0000.
use Rattle.std.proofs.Common.{int_eq, ◌≡◌, ◌≢◌, ◌⊎◌, inl, inr, ℕ, ◌-◌, ◌<◌, ◌≤◌, List, [], ◌∷◌, ◌++◌, length, take, drop, refl, ap, sym, subst, ◌∙◌, arith}
use Rattle.std.specs.Prelude.{Bool, true, false, ◌&&◌, All, int_le, nat_eq, if◌then◌else◌, ℤ, pos, negsuc, ◌+ℤ◌, ◌-ℤ◌, Option, Some, None}
use Rattle.std.specs.Prelude.{Result, Ok, Err, nat_le, IfSome}
use Rattle.std.proofs.lemmas.Int.{ints}
use Rattle.std.proofs.lemmas.Bool.{cases_Bool}
use Rattle.std.proofs.lemmas.Bool.Decides.{eqb_tells, Decides-int_eq}
use Rattle.std.proofs.lemmas.List.{length-append}
use Rattle.std.proofs.lemmas.List.Elements.{All-append, All-take, All-drop}
use Rattle.fast_value.specs.declared.kinds.Kind.{Kind}
use Rattle.fast_value.specs.declared.codes.Code.{Code}
use Rattle.fast_value.specs.declared.codes.Code.TheVariants.{D2, D7, R1}
use Rattle.fast_value.specs.declared.settings.Limits.{Limits}
use Rattle.fast_value.specs.meaning.Kinds.{Range, IsWithin, signed_range, exponent_range, ScalarData, U, I, Dec, AsciiText, UnicodeText}
use Rattle.fast_value.specs.meaning.Kinds.{ByteVector, Family, integers, decimals, texts, family, value_of_integer, value_of_text}
use Rattle.fast_value.specs.meaning.Kinds.{integer_of, exponent_of, mantissa_of, text_of, IsOfKind}
use Rattle.fast_tree.specs.declared.operators.Operator.{Operator}
use Rattle.fast_tree.specs.declared.operators.Operator.TheVariants.{None as no_operator, Constant, Default, Copy, Increment, Delta, Tail}
use Rattle.fast_tree.specs.meaning.Tree.{FieldData}
use Rattle.fast_notation.specs.meaning.Uses.{suits}
use Rattle.fast_dict.specs.meaning.Dictionary.{PreviousData, empty, assigned}
use Rattle.fast_dict.specs.meaning.Operators.{◌>>=◌, Outcome, Sent, nothing, null, value, integer_delta, decimal_delta, text_delta, Kept}
use Rattle.fast_dict.specs.meaning.Operators.{append_to, prepend_to, kept_of, kept_length, joined, with_tail, ranged, range_in, range_of}
use Rattle.fast_dict.specs.meaning.Operators.{checked, checked_text, gives, keeps, fixed, delta_base, tail_base, exponent_step}
use Rattle.fast_dict.specs.meaning.Operators.{mantissa_step, subtraction_step, text_step, sent_delta, decide_by, IsValueIn, IsDeltaIn}
use Rattle.fast_dict.specs.meaning.Operators.{IsItemBy}
use Rattle.fast_dict.specs.meaning.Rule.{IsDelta, SentBy}
use Rattle.fast_stream.proofs.readers.Integers.{decides-within}
use Rattle.fast_spelling.specs.meaning.Again.{IsSoundEntry, IsGranted, IsPlainBy}
use Rattle.fast_spelling.specs.meaning.Encoding.{ShortestValue, SpellsSentBy}
use Rattle.fast_spelling.specs.device.Fields.{next_by}
use Rattle.fast_spelling.specs.meaning.Refusals.{HasZeroInFront}
use Rattle.fast_spelling.proofs.rules.OneItem.{text_kept, integer_kept}
use Rattle.fast_spelling.proofs.again.Sound.{IsSoundValue, same_ok, steps, short_of, ascii_of, text_right, text_spelled, integer_right}
use Rattle.fast_spelling.proofs.again.Sound.{decimal_right, plain_right, delta_base_right, tail_base_right}
use Rattle.fast_spelling.proofs.rules.Chosen.{IsJoined, is_joined, Chosen, choose, choose_tail, HasZero, SpelledShorter, text_shorter, length_shorter}

-- The bytes of an item in strict mode, no more than these but where a length or an empty text is nullable.
abbrev pub BytesOf : Operator → Limits → FieldData → PreviousData → Sent → List ℕ → Type 0
BytesOf o l f p x w = (v : List ℕ) × SpellsSentBy o l f p x v × (IsPlainBy o f → length v ≤ length w)

-- What the rule sends of what an operator made of an item, and what the entry holds.
pub record Resends (l : Limits) (o : Operator) (f : FieldData) (p : PreviousData) (w : List ℕ) (out : Outcome) : Type 0 where
  pub item : Sent
  pub ruled : SentBy o f p out.value item
  pub sent : BytesOf o l f p item w ⊎ HasZeroInFront f.kind item
  pub right : IsSoundValue l f out.value
  pub next : out.next ≡ next_by o f.kind p out.value

-- What an operator needs to know of its field.
record IsAt (l : Limits) (o : Operator) (f : FieldData) (p : PreviousData) : Type 0 where
  pub suited : suits o (family f.kind) ≡ true
  pub sound : IsSoundEntry l p
  pub granted : IsGranted l f
  pub same : f.operator ≡ o

module _ (l : Limits) where
  -- the item is sent as it was
  as_it_was : (o : Operator) (f : FieldData) (p : PreviousData) (x : Sent) (w : List ℕ) → SpellsSentBy o l f p x w → BytesOf o l f p x w
  as_it_was o f p x w s = (w, s, λ _. omega arith)

  at_outcome : (o : Operator) (f : FieldData) (p : PreviousData) (w : List ℕ) (a out : Outcome)
      → ◌≡◌ {A = Result Outcome Code} (Ok a) (Ok out) → Resends l o f p w a → Resends l o f p w out
  at_outcome o f p w a out e h = subst (Resends l o f p w) (same_ok a out e) h

  -- a value that was sent as it is, and then a step that keeps it
  plain_resends : (f : FieldData) (x : ScalarData) (w : List ℕ) (k : ScalarData → Result Outcome Code) (out : Outcome)
      → IsValueIn (family f.kind) f.kind x → ShortestValue l f (family f.kind) x w → checked f x >>= k ≡ Ok out
      → IsOfKind l f.kind x × (k x ≡ Ok out)
  plain_resends f x w k out h s e =
      let (y, c, g) = steps (checked f x) k out e in
      let (r, same) = plain_right l (family f.kind) f refl x y w h s c in
      (subst (IsOfKind l f.kind) same r, subst (λ (z : ScalarData). k z ≡ Ok out) same g)

  null_resends : (o : Operator) (f : FieldData) (p : PreviousData) (w : List ℕ) (a out : Outcome) → a.value ≡ None
      → a.next ≡ next_by o f.kind p None → SentBy o f p None null → f.optional ≡ true → SpellsSentBy o l f p null w
      → ◌≡◌ {A = Result Outcome Code} (Ok a) (Ok out) → Resends l o f p w out
  null_resends o f p w a out v n s opt spelled e =
      let value_is : out.value ≡ None = ap (λ (z : Outcome). z.value) (sym (same_ok a out e)) ∙ v in
      let next_is : out.next ≡ next_by o f.kind p None = ap (λ (z : Outcome). z.next) (sym (same_ok a out e)) ∙ n in
      record {
        item = null;
        ruled = subst (λ (z : Option ScalarData). SentBy o f p z null) (sym value_is) s;
        sent = inl (as_it_was o f p null w spelled);
        right = subst (IsSoundValue l f) (sym value_is) opt;
        next = subst (λ (z : Option ScalarData). out.next ≡ next_by o f.kind p z) (sym value_is) next_is;
      }

  -- a number in its range
  pub ranged_is : (range : Range) (c : Code) (x y : ℤ) → ranged range c x ≡ Ok y → IsWithin range y × (x ≡ y)
  ranged_is range c x y e = by (int_le range.low x && int_le x range.high) refl e
    where
      by : (b : Bool) → (int_le range.low x && int_le x range.high) ≡ b → (if b then Ok x else Err c) ≡ Ok y → IsWithin range y × (x ≡ y)
      by true g h = let k = same_ok x y h in (subst (IsWithin range) k ((decides-within range x).0 g), k)
      by false g h = absurd (cc h)

  difference : (b k : ℤ) → (b +ℤ k) -ℤ b ≡ k
  difference b k = omega (arith, ints)

  abbrev Gave : FieldData → PreviousData → Sent → List ℕ → Outcome → Type 0
  Gave f p x w out = SpellsSentBy Delta l f p x w → sent_delta f p x ≡ Ok out → Resends l Delta f p w out

  integer_resends : (range : Range) (f : FieldData) (p : PreviousData) → family f.kind ≡ integers range
      → (k : ℤ) (w : List ℕ) (out : Outcome) → Gave f p (integer_delta k) w out
  integer_resends range f p q k w out s e =
      let (base, b, e1) = steps (delta_base f p) _ out e in
      let (x, r, e2) = steps (ranged (range_of f.kind) D2 (integer_of base +ℤ k)) _ out e1 in
      let (within, is) = ranged_is (range_of f.kind) D2 (integer_of base +ℤ k) x r in
      let v = value_of_integer f.kind x in
      let delta : integer_of v -ℤ integer_of base ≡ k = ap (λ (z : ℤ). z -ℤ integer_of base) (integer_kept f.kind x ∙ sym is)
      ∙ difference (integer_of base) k in
      let inside : IsWithin range x = subst (λ (z : Range). IsWithin z x) (ap range_in q) within in
      at_outcome Delta f p w (record { value = Some v; next = assigned f.kind v }) out e2 (record {
        item = integer_delta k;
        ruled = (base, b, subst (λ (z : Family). IsDelta z base v (integer_delta k)) (sym q) (ap integer_delta (sym delta)));
        sent = inl (as_it_was Delta f p (integer_delta k) w s);
        right = integer_right l f.kind range q x inside;
        next = refl;
      })

  decimal_resends : (f : FieldData) (p : PreviousData) → family f.kind ≡ decimals → (k j : ℤ) (w : List ℕ) (out : Outcome) → Gave f p (decimal_delta k j) w out
  decimal_resends f p q k j w out s e =
      let (x, step, e1) = steps (exponent_step f p k) (λ e. mantissa_step f p e j) out e in
      let (base, b, step1) = steps (delta_base f p) _ x step in
      let (x_in, x_is) = ranged_is exponent_range R1 (exponent_of base +ℤ k) x step1 in
      let (base', b', e2) = steps (delta_base f p) _ out e1 in
      let (y, r, e3) = steps (ranged (signed_range 63) R1 (mantissa_of base' +ℤ j)) _ out e2 in
      let (y_in, y_is) = ranged_is (signed_range 63) R1 (mantissa_of base' +ℤ j) y r in
      let one : base' ≡ base = same_ok base' base (sym b' ∙ b) in
      let first : x -ℤ exponent_of base ≡ k = ap (λ (z : ℤ). z -ℤ exponent_of base) (sym x_is) ∙ difference (exponent_of base) k in
      let second : y -ℤ mantissa_of base ≡ j = ap (λ (z : ℤ). z -ℤ mantissa_of base)
      (sym (ap (λ (z : ScalarData). mantissa_of z +ℤ j) (sym one) ∙ y_is)) ∙ difference (mantissa_of base) j in
      let delta : decimal_delta k j ≡ decimal_delta (x -ℤ exponent_of base) (y -ℤ mantissa_of base) =
      ap (λ (z : ℤ). decimal_delta z j) (sym first) ∙ ap (λ (z : ℤ). decimal_delta (x -ℤ exponent_of base) z) (sym second) in
      at_outcome Delta f p w (record { value = Some (Dec x y); next = assigned f.kind (Dec x y) }) out e3 (record {
        item = decimal_delta k j;
        ruled = (base, b, subst (λ (z : Family). IsDelta z base (Dec x y) (decimal_delta k j)) (sym q) delta);
        sent = inl (as_it_was Delta f p (decimal_delta k j) w s);
        right = decimal_right l f.kind q x y x_in y_in;
        next = refl;
      })

  -- a text that was joined
  record IsMade (f : FieldData) (b : List ℕ) (k : ℤ) (part : List ℕ) (v : ScalarData) : Type 0 where
    pub joint : IsJoined b k part (text_of v)
    pub right : IsOfKind l f.kind v

  kept_ascii : (b : List ℕ) (k : ℤ) (part : List ℕ) (kept : Kept) → kept_of b k ≡ Ok kept → All (λ c. c < 128) b → All (λ c. c < 128) part
      → All (λ c. c < 128) (joined kept part)
  kept_ascii b (pos j) part kept e a c = on (nat_le j (length b)) e
    where
      on : (t : Bool) → (if t then Ok (append_to (take (length b - j) b)) else Err D7) ≡ Ok kept → All (λ c. c < 128) (joined kept part)
      on true m = subst (λ (z : Kept). All (λ c. c < 128) (joined z part)) (same_ok (append_to (take (length b - j) b)) kept m)
          (All-append (λ c. c < 128) (take (length b - j) b) part (All-take (λ c. c < 128) (length b - j) b a) c)
      on false m = absurd (cc m)
  kept_ascii b (negsuc j) part kept e a c = on (nat_le j (length b)) e
    where
      on : (t : Bool) → (if t then Ok (prepend_to (drop j b)) else Err D7) ≡ Ok kept → All (λ c. c < 128) (joined kept part)
      on true m = subst (λ (z : Kept). All (λ c. c < 128) (joined z part)) (same_ok (prepend_to (drop j b)) kept m)
          (All-append (λ c. c < 128) part (drop j b) c (All-drop (λ c. c < 128) j b a))
      on false m = absurd (cc m)

  zero_in_delta : (kind : Kind) (k : ℤ) (part : List ℕ) → HasZero kind part → HasZeroInFront kind (text_delta k part)
  zero_in_delta kind k part (e, z) = subst (λ (n : Kind). HasZeroInFront n (text_delta k part)) (sym e) z

  zero_in_value : (kind : Kind) (t : List ℕ) → HasZero kind t → HasZeroInFront kind (value (value_of_text kind t))
  zero_in_value kind t (e, z) = subst (λ (n : Kind). HasZeroInFront n (value (value_of_text kind t))) (sym e) (z.0, text_kept kind t ∙ z.1)

  text_resends : (f : FieldData) (p : PreviousData) → family f.kind ≡ texts → IsAt l Delta f p
      → (k : ℤ) (part : List ℕ) (w : List ℕ) (out : Outcome) → Gave f p (text_delta k part) w out
  text_resends f p q known k part w out (kept, u, v, step, s, i, parts) e =
      let (kept', step', e1) = steps (subtraction_step f p k) (λ kept. text_step f kept part) out e in
      let one : kept' ≡ kept = same_ok kept' kept (sym step' ∙ step) in
      let (base, b, keeps) = steps (delta_base f p) _ kept step in
      let (y, c, e2) = steps (checked_text f.kind (joined kept part)) _ out (subst (λ (z : Kept). text_step f z part ≡ Ok out) one e1) in
      let t = text_of base in
      let base_right = delta_base_right l f p base known.sound known.granted.initial b in
      let (joint, long) = is_joined t k part kept keeps in
      let base_short = short_of l f.kind base base_right in
      let part_is = text_spelled l f.kind false (l.max_text - kept_length kept) part v i in
      let short : length (joined kept part) ≤ l.max_text = omega (arith, joint.long, long, part_is.0, base_short) in
      let (right, is) = text_right l f.kind q (joined kept part) y c short
      (λ a. kept_ascii t k part kept keeps (ascii_of l f.kind base base_right a) (part_is.1 a)) in
      let same : text_of y ≡ joined kept part = ap text_of is ∙ text_kept f.kind (joined kept part) in
      let joint' : IsJoined t k part (text_of y) = subst (IsJoined t k part) (sym same) joint in
      let n = choose t (text_of y) k part joint' in
      let y_short = short_of l f.kind y right in
      at_outcome Delta f p w (record { value = Some y; next = assigned f.kind y }) out e2 (record {
        item = text_delta n.length_sent n.part_sent;
        ruled = (base, b, subst (λ (z : Family). IsDelta z base y (text_delta n.length_sent n.part_sent)) (sym q) n.chosen);
        sent = by base y n b right (text_shorter f.kind false (l.max_text - kept_length kept)
            (l.max_text - kept_length n.kept) n.part_sent part v i n.shorter (omega (arith, n.room, y_short))
            (λ a. n.all (ascii_of l f.kind y right a)));
        right = right;
        next = refl;
      })
    where
      by : (base y : ScalarData) (n : Chosen (text_of base) (text_of y) k part) → delta_base f p ≡ Ok base → IsOfKind l f.kind y
          → SpelledShorter f.kind false (l.max_text - kept_length n.kept) n.part_sent v ⊎ HasZero f.kind n.part_sent
          → BytesOf Delta l f p (text_delta n.length_sent n.part_sent) w ⊎ HasZeroInFront f.kind (text_delta n.length_sent n.part_sent)
      by base y n b right (inr z) = inr (zero_in_delta f.kind n.length_sent n.part_sent z)
      by base y n b right (inl (v', i', brief)) =
          let (u', s', short) = length_shorter f.optional n.length_sent k u s n.less in
          let kept_there : subtraction_step f p n.length_sent ≡ Ok n.kept = rw b n.keeps in
          inl (
            u' ++ v',
            (n.kept, u', v', kept_there, s', i', refl),
            λ plain. omega (arith, length-append u' v', ap length parts, length-append u v, short (plain.0 refl q), brief (λ _. refl)),
          )

  delta_resends : (k : Family) (f : FieldData) → family f.kind ≡ k → (p : PreviousData) → IsAt l Delta f p
      → (x : Sent) (w : List ℕ) (out : Outcome) → IsDeltaIn k f.optional x → Gave f p x w out
  delta_resends (integers range) f q p known (integer_delta k) w out i s e = integer_resends range f p q k w out s e
  delta_resends decimals f q p known (decimal_delta k j) w out i s e = decimal_resends f p q k j w out s e
  delta_resends texts f q p known (text_delta k part) w out i s e = text_resends f p q known k part w out s e
  delta_resends (integers range) f q p known null w out i s e = null_resends Delta f p w (record { value = None; next = p }) out refl refl refl i s e
  delta_resends decimals f q p known null w out i s e = null_resends Delta f p w (record { value = None; next = p }) out refl refl refl i s e
  delta_resends texts f q p known null w out i s e = null_resends Delta f p w (record { value = None; next = p }) out refl refl refl i s e
  delta_resends k f q p known x w out i s e = absurd i

  tail_resends : (f : FieldData) (p : PreviousData) → family f.kind ≡ texts → IsAt l Tail f p
      → (x : ScalarData) (w : List ℕ) (out : Outcome) → ShortestValue l f texts x w
      → (tail_base f p >>= (λ base. checked_text f.kind (with_tail (text_of base) (text_of x)) >>= keeps f.kind)) ≡ Ok out → Resends l Tail f p w out
  tail_resends f p q known x w out (part, x_is, i) e =
      let (base, b, e1) = steps (tail_base f p) _ out e in
      let t = text_of base in
      let part_of : text_of x ≡ part = ap text_of x_is ∙ text_kept f.kind part in
      let (y, c, e2) = steps (checked_text f.kind (with_tail t part)) _ out
      (subst (λ (z : List ℕ). checked_text f.kind (with_tail t z) >>= keeps f.kind ≡ Ok out) part_of e1) in
      let base_right = tail_base_right l f p base known.sound known.granted.initial b in
      let base_short = short_of l f.kind base base_right in
      let part_is = text_spelled l f.kind f.optional l.max_text part w i in
      let (_, long) = choose_tail t part (with_tail t part) refl in
      let (right, is) = text_right l f.kind q (with_tail t part) y c
      (short (length (with_tail t part)) (length t) (length part) long base_short part_is.0)
      (λ a. tail_ascii t part (ascii_of l f.kind base base_right a) (part_is.1 a)) in
      let same : text_of y ≡ with_tail t part = ap text_of is ∙ text_kept f.kind (with_tail t part) in
      let (n, _) = choose_tail t part (text_of y) (sym same) in
      let y_short = short_of l f.kind y right in
      at_outcome Tail f p w (record { value = Some y; next = assigned f.kind y }) out e2 (record {
        item = value (value_of_text f.kind n.part_sent);
        ruled = (base, n.part_sent, b, n.chosen, refl);
        sent = by n.part_sent (text_shorter f.kind f.optional l.max_text l.max_text n.part_sent part w i n.shorter
            (omega (arith, n.shorter, part_is.0)) (λ a. n.all (ascii_of l f.kind y right a)));
        right = right;
        next = refl;
      })
    where
      short : (n b m : ℕ) → (n ≤ b) ⊎ (n ≤ m) → b ≤ l.max_text → m ≤ l.max_text → n ≤ l.max_text
      short n b m (inl h) i j = omega (arith, h, i)
      short n b m (inr h) i j = omega (arith, h, j)

      tail_ascii : (b part : List ℕ) → All (λ c. c < 128) b → All (λ c. c < 128) part → All (λ c. c < 128) (with_tail b part)
      tail_ascii b part a c = on (nat_le (length part) (length b))
        where
          on : (t : Bool) → All (λ c. c < 128) (if t then take (length b - length part) b ++ part else part)
          on true = All-append (λ c. c < 128) (take (length b - length part) b) part (All-take (λ c. c < 128) (length b - length part) b a) c
          on false = c

      by : (t : List ℕ) → SpelledShorter f.kind f.optional l.max_text t w ⊎ HasZero f.kind t
          → BytesOf Tail l f p (value (value_of_text f.kind t)) w ⊎ HasZeroInFront f.kind (value (value_of_text f.kind t))
      by t (inr z) = inr (zero_in_value f.kind t z)
      by t (inl (v, i, brief)) = inl (
        v,
        subst (λ (z : Family). ShortestValue l f z (value_of_text f.kind t) v) (sym q) (t, refl, i),
        λ plain. brief (plain.1 refl),
      )

  texts_of : (f : FieldData) → suits Tail (family f.kind) ≡ true → family f.kind ≡ texts
  texts_of f s = by (family f.kind) s
    where
      by : (k : Family) → suits Tail k ≡ true → k ≡ texts
      by (integers range) s = absurd (cc s)
      by decimals s = absurd (cc s)
      by texts s = refl

  some_initial : (f : FieldData) (o : Operator) → IsGranted l f → f.operator ≡ Constant → (i : Option ScalarData) → f.initial ≡ i → IsSoundValue l f i
  some_initial f o g c None e = absurd (g.constant c e)
  some_initial f o g c (Some v) e = subst (λ (z : Option ScalarData). IfSome z (IsOfKind l f.kind)) e g.initial

  pub fixed_is : (i : Option ScalarData) (p : PreviousData) (out : Outcome) → fixed i p ≡ Ok out → (out.value ≡ i) × (out.next ≡ p)
  fixed_is None p out e = let k = same_ok (record {
    value = None;
    next = p;
  }) out e in (ap (λ (z : Outcome). z.value) (sym k), ap (λ (z : Outcome). z.next) (sym k))
  fixed_is (Some v) p out e = let k = same_ok (record {
    value = Some v;
    next = p;
  }) out e in (ap (λ (z : Outcome). z.value) (sym k), ap (λ (z : Outcome). z.next) (sym k))

  value_resends : (o : Operator) (f : FieldData) (p : PreviousData) (x : ScalarData) (w : List ℕ) (n : PreviousData) (out : Outcome)
      → SentBy o f p (Some x) (value x) → n ≡ next_by o f.kind p (Some x) → IsOfKind l f.kind x → SpellsSentBy o l f p (value x) w
      → ◌≡◌ {A = Result Outcome Code} (Ok (record { value = Some x; next = n })) (Ok out) → Resends l o f p w out
  value_resends o f p x w n out ruled next right s e = at_outcome o f p w (record {
    value = Some x;
    next = n;
  }) out e (record { item = value x; ruled = ruled; sent = inl (as_it_was o f p (value x) w s); right = right; next = next })

  -- Where the bit is set.
  pub resends : (o : Operator) (f : FieldData) (p : PreviousData) → f.operator ≡ o → IsSoundEntry l p → IsGranted l f
      → (x : Sent) (w : List ℕ) (out : Outcome) → IsItemBy o true f x → SpellsSentBy o l f p x w → decide_by o true f p x ≡ Ok out
      → Resends l o f p w out
  resends Constant f p same sound granted x w out i s e =
      let (v, n) = fixed_is f.initial p out e in
      record {
        item = nothing;
        ruled = (v, refl);
        sent = inl ([], refl, λ _. omega arith);
        right = subst (IsSoundValue l f) (sym v) (some_initial f Constant granted same f.initial refl);
        next = n;
      }
  resends Delta f p same sound granted x w out i s e =
      delta_resends (family f.kind) f refl p (record {
        suited = subst (λ (z : Operator). suits z (family f.kind) ≡ true) same granted.suited;
        sound = sound;
        granted = granted;
        same = same;
      }) x w out i s e
  resends no_operator f p same sound granted null w out i s e = null_resends no_operator f p w (record { value = None; next = p }) out refl refl refl i s e
  resends Default f p same sound granted null w out i s e = null_resends Default f p w (record { value = None; next = p }) out refl refl refl i s e
  resends Copy f p same sound granted null w out i s e = null_resends Copy f p w (record { value = None; next = empty }) out refl refl refl i s e
  resends Increment f p same sound granted null w out i s e = null_resends Increment f p w (record { value = None; next = empty }) out refl refl refl i s e
  resends Tail f p same sound granted null w out i s e = null_resends Tail f p w (record { value = None; next = empty }) out refl refl refl i s e
  resends no_operator f p same sound granted (value x) w out i s e = let (r, k) = plain_resends f x w (λ v. gives v p) out i s e in
      value_resends no_operator f p x w p out refl refl r s k
  resends Default f p same sound granted (value x) w out i s e = let (r, k) = plain_resends f x w (λ v. gives v p) out i s e in
      value_resends Default f p x w p out refl refl r s k
  resends Copy f p same sound granted (value x) w out i s e = let (r, k) = plain_resends f x w (keeps f.kind) out i s e in
      value_resends Copy f p x w (assigned f.kind x) out refl refl r s k
  resends Increment f p same sound granted (value x) w out i s e = let (r, k) = plain_resends f x w (keeps f.kind) out i s e in
      value_resends Increment f p x w (assigned f.kind x) out refl refl r s k
  resends Tail f p same sound granted (value x) w out i s e =
      let fits = subst (λ (z : Operator). suits z (family f.kind) ≡ true) same granted.suited in
      let q = texts_of f fits in
      tail_resends f p q (record {
        suited = fits;
        sound = sound;
        granted = granted;
        same = same;
      }) x w out (subst (λ (z : Family). ShortestValue l f z x w) q s) e
  resends o f p same sound granted x w out i s e = absurd i

-- Two values are the same, or not.
same_number : (a b : ℕ) → (a ≡ b) ⊎ (a ≡ b → ⊥)
same_number a b = by (eqb_tells a b)
  where
    by : ((nat_eq a b ≡ true) × (a ≡ b)) ⊎ ((nat_eq a b ≡ false) × (a ≢ b)) → (a ≡ b) ⊎ (a ≡ b → ⊥)
    by (inl t) = inl t.1
    by (inr t) = inr t.1

same_integer : (a b : ℤ) → (a ≡ b) ⊎ (a ≡ b → ⊥)
same_integer a b = by (cases_Bool (int_eq a b)) (Decides-int_eq a b)
  where
    by : (int_eq a b ≡ true) ⊎ (int_eq a b ≡ false) → ((int_eq a b ≡ true → a ≡ b) × (a ≡ b → int_eq a b ≡ true)) → (a ≡ b) ⊎ (a ≡ b → ⊥)
    by (inl e) d = inl (d.0 e)
    by (inr e) d = inr (λ p. absurd (cc (e, d.1 p)))

same_bytes : (a b : List ℕ) → (a ≡ b) ⊎ (a ≡ b → ⊥)
same_bytes [] [] = inl refl
same_bytes [] (y ∷ b) = inr (λ e. cc e)
same_bytes (x ∷ a) [] = inr (λ e. cc e)
same_bytes (x ∷ a) (y ∷ b) = by (same_number x y) (same_bytes a b)
  where
    by : (x ≡ y) ⊎ (x ≡ y → ⊥) → (a ≡ b) ⊎ (a ≡ b → ⊥) → (x ∷ a ≡ y ∷ b) ⊎ (x ∷ a ≡ y ∷ b → ⊥)
    by (inl e) (inl g) = inl (ap (λ (n : ℕ). n ∷ a) e ∙ ap (λ (z : List ℕ). y ∷ z) g)
    by (inl e) (inr n) = inr (λ h. n (cc h))
    by (inr n) g = inr (λ h. n (cc h))

abbrev Same : ScalarData → ScalarData → Type 0
Same a b = (a ≡ b) ⊎ (a ≡ b → ⊥)

by_parts : {A : Type 0} (make : A → ScalarData) (a b : A) → (make a ≡ make b → a ≡ b) → (a ≡ b) ⊎ (a ≡ b → ⊥) → Same (make a) (make b)
by_parts make a b back (inl e) = inl (ap make e)
by_parts make a b back (inr n) = inr (λ h. n (back h))

same_value : (a b : ScalarData) → Same a b
same_value (U n) (U m) = by_parts U n m (λ e. cc e) (same_number n m)
same_value (I n) (I m) = by_parts I n m (λ e. cc e) (same_integer n m)
same_value (AsciiText n) (AsciiText m) = by_parts AsciiText n m (λ e. cc e) (same_bytes n m)
same_value (UnicodeText n) (UnicodeText m) = by_parts UnicodeText n m (λ e. cc e) (same_bytes n m)
same_value (ByteVector n) (ByteVector m) = by_parts ByteVector n m (λ e. cc e) (same_bytes n m)
same_value (Dec x y) (Dec z t) = by (same_integer x z) (same_integer y t)
  where
    by : (x ≡ z) ⊎ (x ≡ z → ⊥) → (y ≡ t) ⊎ (y ≡ t → ⊥) → Same (Dec x y) (Dec z t)
    by (inl e) (inl g) = inl (ap (λ (n : ℤ). Dec n y) e ∙ ap (Dec z) g)
    by (inl e) (inr n) = inr (λ h. n (cc h))
    by (inr n) g = inr (λ h. n (cc h))
same_value a b = inr (λ e. cc e)

pub same_option : (a b : Option ScalarData) → (a ≡ b) ⊎ (a ≡ b → ⊥)
same_option None None = inl refl
same_option None (Some v) = inr (λ e. cc e)
same_option (Some v) None = inr (λ e. cc e)
same_option (Some v) (Some w) = by (same_value v w)
  where
    by : Same v w → (Some v ≡ Some w) ⊎ (Some v ≡ Some w → ⊥)
    by (inl e) = inl (ap Some e)
    by (inr n) = inr (λ h. n (cc h))
