-- Terms under limits with more room: they go on in the same way, or the first of them stops at a limit on elements.
use Rattle.std.proofs.Common.{◌≡◌, ◌⊎◌, inl, inr, ℕ, zero, suc, ◌+◌, ◌≤◌, List, [], ◌∷◌, refl, ap, sym, subst, ◌∙◌, arith}
use Rattle.std.specs.Prelude.{Bool, true, false, if◌then◌else◌, nat_le, nat_abs, Option, Some, None, Result, Ok, Err, ℤ}
use Rattle.std.proofs.lemmas.Bool.{leb-true, leb-false, le-leb}
use Rattle.std.proofs.Math.Nat.{le_trans}
use Rattle.fast_wire.specs.meaning.Integers.{exponent_range}
use Rattle.fast_wire.specs.meaning.Maps.{bits, first_bit, later_bits}
use Rattle.fast_value.specs.declared.codes.Code.{Code}
use Rattle.fast_value.specs.declared.codes.Code.TheVariants.{L2, L5, R1}
use Rattle.fast_value.specs.declared.settings.Limits.{Limits}
use Rattle.fast_value.specs.meaning.Kinds.{ScalarData, Family, integers, decimals, texts, family, integer_of}
use Rattle.fast_value.specs.meaning.Limits.{Bounds, bounds}
use Rattle.fast_value.specs.meaning.Messages.{one, group as group_item, sequence as sequence_item, element, MessageData}
use Rattle.fast_tree.specs.declared.operators.Operator.{Operator}
use Rattle.fast_tree.specs.declared.operators.Operator.TheVariants.{None as no_operator, Constant, Default, Copy, Increment, Delta, Tail}
use Rattle.fast_tree.specs.meaning.Tree.{FieldData, identifier, uses_bit, Instruction, field, parts, group, sequence, Body, end, step}
use Rattle.fast_tree.specs.meaning.Tree.{bits_of, has_map, message_bits, TemplateData, Tree}
use Rattle.fast_dict.specs.meaning.Dictionary.{Dictionary, PreviousData, previous_at}
use Rattle.fast_dict.specs.meaning.Operators.{nothing, decide, ranged}
use Rattle.fast_stream.specs.meaning.Events.{MessageEnd, GroupEnd, SequenceStart, ElementEnd, SequenceEnd}
use Rattle.fast_stream.specs.meaning.Grammar.{Grammar, give, fault, hand, integer, ascii_text, raw, presence_map, narrow, ◌>>=◌, of_result}
use Rattle.fast_stream.specs.meaning.Fields.{item_in, change_in, text_change, sent, not_sent, field_by, field_term}
use Rattle.fast_stream.specs.meaning.Messages.{Context, State, Found, found, begin, field_in, Read, ReadAll, with_slot, handed}
use Rattle.fast_stream.specs.meaning.Messages.{decimal_with, mantissa_after, own_bits, Segment, segment, elements, group_from, group_if}
use Rattle.fast_stream.specs.meaning.Messages.{group_in, within_limits, count_more, sequence_from, instruction, body_term, with_id, has_id}
use Rattle.fast_stream.specs.meaning.Messages.{template_of, reset_if, message_of, message_behind, message_term}
use Rattle.fast_laws.specs.meaning.Counting.{counted_with}
use Rattle.fast_laws.specs.meaning.Raising.{is_count_code, with_room, Passes}
use Rattle.fast_laws.proofs.terms.Innocent.{IsOtherResult, IsInnocent, other_ranged, innocent_result, other_decided, innocent_item}
use Rattle.fast_laws.proofs.terms.Innocent.{innocent_change, innocent_text_change, innocent_map}

-- more room
pub record Room (l : Limits) : Type 0 where
  pub elements : ℕ
  pub total : ℕ
  pub more_elements : l.max_elements ≤ elements
  pub more_total : l.max_total ≤ total

abbrev pub wide : (l : Limits) → Room l → Bounds
wide l i = bounds (with_room i.elements i.total l)

module _ (l : Limits) where
  abbrev B : Bounds
  B = bounds l

  -- With room for them, the sequence's elements are announced here.
  abbrev pub Passed : {A : Type 0} → ℕ → Code → (Room l → Grammar A) → Type 0
  Passed {A} k c h = (node n : ℕ) × Passes l k n c × ((i : Room l) → n ≤ i.elements → k + n ≤ i.total
      → (rest : Grammar A) × (h i ≡ hand (SequenceStart node n) rest))

  -- The second term does what the first one does, from so many elements on, up to where that one is at fault for a limit on elements.
  abbrev pub Raises : {A : Type 0} → (A → ℕ → Type 0) → ℕ → Grammar A → (Room l → Grammar A) → Type 0
  Raises after k (give a) h = after a k × ((i : Room l) → h i ≡ give a)
  Raises after k (fault c) h = ((is_count_code c ≡ false) × ((i : Room l) → h i ≡ fault c)) ⊎ Passed k c h
  Raises {A} after k (hand e g) h = (h' : Room l → Grammar A) × ((i : Room l) → h i ≡ hand e (h' i)) × Raises after (counted_with e k) g h'
  Raises {A} after k (integer range nullable c g) h = (is_count_code c ≡ false) × (h' : Room l → Option ℤ → Grammar A)
      × ((i : Room l) → h i ≡ integer range nullable c (h' i)) × ((x : Option ℤ) → Raises after k (g x) (λ i. h' i x))
  Raises {A} after k (ascii_text nullable room g) h = (h' : Room l → Option (List ℕ) → Grammar A)
      × ((i : Room l) → h i ≡ ascii_text nullable room (h' i)) × ((x : Option (List ℕ)) → Raises after k (g x) (λ i. h' i x))
  Raises {A} after k (raw n g) h = (h' : Room l → List ℕ → Grammar A) × ((i : Room l) → h i ≡ raw n (h' i))
      × ((x : List ℕ) → Raises after k (g x) (λ i. h' i x))
  Raises {A} after k (presence_map g) h = (h' : Room l → List ℕ → Grammar A) × ((i : Room l) → h i ≡ presence_map (h' i))
      × ((x : List ℕ) → Raises after k (g x) (λ i. h' i x))
  Raises {A} after k (narrow n m g) h = (h' : Room l → Grammar A) × ((i : Room l) → h i ≡ narrow n m (h' i)) × Raises after k g h'

  -- by an equal term
  same : {A : Type 0} (g : Grammar A) (h h2 : Room l → Grammar A) (after : A → ℕ → Type 0) (k : ℕ) → Raises after k g h
      → ((i : Room l) → h2 i ≡ h i) → Raises after k g h2
  same (give a) h h2 after k (r, e) q = (r, λ i. q i ∙ e i)
  same (fault c) h h2 after k (inl (r, e)) q = inl (r, λ i. q i ∙ e i)
  same (fault c) h h2 after k (inr (node, n, p, f)) q = inr (node, n, p, λ i x y. let (rest, e) = f i x y in (rest, q i ∙ e))
  same (hand e g) h h2 after k (h', d, r) q = (h', (λ i. q i ∙ d i), r)
  same (integer range nullable c g) h h2 after k (o, h', d, r) q = (o, h', (λ i. q i ∙ d i), r)
  same (ascii_text nullable room g) h h2 after k (h', d, r) q = (h', (λ i. q i ∙ d i), r)
  same (raw n g) h h2 after k (h', d, r) q = (h', (λ i. q i ∙ d i), r)
  same (presence_map g) h h2 after k (h', d, r) q = (h', (λ i. q i ∙ d i), r)
  same (narrow n m g) h h2 after k (h', d, r) q = (h', (λ i. q i ∙ d i), r)

  -- what doesn't look at the limits
  abbrev Stays : {A : Type 0} → ℕ → A → ℕ → Type 0
  Stays k a n = n ≡ k

  alone : {A : Type 0} (k : ℕ) (g : Grammar A) → IsInnocent g → Raises (Stays {A = A} k) k g (λ i. g)
  alone k (give a) h = (refl, λ i. refl)
  alone k (fault c) h = inl (h, λ i. refl)
  alone k (hand e g) h = absurd h
  alone k (integer range nullable c g) h = (h.0, (λ i. g), (λ i. refl), λ x. alone k (g x) (h.1 x))
  alone k (ascii_text nullable room g) h = ((λ i. g), (λ i. refl), λ x. alone k (g x) (h x))
  alone k (raw n g) h = ((λ i. g), (λ i. refl), λ x. alone k (g x) (h x))
  alone k (presence_map g) h = ((λ i. g), (λ i. refl), λ x. alone k (g x) (h x))
  alone k (narrow n m g) h = ((λ i. g), (λ i. refl), alone k g h)

  -- one term behind another
  in_turn : {A C : Type 0} (g : Grammar A) (q : A → Grammar C) (h : Room l → Grammar A) (q' : Room l → A → Grammar C)
      (after : A → ℕ → Type 0) (after' : C → ℕ → Type 0) (k : ℕ)
      → Raises after k g h → ((a : A) (n : ℕ) → after a n → Raises after' n (q a) (λ i. q' i a)) → Raises after' k (g >>= q) (λ i. h i >>= q' i)
  in_turn (give a) q h q' after after' k (r, e) f = same (q a) (λ i. q' i a) (λ i. h i >>= q' i) after' k (f a k r) (λ i. ap (λ z. z >>= q' i) (e i))
  in_turn (fault c) q h q' after after' k (inl (r, e)) f = inl (r, λ i. ap (λ z. z >>= q' i) (e i))
  in_turn (fault c) q h q' after after' k (inr (node, n, p, d)) f =
      inr (node, n, p, λ i x y. let (rest, e) = d i x y in (rest >>= q' i, ap (λ z. z >>= q' i) e))
  in_turn (hand e g) q h q' after after' k (h', d, r) f =
      ((λ i. h' i >>= q' i), (λ i. ap (λ z. z >>= q' i) (d i)), in_turn g q h' q' after after' (counted_with e k) r f)
  in_turn (integer range nullable c g) q h q' after after' k (o, h', d, r) f =
      (o, (λ i x. h' i x >>= q' i), (λ i. ap (λ z. z >>= q' i) (d i)), λ x. in_turn (g x) q (λ i. h' i x) q' after after' k (r x) f)
  in_turn (ascii_text nullable room g) q h q' after after' k (h', d, r) f =
      ((λ i x. h' i x >>= q' i), (λ i. ap (λ z. z >>= q' i) (d i)), λ x. in_turn (g x) q (λ i. h' i x) q' after after' k (r x) f)
  in_turn (raw n g) q h q' after after' k (h', d, r) f = (
    (λ i x. h' i x >>= q' i),
    (λ i. ap (λ z. z >>= q' i) (d i)),
    λ x. in_turn (g x) q (λ i. h' i x) q' after after' k (r x) f,
  )
  in_turn (presence_map g) q h q' after after' k (h', d, r) f =
      ((λ i x. h' i x >>= q' i), (λ i. ap (λ z. z >>= q' i) (d i)), λ x. in_turn (g x) q (λ i. h' i x) q' after after' k (r x) f)
  in_turn (narrow n m g) q h q' after after' k (h', d, r) f = ((λ i. h' i >>= q' i), (λ i. ap (λ z. z >>= q' i) (d i)), in_turn g q h' q' after after' k r f)

  -- the elements counted behind a result
  abbrev pub Counts : {X : Type 0} → X × State → ℕ → Type 0
  Counts r n = r.1.context.counted ≡ n

  abbrev CountsIn : {X : Type 0} → X × Context → ℕ → Type 0
  CountsIn r n = r.1.counted ≡ n

  -- fields
  item_raises : (k : ℕ) (fam : Family) (f : FieldData) → Raises (Stays k) k (item_in fam B f) (λ i. item_in fam (wide l i) f)
  item_raises k (integers range) f = alone k (item_in (integers range) B f) (innocent_item (integers range) B f)
  item_raises k decimals f = alone k (item_in decimals B f) (innocent_item decimals B f)
  item_raises k texts f = alone k (item_in texts B f) (innocent_item texts B f)

  text_raises : (k : ℕ) (f : FieldData) (p : PreviousData) (x : Option ℤ) → Raises (Stays k) k (text_change B f p x) (λ i. text_change (wide l i) f p x)
  text_raises k f p None = alone k (text_change B f p None) (innocent_text_change B f p None)
  text_raises k f p (Some x) = alone k (text_change B f p (Some x)) (innocent_text_change B f p (Some x))

  change_raises : (k : ℕ) (fam : Family) (f : FieldData) (p : PreviousData) → Raises (Stays k) k (change_in fam B f p) (λ i. change_in fam (wide l i) f p)
  change_raises k (integers range) f p = alone k (change_in (integers range) B f p) (innocent_change (integers range) B f p)
  change_raises k decimals f p = alone k (change_in decimals B f p) (innocent_change decimals B f p)
  change_raises k texts f p = (refl, (λ i. text_change (wide l i) f p), (λ i. refl), text_raises k f p)

  sent_raises : (k : ℕ) (f : FieldData) (p : PreviousData) → Raises (Stays k) k (sent B f p) (λ i. sent (wide l i) f p)
  sent_raises k f p =
      in_turn (item_in (family f.kind) B f) (λ x. of_result (decide f p true x)) (λ i. item_in (family f.kind) (wide l i) f)
      (λ i x. of_result (decide f p true x)) (Stays k) (Stays k) k (item_raises k (family f.kind) f)
      (λ x n e. subst (λ (z : ℕ). Raises (Stays k) z (of_result (decide f p true x)) (λ i. of_result (decide f p true x))) (sym e)
      (alone k (of_result (decide f p true x)) (innocent_result (decide f p true x) (other_decided f p true x))))

  unsent_raises : (k : ℕ) (f : FieldData) (p : PreviousData) (bit : Bool) → Raises (Stays k) k (not_sent f p bit) (λ i. not_sent f p bit)
  unsent_raises k f p bit = alone k (not_sent f p bit) (innocent_result (decide f p bit nothing) (other_decided f p bit nothing))

  by_raises : (k : ℕ) (o : Operator) (bit : Bool) (f : FieldData) (p : PreviousData)
      → Raises (Stays k) k (field_by o bit B f p) (λ i. field_by o bit (wide l i) f p)
  by_raises k no_operator bit f p = sent_raises k f p
  by_raises k Delta bit f p = change_raises k (family f.kind) f p
  by_raises k Constant bit f p = unsent_raises k f p bit
  by_raises k Default true f p = sent_raises k f p
  by_raises k Copy true f p = sent_raises k f p
  by_raises k Increment true f p = sent_raises k f p
  by_raises k Tail true f p = sent_raises k f p
  by_raises k Default false f p = unsent_raises k f p false
  by_raises k Copy false f p = unsent_raises k f p false
  by_raises k Increment false f p = unsent_raises k f p false
  by_raises k Tail false f p = unsent_raises k f p false

  field_raises : (k : ℕ) (f : FieldData) (p : PreviousData) (bit : Bool) → Raises (Stays k) k (field_term B f p bit) (λ i. field_term (wide l i) f p bit)
  unfolding field_term
  field_raises k f p bit = by_raises k f.operator bit f p

  -- a field at a state, of which something is known that the dictionary doesn't matter for
  found_raises : (k : ℕ) (f : FieldData) (s : State) (P : ℕ → ℕ → Type 0) → P s.context.counted k
      → Raises (λ (r : Found) n. P r.1.context.counted n) k (field_in B f s) (λ i. field_in (wide l i) f s)
  found_raises k f s P h =
      let p = previous_at f.entry s.context.dictionary in
      let bit = if uses_bit f then first_bit s.bits else true in
      in_turn (field_term B f p bit) (λ o. give (found f s o)) (λ i. field_term (wide l i) f p bit) (λ i o. give (found f s o)) (Stays k)
      (λ (r : Found) n. P r.1.context.counted n) k (field_raises k f p bit)
      (λ o n e. (subst (P s.context.counted) (sym e) h, λ i. refl))

  handed_raises : (k n : ℕ) (v : Option ScalarData) (s : State) → s.context.counted ≡ k → Raises Counts k (handed n v s) (λ i. handed n v s)
  handed_raises k n None s h = (h, λ i. refl)
  handed_raises k n (Some v) s h = ((λ i. give (Some (one v), s)), (λ i. refl), (h, λ i. refl))

  mantissa_raises : (k n : ℕ) (m : FieldData) (e : Found) → Counts e k → Raises Counts k (mantissa_after B n m e) (λ i. mantissa_after (wide l i) n m e)
  mantissa_raises k n m (None, s) h = (h, λ i. refl)
  mantissa_raises k n m (Some e, s) h =
      in_turn (of_result (ranged exponent_range R1 (integer_of e))) (λ x. field_in B m s >>= (λ q. handed n (decimal_with x q.0) q.1))
      (λ i. of_result (ranged exponent_range R1 (integer_of e)))
      (λ i x. field_in (wide l i) m s >>= (λ q. handed n (decimal_with x q.0) q.1))
      (Stays k) Counts k (alone k (of_result (ranged exponent_range R1 (integer_of e)))
      (innocent_result (ranged exponent_range R1 (integer_of e)) (other_ranged exponent_range R1 (integer_of e) refl)))
      (λ x j same_count. in_turn (field_in B m s) (λ q. handed n (decimal_with x q.0) q.1) (λ i. field_in (wide l i) m s)
      (λ i q. handed n (decimal_with x q.0) q.1) Counts Counts j
      (found_raises j m s (λ a b. a ≡ b) (h ∙ sym same_count)) (λ q j2 c. handed_raises j2 n (decimal_with x q.0) q.1 c))

  -- segments
  segment_raises : (body : Body) (p : State → Grammar ReadAll) (p' : Room l → State → Grammar ReadAll)
      → ((k : ℕ) (s : State) → s.context.counted ≡ k → Raises Counts k (p s) (λ i. p' i s))
      → (k : ℕ) (c : Context) → c.counted ≡ k → Raises CountsIn k (segment body p c) (λ i. segment body (p' i) c)
  segment_raises body p p' f k c h =
      in_turn (own_bits body) (λ b. p (record {
        context = c;
        bits = b;
      }) >>= (λ r. give (r.0, r.1.context))) (λ i. own_bits body) (λ i b. p' i (record { context = c; bits = b }) >>= (λ r. give (r.0, r.1.context)))
      (Stays k) CountsIn k (alone k (own_bits body) (innocent_map (bits_of body) (has_map body)))
      (λ b j e. in_turn (p (record {
        context = c;
        bits = b;
      })) (λ r. give (r.0, r.1.context)) (λ i. p' i (record { context = c; bits = b })) (λ i r. give (r.0, r.1.context)) Counts CountsIn j
      (f j (record { context = c; bits = b }) (h ∙ sym e)) (λ r n d. (d, λ i. refl)))

  module _ (p : Segment) (p' : Room l → Segment) (f : (k : ℕ) (c : Context) → c.counted ≡ k → Raises CountsIn k (p c) (λ i. p' i c)) where
    elements_raise : (n k : ℕ) (c : Context) → c.counted ≡ k → Raises CountsIn k (elements p n c) (λ i. elements (p' i) n c)
    elements_raise zero k c h = (h, λ i. refl)
    elements_raise (suc n) k c h = (
      (λ i. p' i c >>= (λ r. hand ElementEnd (elements (p' i) n r.1 >>= (λ rest. give (element r.0 rest.0, rest.1))))),
      (λ i. refl),
      in_turn (p c) (λ r. hand ElementEnd (elements p n r.1 >>= (λ rest. give (element r.0 rest.0, rest.1)))) (λ i. p' i c)
          (λ i r. hand ElementEnd (elements (p' i) n r.1 >>= (λ rest. give (element r.0 rest.0, rest.1)))) CountsIn CountsIn k (f k c h)
          (λ r j d. (
            (λ i. elements (p' i) n r.1 >>= (λ rest. give (element r.0 rest.0, rest.1))),
            (λ i. refl),
            in_turn (elements p n r.1) (λ rest. give (element r.0 rest.0, rest.1)) (λ i. elements (p' i) n r.1)
                (λ i rest. give (element r.0 rest.0, rest.1)) CountsIn CountsIn j (elements_raise n j r.1 d) (λ rest m e. (e, λ i. refl)),
          )),
    )

    group_from_raises : (at k : ℕ) (s : State) → s.context.counted ≡ k → Raises Counts k (group_from at p s) (λ i. group_from at (p' i) s)
    group_from_raises at k s h = (
      (λ i. p' i s.context >>= (λ r. hand GroupEnd (give (Some (group_item r.0), record s { context = r.1 })))),
      (λ i. refl),
      in_turn (p s.context) (λ r. hand GroupEnd (give (Some (group_item r.0), record s { context = r.1 }))) (λ i. p' i s.context)
          (λ i r. hand GroupEnd (give (Some (group_item r.0), record s { context = r.1 }))) CountsIn Counts k (f k s.context h)
          (λ r j d. ((λ i. give (Some (group_item r.0), record s { context = r.1 })), (λ i. refl), (d, λ i. refl))),
    )

    group_raises : (optional : Bool) (at k : ℕ) (s : State) → s.context.counted ≡ k
        → Raises Counts k (group_in optional at p s) (λ i. group_in optional at (p' i) s)
    group_raises false at k s h = group_from_raises at k s h
    group_raises true at k s h = by (first_bit s.bits)
      where
        by : (b : Bool) → Raises Counts k (group_if b at p (record s { bits = later_bits s.bits }))
            (λ i. group_if b at (p' i) (record s { bits = later_bits s.bits }))
        by true = group_from_raises at k (record s { bits = later_bits s.bits }) h
        by false = (h, λ i. refl)

    -- what follows an announced sequence
    abbrev announced_then : ℕ → State → Segment → ℕ → Grammar Read
    announced_then at s q n = hand (SequenceStart at n) (elements q n (count_more n s.context) >>=
        (λ r. hand SequenceEnd (give (Some (sequence_item r.0), record s { context = r.1 }))))

    announced_raises : (at k n : ℕ) (s : State) → s.context.counted ≡ k → Raises Counts k (announced_then at s p n) (λ i. announced_then at s (p' i) n)
    announced_raises at k n s h = (
      (λ i. elements (p' i) n (count_more n s.context) >>= (λ r. hand SequenceEnd (give (Some (sequence_item r.0), record s { context = r.1 })))),
      (λ i. refl),
      in_turn (elements p n (count_more n s.context)) (λ r. hand SequenceEnd (give (Some (sequence_item r.0), record s { context = r.1 })))
          (λ i. elements (p' i) n (count_more n s.context))
          (λ i r. hand SequenceEnd (give (Some (sequence_item r.0), record s { context = r.1 }))) CountsIn Counts (k + n)
          (elements_raise n (k + n) (count_more n s.context) (ap (λ (z : ℕ). z + n) h))
          (λ r j d. ((λ i. give (Some (sequence_item r.0), record s { context = r.1 })), (λ i. refl), (d, λ i. refl))),
    )

    -- numbers within the limits and past them
    within_is : (i : Room l) (before n : ℕ) → n ≤ i.elements → before + n ≤ i.total → within_limits (wide l i) before n ≡ Ok n
    within_is i before n h j = by (nat_le n i.elements) (le-leb n i.elements h) (nat_le (before + n) i.total) (le-leb (before + n) i.total j)
      where
        by : (a : Bool) → a ≡ true → (b : Bool) → b ≡ true → ◌≡◌ {A = Result ℕ Code} (if a then (if b then Ok n else Err L5) else Err L2) (Ok n)
        by true d true e = refl
        by true d false e = absurd (cc e)
        by false d b e = absurd (cc d)

    sequence_raises : (at k : ℕ) (x : Found) → Counts x k → Raises Counts k (sequence_from B at p x) (λ i. sequence_from (wide l i) at (p' i) x)
    sequence_raises at k (None, s) h = (h, λ i. refl)
    sequence_raises at k (Some v, s) h = by (nat_le n l.max_elements) refl (nat_le (s.context.counted + n) l.max_total) refl
      where
        n : ℕ
        n = nat_abs (integer_of v)

        opens : (i : Room l) → n ≤ i.elements → s.context.counted + n ≤ i.total → sequence_from (wide l i) at (p' i) (Some v, s) ≡ announced_then at s (p' i) n
        opens i d e = ap (λ (z : Result ℕ Code). of_result z >>= announced_then at s (p' i)) (within_is i s.context.counted n d e)

        by : (a : Bool) → nat_le n l.max_elements ≡ a → (b : Bool) → nat_le (s.context.counted + n) l.max_total ≡ b
            → Raises Counts k (of_result (if a then (if b then Ok n else Err L5) else Err L2) >>= announced_then at s p)
            (λ i. sequence_from (wide l i) at (p' i) (Some v, s))
        by true d true e =
            same (announced_then at s p n) (λ i. announced_then at s (p' i) n)
            (λ i. sequence_from (wide l i) at (p' i) (Some v, s)) Counts k (announced_raises at k n s h)
            (λ i. opens i (le_trans (leb-true n l.max_elements d) i.more_elements) (le_trans (leb-true (s.context.counted + n) l.max_total e) i.more_total))
        by true d false e = inr (
          at,
          n,
          (leb-true n l.max_elements d, omega (arith, leb-false (s.context.counted + n) l.max_total e, h)),
          λ i x y. (
            elements (p' i) n (count_more n s.context) >>=
                (λ r. hand SequenceEnd (give (Some (sequence_item r.0), record s { context = r.1 }))),
            opens i x (omega (arith, y, h)),
          ),
        )
        by false d b e = inr (
          at,
          n,
          leb-false n l.max_elements d,
          λ i x y. (
            elements (p' i) n (count_more n s.context) >>=
                (λ r. hand SequenceEnd (give (Some (sequence_item r.0), record s { context = r.1 }))),
            opens i x (omega (arith, y, h)),
          ),
        )

  mutual
    unfolding instruction body_term

    instruction_raises : (i : Instruction) (k : ℕ) (s : State) → s.context.counted ≡ k → Raises Counts k (instruction B i s) (λ r. instruction (wide l r) i s)
    instruction_raises (field at f) k s h =
        in_turn (field_in B f s) (λ r. handed at.node r.0 r.1) (λ i. field_in (wide l i) f s)
        (λ i r. handed at.node r.0 r.1) Counts Counts k (found_raises k f s (λ a b. a ≡ b) h)
        (λ r j c. handed_raises j at.node r.0 r.1 c)
    instruction_raises (parts at e m) k s h =
        in_turn (field_in B e s) (mantissa_after B at.node m) (λ i. field_in (wide l i) e s)
        (λ i. mantissa_after (wide l i) at.node m) Counts Counts k (found_raises k e s (λ a b. a ≡ b) h)
        (λ r j c. mantissa_raises j at.node m r c)
    instruction_raises (group at optional body) k s h =
        group_raises (segment body (body_term B body)) (λ i. segment body (body_term (wide l i) body))
        (segment_raises body (body_term B body) (λ i. body_term (wide l i) body) (λ k s h. body_raises body k s h)) optional at.node k
        s h
    instruction_raises (sequence at f body) k s h =
        in_turn (field_in B f s) (sequence_from B at.node (segment body (body_term B body))) (λ i. field_in (wide l i) f s)
        (λ i. sequence_from (wide l i) at.node (segment body (body_term (wide l i) body))) Counts Counts k
        (found_raises k f s (λ a b. a ≡ b) h)
        (λ r j c. sequence_raises (segment body (body_term B body)) (λ i. segment body (body_term (wide l i) body))
        (segment_raises body (body_term B body) (λ i. body_term (wide l i) body) (λ k s h. body_raises body k s h)) at.node j r c)

    pub body_raises : (b : Body) (k : ℕ) (s : State) → s.context.counted ≡ k → Raises Counts k (body_term B b s) (λ i. body_term (wide l i) b s)
    body_raises end k s h = (h, λ i. refl)
    body_raises (step i is) k s h =
        in_turn (instruction B i s) (λ r. body_term B is r.1 >>= (λ rest. give (with_slot r.0 rest.0, rest.1)))
        (λ r. instruction (wide l r) i s) (λ q r. body_term (wide l q) is r.1 >>= (λ rest. give (with_slot r.0 rest.0, rest.1))) Counts
        Counts k (instruction_raises i k s h)
        (λ r j c. in_turn (body_term B is r.1) (λ rest. give (with_slot r.0 rest.0, rest.1)) (λ q. body_term (wide l q) is r.1)
        (λ q rest. give (with_slot r.0 rest.0, rest.1)) Counts Counts j (body_raises is j r.1 c) (λ rest m d. (d, λ q. refl)))

  -- messages
  counted_if : (b : Bool) (s : State) → s.context.counted ≡ 0 → (reset_if b s).context.counted ≡ 0
  counted_if true s h = h
  counted_if false s h = h

  abbrev pub Any : MessageData × Dictionary → ℕ → Type 0
  Any r n = Unit {0}

  of_raises : (k n : ℕ) (t : TemplateData) (s : State) → s.context.counted ≡ 0 → Raises Any k (message_of B n t s) (λ i. message_of (wide l i) n t s)
  of_raises k n t s h = (
    (λ i. body_term (wide l i) t.body (reset_if t.reset s) >>= (λ r. hand MessageEnd (give (record { template = n; slots = r.0 }, r.1.context.dictionary)))),
    (λ i. refl),
    in_turn (body_term B t.body (reset_if t.reset s)) (λ r. hand MessageEnd (give (
      record {
        template = n;
        slots = r.0;
      },
      r.1.context.dictionary,
    ))) (λ i. body_term (wide l i) t.body (reset_if t.reset s))
        (λ i r. hand MessageEnd (give (
          record {
            template = n;
            slots = r.0;
          },
          r.1.context.dictionary,
        ))) Counts Any 0 (body_raises t.body 0 (reset_if t.reset s) (counted_if t.reset s h))
        (λ r j c. ((λ i. give (record { template = n; slots = r.0 }, r.1.context.dictionary)), (λ i. refl), (tt, λ i. refl))),
  )

  id_other : (id n : ℕ) (ts : List TemplateData) → IsOtherResult (with_id id n ts)
  id_other id n [] = refl
  id_other id n (t ∷ ts) = by (has_id t.id id) (id_other id (suc n) ts)
    where
      by : (b : Bool) → IsOtherResult (with_id id (suc n) ts) → IsOtherResult (if b then Ok (n, t) else with_id id (suc n) ts)
      by true h = tt
      by false h = h

  template_other : (t : Tree) (x : Option ScalarData) → IsOtherResult (template_of t x)
  template_other t None = refl
  template_other t (Some v) = id_other (nat_abs (integer_of v)) 0 t.templates

  behind_raises : (k : ℕ) (t : Tree) (m : List ℕ) (x : Found) → x.1.context.counted ≡ 0
      → Raises Any k (message_behind t B m x) (λ i. message_behind t (wide l i) m x)
  behind_raises k t m x h =
      in_turn (of_result (template_of t x.0)) (λ u. narrow (message_bits u.1) m (message_of B u.0 u.1 x.1))
      (λ i. of_result (template_of t x.0)) (λ i u. narrow (message_bits u.1) m (message_of (wide l i) u.0 u.1 x.1)) (Stays k) Any k
      (alone k (of_result (template_of t x.0)) (innocent_result (template_of t x.0) (template_other t x.0)))
      (λ u j e. ((λ i. message_of (wide l i) u.0 u.1 x.1), (λ i. refl), of_raises j u.0 u.1 x.1 h))

  pub message_raises : (k : ℕ) (t : Tree) (d : Dictionary) → Raises Any k (message_term t B d) (λ i. message_term t (wide l i) d)
  unfolding message_term
  message_raises k t d = (
    (λ i m. field_in (wide l i) identifier (begin d (bits m)) >>= message_behind t (wide l i) m),
    (λ i. refl),
    λ m. in_turn (field_in B identifier (begin d (bits m))) (message_behind t B m) (λ i. field_in (wide l i) identifier (begin d (bits m)))
        (λ i. message_behind t (wide l i) m) (λ (r : Found) n. r.1.context.counted ≡ 0) Any k
        (found_raises k identifier (begin d (bits m)) (λ a n. a ≡ 0) refl) (λ x j c. behind_raises j t m x c),
  )
