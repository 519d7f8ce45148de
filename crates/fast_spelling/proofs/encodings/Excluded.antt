-- What is refused is not encoded, and it is refused with one fault.
use Rattle.std.proofs.Common.{◌≡◌, inl, inr, ◌⊎◌, ℕ, ◌-◌, List, [], ◌∷◌, ◌++◌, refl, ap, sym, subst, ◌∙◌}
use Rattle.std.specs.Prelude.{Bool, true, false, if◌then◌else◌, slice_get, Option, Some, None}
use Rattle.fast_wire.specs.meaning.Texts.{SpellsAscii}
use Rattle.fast_value.specs.declared.kinds.Kind.{Kind}
use Rattle.fast_value.specs.declared.kinds.Kind.TheVariants.{Ascii}
use Rattle.fast_value.specs.declared.settings.Limits.{Limits}
use Rattle.fast_value.specs.meaning.Kinds.{ScalarData, U, I, Dec, family, text_of}
use Rattle.fast_value.specs.meaning.Messages.{ItemData, one, group as group_item, sequence as sequence_item, Slots, Elements, no_elements}
use Rattle.fast_value.specs.meaning.Messages.{element, MessageData, count}
use Rattle.fast_tree.specs.declared.operators.Operator.{Operator}
use Rattle.fast_tree.specs.meaning.Tree.{FieldData, identifier, Instruction, field, parts, group, sequence, Body, end, step, has_map, TemplateData, Tree}
use Rattle.fast_dict.specs.meaning.Dictionary.{Dictionary, PreviousData, previous_at, reset}
use Rattle.fast_dict.specs.meaning.Operators.{Sent, value, text_delta, kept_length}
use Rattle.fast_spelling.specs.declared.faults.EncodeFault.{EncodeFault}
use Rattle.fast_spelling.specs.declared.faults.EncodeFault.TheVariants.{E1, E2, E3, E4, R9, Memory}
use Rattle.fast_spelling.specs.meaning.Encoding.{Encoder, EncodesField, ShortestMap, ShortestText, ShortestValue, SpellsSent, SpellsSentBy}
use Rattle.fast_spelling.specs.meaning.Encoding.{EncodesSegment, EncodesElements, EncodesScalar, EncodesDecimal, EncodesGroup}
use Rattle.fast_spelling.specs.meaning.Encoding.{EncodesSequence, Encodes, EncodesBody, EncodesMessage}
use Rattle.fast_spelling.specs.meaning.Refusals.{HasZeroInFront, HaveNoMap, RefusesField, RefusesScalar, RefusesDecimal, Refuser}
use Rattle.fast_spelling.specs.meaning.Refusals.{RefusesSegment, RefusesElements, RefusesGroup, RefusesSequence, Refuses, RefusesBody}
use Rattle.fast_spelling.specs.meaning.Refusals.{RefusesMessage, IsRefused}
use Rattle.fast_spelling.specs.meaning.Suiting.{SuitsTemplate, FitsLimits}
use Rattle.fast_spelling.proofs.rules.OneItem.{one_rule, text_kept}
use Rattle.fast_spelling.proofs.encodings.OneEncoding.{One, OneSegment, one_field, one_segment, one_instruction, one_body, same_slot, some_same, two_bits}

-- A text that begins with U+0000 is not spelled.
ascii_zero : (nullable : Bool) (room : ℕ) (t rest w : List ℕ) → t ≡ 0 ∷ rest → ¬ (SpellsAscii nullable room (Some t) w)
ascii_zero nullable room [] rest w e s = absurd (cc e)
ascii_zero nullable room (c ∷ t) rest w e s = let k : c ≡ 0 = cc in s.0 k

only_ascii : (kind : Kind) (x : Sent) → HasZeroInFront kind x → kind ≡ Ascii
only_ascii Ascii x h = refl
only_ascii kind x h = absurd h

module _ (l : Limits) (f : FieldData) (q : f.kind ≡ Ascii) where
  ascii_unspelled : (o : Operator) (p : PreviousData) (x : Sent) (w : List ℕ) → HasZeroInFront Ascii x → ¬ (SpellsSentBy o l f p x w)
  ascii_unspelled o p (value v) w (rest, z) s =
      let (t, e, g) = subst (λ (k : Kind). ShortestValue l f (family k) v w) q s in
      ascii_zero f.optional l.max_text t rest w (sym (text_kept f.kind t) ∙ ap text_of (sym e) ∙ z)
      (subst (λ (k : Kind). ShortestText k f.optional l.max_text (Some t) w) q g)
  ascii_unspelled o p (text_delta k part) w (rest, z) (kept, u, v, _, _, g, _) =
      ascii_zero false (l.max_text - kept_length kept) part rest v z
      (subst (λ (j : Kind). ShortestText j false (l.max_text - kept_length kept) (Some part) v) q g)
  ascii_unspelled o p x w h s = absurd h

zero_unspelled : (l : Limits) (f : FieldData) (p : PreviousData) (x : Sent) (w : List ℕ) → HasZeroInFront f.kind x → ¬ (SpellsSent l f p x w)
zero_unspelled l f p x w z s =
    let q = only_ascii f.kind x z in
    ascii_unspelled l f q f.operator p x w (subst (λ (k : Kind). HasZeroInFront k x) q z) s

-- What a part encodes it does not refuse, and what it refuses it refuses with one fault.
record Apart {A : Type 0} (encodes : Encoder A) (refuses : Dictionary → A → EncodeFault → Type 0) : Type 0 where
  pub not_both : (d : Dictionary) (x : A) (b : List Bool) (w : List ℕ) (g : Dictionary) (c : EncodeFault) → encodes d x b w g → ¬ (refuses d x c)
  pub one_fault : (d : Dictionary) (x : A) (a c : EncodeFault) → refuses d x a → refuses d x c → a ≡ c

-- the same without bits
record ApartSegment {A : Type 0} (encodes : Dictionary → A → List ℕ → Dictionary → Type 0) (refuses : Dictionary → A → EncodeFault → Type 0) : Type 0 where
  pub not_both : (d : Dictionary) (x : A) (w : List ℕ) (g : Dictionary) (c : EncodeFault) → encodes d x w g → ¬ (refuses d x c)
  pub one_fault : (d : Dictionary) (x : A) (a c : EncodeFault) → refuses d x a → refuses d x c → a ≡ c

-- bits that have a map
mapped : (h : Bool) (b : List Bool) (m : List ℕ) → h ≡ true → ShortestMap h b m → ¬ (HaveNoMap b)
mapped true b m e (form, same) none = none m form same
mapped false b m e s none = absurd (cc e)

module _ (l : Limits) where
  field_apart : (f : FieldData) → Apart (EncodesField l f) (RefusesField f)
  field_apart f = record { not_both = not_both; one_fault = one_fault }
    where
      not_both : (d : Dictionary) (v : Option ScalarData) (b : List Bool) (w : List ℕ) (g : Dictionary) (c : EncodeFault)
          → EncodesField l f d v b w g → ¬ (RefusesField f d v c)
      not_both d v b w g E3 (bit, item, next, rule, sent, op, e, q) r = r bit item rule
      not_both d v b w g R9 (bit, item, next, rule, sent, op, e, q) (other, x, rule', z) =
          let same = one_rule f (previous_at f.entry d) v bit other item x rule rule' in
          zero_unspelled l f (previous_at f.entry d) x w z (subst (λ (y : Sent). SpellsSent l f (previous_at f.entry d) y w) same.1 sent)
      not_both d v b w g c h r = absurd r

      one_fault : (d : Dictionary) (v : Option ScalarData) (a c : EncodeFault) → RefusesField f d v a → RefusesField f d v c → a ≡ c
      one_fault d v E3 E3 g h = refl
      one_fault d v R9 R9 g h = refl
      one_fault d v E3 R9 g (bit, x, rule, z) = absurd (g bit x rule)
      one_fault d v R9 E3 (bit, x, rule, z) h = absurd (h bit x rule)
      one_fault d v E3 c g h = absurd h
      one_fault d v R9 c g h = absurd h
      one_fault d v a c g h = absurd g

  scalar_apart : (f : FieldData) → Apart (EncodesScalar l f) (RefusesScalar f)
  scalar_apart f = record { not_both = not_both; one_fault = one_fault }
    where
      not_both : (d : Dictionary) (x : Option ItemData) (b : List Bool) (w : List ℕ) (g : Dictionary) (c : EncodeFault)
          → EncodesScalar l f d x b w g → ¬ (RefusesScalar f d x c)
      not_both d None b w g c h r = (field_apart f).not_both d None b w g c h r
      not_both d (Some (one v)) b w g c h r = (field_apart f).not_both d (Some v) b w g c h r
      not_both d (Some other) b w g c h r = absurd h

      one_fault : (d : Dictionary) (x : Option ItemData) (a c : EncodeFault) → RefusesScalar f d x a → RefusesScalar f d x c → a ≡ c
      one_fault d None a c g h = (field_apart f).one_fault d None a c g h
      one_fault d (Some (one v)) a c g h = (field_apart f).one_fault d (Some v) a c g h
      one_fault d (Some other) a c g h = absurd g

  decimal_apart : (e m : FieldData) → Apart (EncodesDecimal l e m) (RefusesDecimal l e m)
  decimal_apart e m = record { not_both = not_both; one_fault = one_fault }
    where
      not_both : (d : Dictionary) (x : Option ItemData) (b : List Bool) (w : List ℕ) (g : Dictionary) (c : EncodeFault)
          → EncodesDecimal l e m d x b w g → ¬ (RefusesDecimal l e m d x c)
      not_both d None b w g c h r = (field_apart e).not_both d None b w g c h r
      not_both d (Some (one (Dec x y))) b w g c (b1, b2, u, v, mid, p, q, eb, ew) (inl r) = (field_apart e).not_both d (Some (I x)) b1 u mid c p r
      not_both d (Some (one (Dec x y))) b w g c (b1, b2, u, v, mid, p, q, eb, ew) (inr (b', u', mid', p', r)) =
          let same = one_field l e d (Some (I x)) b1 b' u u' mid mid' p p' in
          (field_apart m).not_both mid' (Some (I y)) b2 v g c (subst (λ (z : Dictionary). EncodesField l m z (Some (I y)) b2 v g) same.dictionary q) r
      not_both d (Some other) b w g c h r = absurd h

      one_fault : (d : Dictionary) (x : Option ItemData) (a c : EncodeFault) → RefusesDecimal l e m d x a → RefusesDecimal l e m d x c → a ≡ c
      one_fault d None a c g h = (field_apart e).one_fault d None a c g h
      one_fault d (Some (one (Dec x y))) a c (inl g) (inl h) = (field_apart e).one_fault d (Some (I x)) a c g h
      one_fault d (Some (one (Dec x y))) a c (inl g) (inr (b, u, mid, p, h)) = absurd ((field_apart e).not_both d (Some (I x)) b u mid a p g)
      one_fault d (Some (one (Dec x y))) a c (inr (b, u, mid, p, g)) (inl h) = absurd ((field_apart e).not_both d (Some (I x)) b u mid c p h)
      one_fault d (Some (one (Dec x y))) a c (inr (b, u, mid, p, g)) (inr (b', u', mid', p', h)) =
          let same = one_field l e d (Some (I x)) b b' u u' mid mid' p p' in
          (field_apart m).one_fault mid' (Some (I y)) a c (subst (λ (z : Dictionary). RefusesField m z (Some (I y)) a) same.dictionary g) h
      one_fault d (Some other) a c g h = absurd g

  segment_apart : (body : Body) (inside : Encoder Slots) (refuses : Refuser) → One inside → Apart inside refuses
      → ApartSegment (EncodesSegment body inside) (RefusesSegment body inside refuses)
  segment_apart body inside refuses only apart = record { not_both = not_both; one_fault = one_fault }
    where
      not_both : (d : Dictionary) (vs : Slots) (w : List ℕ) (g : Dictionary) (c : EncodeFault) → EncodesSegment body inside d vs w g
          → ¬ (RefusesSegment body inside refuses d vs c)
      not_both d vs w g c (b, m, v, p, map, e) (inl r) = apart.not_both d vs b v g c p r
      not_both d vs w g c (b, m, v, p, map, e) (inr (b', v', mid, p', has, none, _)) =
          let same = only d vs b b' v v' g mid p p' in
          mapped (has_map body) b' m has (subst (λ (z : List Bool). ShortestMap (has_map body) z m) same.bits map) none

      one_fault : (d : Dictionary) (vs : Slots) (a c : EncodeFault) → RefusesSegment body inside refuses d vs a
          → RefusesSegment body inside refuses d vs c → a ≡ c
      one_fault d vs a c (inl g) (inl h) = apart.one_fault d vs a c g h
      one_fault d vs a c (inl g) (inr (b, v, mid, p, has, none, _)) = absurd (apart.not_both d vs b v mid a p g)
      one_fault d vs a c (inr (b, v, mid, p, has, none, _)) (inl h) = absurd (apart.not_both d vs b v mid c p h)
      one_fault d vs a c (inr (_, _, _, _, _, _, e)) (inr (_, _, _, _, _, _, f)) = e ∙ sym f

  group_apart : (optional : Bool) (inside : Dictionary → Slots → List ℕ → Dictionary → Type 0) (refuses : Refuser)
      → ApartSegment inside refuses → Apart (EncodesGroup optional inside) (RefusesGroup refuses)
  group_apart optional inside refuses apart = record { not_both = not_both; one_fault = one_fault }
    where
      not_both : (d : Dictionary) (x : Option ItemData) (b : List Bool) (w : List ℕ) (g : Dictionary) (c : EncodeFault)
          → EncodesGroup optional inside d x b w g → ¬ (RefusesGroup refuses d x c)
      not_both d (Some (group_item vs)) b w g c (e, h) r = apart.not_both d vs w g c h r
      not_both d x b w g c h r = absurd r

      one_fault : (d : Dictionary) (x : Option ItemData) (a c : EncodeFault) → RefusesGroup refuses d x a → RefusesGroup refuses d x c → a ≡ c
      one_fault d (Some (group_item vs)) a c g h = apart.one_fault d vs a c g h
      one_fault d x a c g h = absurd g

  module _ (encodes : Dictionary → Slots → List ℕ → Dictionary → Type 0) (refuses : Refuser) (only : OneSegment encodes)
      (apart : ApartSegment encodes refuses) where
    elements_not_both : (rows : Elements) (d : Dictionary) (w : List ℕ) (g : Dictionary) (c : EncodeFault)
        → EncodesElements encodes d rows w g → ¬ (RefusesElements encodes refuses d rows c)
    elements_not_both no_elements d w g c h r = absurd r
    elements_not_both (element vs rest) d w g c (u, v, mid, p, q, e) (inl r) = apart.not_both d vs u mid c p r
    elements_not_both (element vs rest) d w g c (u, v, mid, p, q, e) (inr (u', mid', p', r)) =
        let same = only d vs u u' mid mid' p p' in
        elements_not_both rest mid' v g c (subst (λ (z : Dictionary). EncodesElements encodes z rest v g) same.dictionary q) r

    elements_one_fault : (rows : Elements) (d : Dictionary) (a c : EncodeFault) → RefusesElements encodes refuses d rows a
        → RefusesElements encodes refuses d rows c → a ≡ c
    elements_one_fault no_elements d a c g h = absurd g
    elements_one_fault (element vs rest) d a c (inl g) (inl h) = apart.one_fault d vs a c g h
    elements_one_fault (element vs rest) d a c (inl g) (inr (u, mid, p, h)) = absurd (apart.not_both d vs u mid a p g)
    elements_one_fault (element vs rest) d a c (inr (u, mid, p, g)) (inl h) = absurd (apart.not_both d vs u mid c p h)
    elements_one_fault (element vs rest) d a c (inr (u, mid, p, g)) (inr (u', mid', p', h)) =
        let same = only d vs u u' mid mid' p p' in
        elements_one_fault rest mid' a c (subst (λ (z : Dictionary). RefusesElements encodes refuses z rest a) same.dictionary g) h

    sequence_apart : (f : FieldData) → Apart (EncodesSequence l f encodes) (RefusesSequence l f encodes refuses)
    sequence_apart f = record { not_both = not_both; one_fault = one_fault }
      where
        not_both : (d : Dictionary) (x : Option ItemData) (b : List Bool) (w : List ℕ) (g : Dictionary) (c : EncodeFault)
            → EncodesSequence l f encodes d x b w g → ¬ (RefusesSequence l f encodes refuses d x c)
        not_both d None b w g c h r = (field_apart f).not_both d None b w g c h r
        not_both d (Some (sequence_item rows)) b w g c (u, v, mid, p, q, e) (inl r) = (field_apart f).not_both d (Some (U (count rows))) b u mid c p r
        not_both d (Some (sequence_item rows)) b w g c (u, v, mid, p, q, e) (inr (b', u', mid', p', r)) =
            let same = one_field l f d (Some (U (count rows))) b b' u u' mid mid' p p' in
            elements_not_both rows mid' v g c (subst (λ (z : Dictionary). EncodesElements encodes z rows v g) same.dictionary q) r
        not_both d (Some other) b w g c h r = absurd h

        one_fault : (d : Dictionary) (x : Option ItemData) (a c : EncodeFault) → RefusesSequence l f encodes refuses d x a
            → RefusesSequence l f encodes refuses d x c → a ≡ c
        one_fault d None a c g h = (field_apart f).one_fault d None a c g h
        one_fault d (Some (sequence_item rows)) a c (inl g) (inl h) = (field_apart f).one_fault d (Some (U (count rows))) a c g h
        one_fault d (Some (sequence_item rows)) a c (inl g) (inr (b, u, mid, p, h)) = absurd ((field_apart f).not_both d (Some (U (count rows))) b u mid a p g)
        one_fault d (Some (sequence_item rows)) a c (inr (b, u, mid, p, g)) (inl h) = absurd ((field_apart f).not_both d (Some (U (count rows))) b u mid c p h)
        one_fault d (Some (sequence_item rows)) a c (inr (b, u, mid, p, g)) (inr (b', u', mid', p', h)) =
            let same = one_field l f d (Some (U (count rows))) b b' u u' mid mid' p p' in
            elements_one_fault rows mid' a c (subst (λ (z : Dictionary). RefusesElements encodes refuses z rows a) same.dictionary g) h
        one_fault d (Some other) a c g h = absurd g

  module _ (i : Instruction) (is : Body) (first : Apart (Encodes l i) (Refuses l i)) (behind : Apart (EncodesBody l is) (RefusesBody l is)) where
    step_not_both : (d : Dictionary) (vs : Slots) (b : List Bool) (w : List ℕ) (g : Dictionary) (c : EncodeFault)
        → EncodesBody l (step i is) d vs b w g → ¬ (RefusesBody l (step i is) d vs c)
    unfolding Encodes Refuses
    step_not_both d vs b w g c (x, rest, b1, b2, u, v, mid, p, q, e, eb, ew) (y, left, e', inl r) =
        let slots = same_slot x y rest left (sym e ∙ e') in
        first.not_both d y b1 u mid c (subst (λ (z : Option ItemData). Encodes l i d z b1 u mid) slots.slot p) r
    step_not_both d vs b w g c (x, rest, b1, b2, u, v, mid, p, q, e, eb, ew) (y, left, e', inr (b', u', mid', p', r)) =
        let slots = same_slot x y rest left (sym e ∙ e') in
        let same = one_instruction l i d y b1 b' u u' mid mid' (subst (λ (z : Option ItemData). Encodes l i d z b1 u mid) slots.slot p) p' in
        let q1 = subst (λ (z : Dictionary). EncodesBody l is z rest b2 v g) same.dictionary q in
        behind.not_both mid' left b2 v g c (subst (λ (z : Slots). EncodesBody l is mid' z b2 v g) slots.rest q1) r

    -- what is refused of a slot, or of those behind it
    abbrev At : Dictionary → Option ItemData → Slots → EncodeFault → Type 0
    At d x rest c = Refuses l i d x c ⊎ ((b : List Bool) × (u : List ℕ) × (mid : Dictionary) × Encodes l i d x b u mid × RefusesBody l is mid rest c)

    step_one_fault : (d : Dictionary) (vs : Slots) (a c : EncodeFault) → RefusesBody l (step i is) d vs a → RefusesBody l (step i is) d vs c → a ≡ c
    unfolding Refuses
    step_one_fault d vs a c (x, rest, e, g) (y, left, e', h) =
        let slots = same_slot x y rest left (sym e ∙ e') in
        by (subst (λ (z : Slots). At d y z a) slots.rest (subst (λ (z : Option ItemData). At d z rest a) slots.slot g)) h
      where
        by : At d y left a → At d y left c → a ≡ c
        by (inl g) (inl h) = first.one_fault d y a c g h
        by (inl g) (inr (b, u, mid, p, h)) = absurd (first.not_both d y b u mid a p g)
        by (inr (b, u, mid, p, g)) (inl h) = absurd (first.not_both d y b u mid c p h)
        by (inr (b, u, mid, p, g)) (inr (b', u', mid', p', h)) =
            let same = one_instruction l i d y b b' u u' mid mid' p p' in
            behind.one_fault mid' left a c (subst (λ (z : Dictionary). RefusesBody l is z left a) same.dictionary g) h

  abbrev inner : (body : Body) → Apart (EncodesBody l body) (RefusesBody l body)
      → ApartSegment (EncodesSegment body (EncodesBody l body)) (RefusesSegment body (EncodesBody l body) (RefusesBody l body))
  inner body apart = segment_apart body (EncodesBody l body) (RefusesBody l body) (one_body l body) apart

  mutual
    unfolding Encodes Refuses

    instruction_apart : (i : Instruction) → Apart (Encodes l i) (Refuses l i)
    instruction_apart (field at f) = scalar_apart f
    instruction_apart (parts at e m) = decimal_apart e m
    instruction_apart (group at optional body) =
        group_apart optional (EncodesSegment body (EncodesBody l body)) (RefusesSegment body (EncodesBody l body) (RefusesBody l body))
        (inner body (body_apart body))
    instruction_apart (sequence at f body) =
        sequence_apart (EncodesSegment body (EncodesBody l body)) (RefusesSegment body (EncodesBody l body) (RefusesBody l body))
        (one_segment l body (EncodesBody l body) (one_body l body)) (inner body (body_apart body)) f

    body_apart : (body : Body) → Apart (EncodesBody l body) (RefusesBody l body)
    body_apart end = record { not_both = λ d vs b w g c h r. r; one_fault = λ d vs a c g h. absurd g }
    body_apart (step i is) = record {
      not_both = step_not_both i is (instruction_apart i) (body_apart is);
      one_fault = step_one_fault i is (instruction_apart i) (body_apart is);
    }

-- what is refused of a message behind its identifier
abbrev Behind : Limits → MessageData → TemplateData → Dictionary → List Bool → EncodeFault → Type 0
Behind l m u mid b1 c = RefusesBody l u.body (if u.reset then reset mid else mid) m.slots c
    ⊎ ((b2 : List Bool) × (v : List ℕ) × (d' : Dictionary) × EncodesBody l u.body (if u.reset then reset mid else mid) m.slots b2 v d'
    × HaveNoMap (b1 ++ b2) × (c ≡ E3))

message_not_both : (t : Tree) (l : Limits) (d d' : Dictionary) (m : MessageData) (w : List ℕ) (c : EncodeFault)
    → EncodesMessage t l d m w d' → ¬ (RefusesMessage t l d m c)
unfolding EncodesMessage
message_not_both t l d d' m w c (u, id, b1, b2, map, x, s, mid, at, own, p, q, shortest, e) (u', id', c1, y, mid', at', own', p', r) =
    let k : u ≡ u' = some_same (slice_get t.templates m.template) u u' at at' in
    let n : id ≡ id' = some_same u'.id id id' (subst (λ (z : TemplateData). z.id ≡ Some id) k own) own' in
    let first = one_field l identifier d (Some (U id')) b1 c1 x y mid mid' (subst (λ (z : ℕ). EncodesField l identifier d (Some (U z)) b1 x mid) n p) p' in
    let q1 = subst (λ (z : TemplateData). EncodesBody l z.body (if z.reset then reset mid else mid) m.slots b2 s d') k q in
    let q2 = subst (λ (z : Dictionary). EncodesBody l u'.body (if u'.reset then reset z else z) m.slots b2 s d') first.dictionary q1 in
    by first.bits q2 r
  where
    by : b1 ≡ c1 → EncodesBody l u'.body (if u'.reset then reset mid' else mid') m.slots b2 s d' → Behind l m u' mid' c1 c → ⊥
    by f q (inl r) = (body_apart l u'.body).not_both (if u'.reset then reset mid' else mid') m.slots b2 s d' c q r
    by f q (inr (c2, v, g, q', none, _)) =
        let second = one_body l u'.body (if u'.reset then reset mid' else mid') m.slots b2 c2 s v d' g q q' in
        let bits = two_bits (b1 ++ b2) (c1 ++ c2) b1 b2 c1 c2 refl refl f second.bits in
        mapped true (c1 ++ c2) map refl (subst (λ (z : List Bool). ShortestMap true z map) bits shortest) none

message_one_fault : (t : Tree) (l : Limits) (d : Dictionary) (m : MessageData) (a c : EncodeFault) → RefusesMessage t l d m a → RefusesMessage t l d m c → a ≡ c
message_one_fault t l d m a c (u, id, b1, x, mid, at, own, p, g) (u', id', c1, y, mid', at', own', p', h) =
    let k : u ≡ u' = some_same (slice_get t.templates m.template) u u' at at' in
    let n : id ≡ id' = some_same u'.id id id' (subst (λ (z : TemplateData). z.id ≡ Some id) k own) own' in
    let first = one_field l identifier d (Some (U id')) b1 c1 x y mid mid' (subst (λ (z : ℕ). EncodesField l identifier d (Some (U z)) b1 x mid) n p) p' in
    let g1 = subst (λ (z : TemplateData). Behind l m z mid b1 a) k g in
    by (subst (λ (z : Dictionary). Behind l m u' z b1 a) first.dictionary g1) h
  where
    by : Behind l m u' mid' b1 a → Behind l m u' mid' c1 c → a ≡ c
    by (inl g) (inl h) = (body_apart l u'.body).one_fault (if u'.reset then reset mid' else mid') m.slots a c g h
    by (inl g) (inr (b2, v, e, q, none, _)) = absurd ((body_apart l u'.body).not_both (if u'.reset then reset mid' else mid') m.slots b2 v e a q g)
    by (inr (b2, v, e, q, none, _)) (inl h) = absurd ((body_apart l u'.body).not_both (if u'.reset then reset mid' else mid') m.slots b2 v e c q h)
    by (inr (_, _, _, _, _, e)) (inr (_, _, _, _, _, f)) = e ∙ sym f

pub refused_is_not_encoded : (t : Tree) (l : Limits) (d d' : Dictionary) (m : MessageData) (w : List ℕ) (c : EncodeFault)
    → SuitsTemplate t m → FitsLimits l m.slots → EncodesMessage t l d m w d' → ¬ (IsRefused t l d m c)
unfolding EncodesMessage
refused_is_not_encoded t l d d' m w E1 suits fits (u, id, b1, b2, map, x, s, mid, at, own, p, q, shortest, e) r = r (u, id, at, own)
refused_is_not_encoded t l d d' m w E2 suits fits h r = r.1 suits
refused_is_not_encoded t l d d' m w E4 suits fits h r = r.2 fits
refused_is_not_encoded t l d d' m w E3 suits fits h r = message_not_both t l d d' m w E3 h r.3
refused_is_not_encoded t l d d' m w R9 suits fits h r = message_not_both t l d d' m w R9 h r.3
refused_is_not_encoded t l d d' m w Memory suits fits h r = r

pub one_refusal : (t : Tree) (l : Limits) (d : Dictionary) (m : MessageData) (a b : EncodeFault) → IsRefused t l d m a → IsRefused t l d m b → a ≡ b
one_refusal t l d m E1 E1 g h = refl
one_refusal t l d m E1 Memory g h = absurd h
one_refusal t l d m E1 b g h = absurd (g h.0)
one_refusal t l d m E2 E2 g h = refl
one_refusal t l d m E2 E1 g h = absurd (h g.0)
one_refusal t l d m E2 Memory g h = absurd h
one_refusal t l d m E2 b g h = absurd (g.1 h.1)
one_refusal t l d m E4 E4 g h = refl
one_refusal t l d m E4 E1 g h = absurd (h g.0)
one_refusal t l d m E4 E2 g h = absurd (h.1 g.1)
one_refusal t l d m E4 Memory g h = absurd h
one_refusal t l d m E4 b g h = absurd (g.2 h.2)
one_refusal t l d m E3 E1 g h = absurd (h g.0)
one_refusal t l d m E3 E2 g h = absurd (h.1 g.1)
one_refusal t l d m E3 E4 g h = absurd (h.2 g.2)
one_refusal t l d m E3 Memory g h = absurd h
one_refusal t l d m E3 b g h = message_one_fault t l d m E3 b g.3 h.3
one_refusal t l d m R9 E1 g h = absurd (h g.0)
one_refusal t l d m R9 E2 g h = absurd (h.1 g.1)
one_refusal t l d m R9 E4 g h = absurd (h.2 g.2)
one_refusal t l d m R9 Memory g h = absurd h
one_refusal t l d m R9 b g h = message_one_fault t l d m R9 b g.3 h.3
one_refusal t l d m Memory b g h = absurd g
