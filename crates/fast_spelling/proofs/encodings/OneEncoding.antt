-- A message has one encoding, and one dictionary behind it.
use Rattle.std.proofs.Common.{◌≡◌, ℕ, List, [], ◌∷◌, ◌++◌, refl, ap, sym, subst, ◌∙◌}
use Rattle.std.specs.Prelude.{Bool, true, if◌then◌else◌, slice_get, Option, Some, None}
use Rattle.std.proofs.lemmas.List.{append_assoc}
use Rattle.fast_value.specs.declared.settings.Limits.{Limits}
use Rattle.fast_value.specs.meaning.Kinds.{U, I, Dec}
use Rattle.fast_value.specs.meaning.Messages.{ItemData, one, group as group_item, sequence as sequence_item, Slots, Elements, no_elements}
use Rattle.fast_value.specs.meaning.Messages.{element, MessageData, count}
use Rattle.fast_tree.specs.meaning.Tree.{FieldData, identifier, uses_bit, Instruction, field, parts, group, sequence, Body, end, step}
use Rattle.fast_tree.specs.meaning.Tree.{has_map, TemplateData, Tree}
use Rattle.fast_dict.specs.meaning.Dictionary.{Dictionary, PreviousData, previous_at, write_at, reset}
use Rattle.fast_dict.specs.meaning.Operators.{Sent, Op}
use Rattle.fast_stream.specs.meaning.Messages.{with_slot}
use Rattle.fast_stream.specs.meaning.Streams.{AreBytes}
use Rattle.fast_spelling.specs.meaning.Encoding.{Encoder, EncodesField, ShortestMap, SpellsSent, EncodesSegment, EncodesElements}
use Rattle.fast_spelling.specs.meaning.Encoding.{EncodesScalar, EncodesDecimal, EncodesGroup, EncodesSequence, Encodes, EncodesBody}
use Rattle.fast_spelling.specs.meaning.Encoding.{EncodesMessage}
use Rattle.fast_spelling.proofs.rules.OneItem.{one_rule, one_next, one_spelled, one_map, two_parts, bytes_left, bytes_right}

-- The same bits and dictionary, and the same bytes where what stands there are bytes.
pub record Same (b c : List Bool) (v w : List ℕ) (d e : Dictionary) : Type 0 where
  pub bits : b ≡ c
  pub bytes : AreBytes v → AreBytes w → v ≡ w
  pub dictionary : d ≡ e

-- A part that encodes a thing does so in one way.
abbrev pub One : {A : Type 0} → Encoder A → Type 0
One {A} encodes = (d : Dictionary) (x : A) (b c : List Bool) (v w : List ℕ) (g h : Dictionary) → encodes d x b v g → encodes d x c w h → Same b c v w g h

-- the same without bits
pub record SameBytes (v w : List ℕ) (d e : Dictionary) : Type 0 where
  pub bytes : AreBytes v → AreBytes w → v ≡ w
  pub dictionary : d ≡ e

abbrev pub OneSegment : {A : Type 0} → (Dictionary → A → List ℕ → Dictionary → Type 0) → Type 0
OneSegment {A} encodes = (d : Dictionary) (x : A) (v w : List ℕ) (g h : Dictionary) → encodes d x v g → encodes d x w h → SameBytes v w g h

pub two_bits : (b c p q r s : List Bool) → b ≡ p ++ q → c ≡ r ++ s → p ≡ r → q ≡ s → b ≡ c
two_bits b c p q r s e f g h = e ∙ ap (λ (z : List Bool). z ++ q) g ∙ ap (λ (z : List Bool). r ++ z) h ∙ sym f

-- bytes in two parts
both_bytes : (v w u s t r : List ℕ) → v ≡ u ++ s → w ≡ t ++ r → (AreBytes u → AreBytes t → u ≡ t) → (AreBytes s → AreBytes r → s ≡ r)
    → AreBytes v → AreBytes w → v ≡ w
both_bytes v w u s t r e f g h i j = two_parts v w u s t r e f (g (bytes_left v u s e i) (bytes_left w t r f j))
    (h (bytes_right v u s e i) (bytes_right w t r f j))

-- a slot in front of others
pub record SameSlot (x y : Option ItemData) (vs ws : Slots) : Type 0 where
  pub slot : x ≡ y
  pub rest : vs ≡ ws

pub same_slot : (x y : Option ItemData) (vs ws : Slots) → with_slot x vs ≡ with_slot y ws → SameSlot x y vs ws
same_slot None None vs ws e = record { slot = refl; rest = cc }
same_slot None (Some y) vs ws e = absurd (cc e)
same_slot (Some x) None vs ws e = absurd (cc e)
same_slot (Some x) (Some y) vs ws e = let k : x ≡ y = cc in record { slot = ap Some k; rest = cc }

module _ (l : Limits) where
  pub one_field : (f : FieldData) → One (EncodesField l f)
  one_field f d x b c v w g h (bit, item, next, rule, spelled, op, e, q) (bit', item', next', rule', spelled', op', e', q') =
      let same = one_rule f (previous_at f.entry d) x bit bit' item item' rule rule' in
      let spelled'' = subst (λ (z : Sent). SpellsSent l f (previous_at f.entry d) z v) same.1 spelled in
      let op1 = subst (λ (z : Bool). Op f (previous_at f.entry d) z item x next) same.0 op in
      let op2 = subst (λ (z : Sent). Op f (previous_at f.entry d) bit' z x next) same.1 op1 in
      let n = one_next f (previous_at f.entry d) bit' item' x next next' op2 op' in
      record {
        bits = e ∙ ap (λ (z : Bool). if uses_bit f then z ∷ [] else []) same.0 ∙ sym e';
        bytes = λ i j. one_spelled l f f.operator (previous_at f.entry d) item' v w i j spelled'' spelled';
        dictionary = q ∙ ap (λ (z : PreviousData). write_at f.entry z d) n ∙ sym q';
      }

  one_scalar : (f : FieldData) → One (EncodesScalar l f)
  one_scalar f d None b c v w g h p q = one_field f d None b c v w g h p q
  one_scalar f d (Some (one x)) b c v w g h p q = one_field f d (Some x) b c v w g h p q
  one_scalar f d (Some (group_item vs)) b c v w g h p q = absurd p
  one_scalar f d (Some (sequence_item rows)) b c v w g h p q = absurd p

  one_decimal : (e m : FieldData) → One (EncodesDecimal l e m)
  one_decimal e m d None b c v w g h p q = one_field e d None b c v w g h p q
  one_decimal e m d (Some (one (Dec x y))) b c v w g h (b1, b2, u, s, mid, p, q, eb, ew) (c1, c2, t, r, mid', p', q', ec, ez) =
      let first = one_field e d (Some (I x)) b1 c1 u t mid mid' p p' in
      let second = one_field m mid' (Some (I y)) b2 c2 s r g h (subst (λ (z : Dictionary). EncodesField l m z (Some (I y)) b2 s g) first.dictionary q) q' in
      record {
        bits = two_bits b c b1 b2 c1 c2 eb ec first.bits second.bits;
        bytes = both_bytes v w u s t r ew ez first.bytes second.bytes;
        dictionary = second.dictionary;
      }
  one_decimal e m d (Some other) b c v w g h p q = absurd p

  one_group : (optional : Bool) (inside : Dictionary → Slots → List ℕ → Dictionary → Type 0) → OneSegment inside → One (EncodesGroup optional inside)
  one_group optional inside only d None b c v w g h (o, e, p, q) (o', e', p', q') = record {
    bits = e ∙ sym e';
    bytes = λ i j. p ∙ sym p';
    dictionary = q ∙ sym q';
  }
  one_group optional inside only d (Some (group_item vs)) b c v w g h (e, p) (e', p') =
      let same = only d vs v w g h p p' in
      record { bits = e ∙ sym e'; bytes = same.bytes; dictionary = same.dictionary }
  one_group optional inside only d (Some (one x)) b c v w g h p q = absurd p
  one_group optional inside only d (Some (sequence_item rows)) b c v w g h p q = absurd p

  one_elements : (inside : Dictionary → Slots → List ℕ → Dictionary → Type 0) → OneSegment inside
      → (rows : Elements) (d : Dictionary) (v w : List ℕ) (g h : Dictionary)
      → EncodesElements inside d rows v g → EncodesElements inside d rows w h → SameBytes v w g h
  one_elements inside only no_elements d v w g h (p, q) (p', q') = record { bytes = λ i j. p ∙ sym p'; dictionary = q ∙ sym q' }
  one_elements inside only (element vs rest) d v w g h (u, s, mid, p, q, e) (t, r, mid', p', q', e') =
      let first = only d vs u t mid mid' p p' in
      let second = one_elements inside only rest mid' s r g h (subst (λ (z : Dictionary). EncodesElements inside z rest s g) first.dictionary q) q' in
      record { bytes = both_bytes v w u s t r e e' first.bytes second.bytes; dictionary = second.dictionary }

  one_sequence : (f : FieldData) (inside : Dictionary → Slots → List ℕ → Dictionary → Type 0) → OneSegment inside → One (EncodesSequence l f inside)
  one_sequence f inside only d None b c v w g h p q = one_field f d None b c v w g h p q
  one_sequence f inside only d (Some (sequence_item rows)) b c v w g h (u, s, mid, p, q, e) (t, r, mid', p', q', e') =
      let first = one_field f d (Some (U (count rows))) b c u t mid mid' p p' in
      let second = one_elements inside only rows mid' s r g h (subst (λ (z : Dictionary). EncodesElements inside z rows s g) first.dictionary q) q' in
      record { bits = first.bits; bytes = both_bytes v w u s t r e e' first.bytes second.bytes; dictionary = second.dictionary }
  one_sequence f inside only d (Some (one x)) b c v w g h p q = absurd p
  one_sequence f inside only d (Some (group_item vs)) b c v w g h p q = absurd p

  pub one_segment : (body : Body) (inside : Encoder Slots) → One inside → OneSegment (EncodesSegment body inside)
  one_segment body inside only d vs v w g h (b, m, s, p, q, e) (c, n, r, p', q', e') =
      let rest = only d vs b c s r g h p p' in
      let q1 = subst (λ (z : List Bool). ShortestMap (has_map body) z m) rest.bits q in
      record { bytes = both_bytes v w m s n r e e' (λ i j. one_map (has_map body) c m n i j q1 q') rest.bytes; dictionary = rest.dictionary }

  mutual
    unfolding Encodes

    pub one_instruction : (i : Instruction) → One (Encodes l i)
    one_instruction (field at f) d x b c v w g h p q = one_scalar f d x b c v w g h p q
    one_instruction (parts at e m) d x b c v w g h p q = one_decimal e m d x b c v w g h p q
    one_instruction (group at optional body) d x b c v w g h p q =
        one_group optional (EncodesSegment body (EncodesBody l body))
        (one_segment body (EncodesBody l body) (one_body body)) d x b c v w g h p q
    one_instruction (sequence at f body) d x b c v w g h p q =
        one_sequence f (EncodesSegment body (EncodesBody l body))
        (one_segment body (EncodesBody l body) (one_body body)) d x b c v w g h p q

    pub one_body : (body : Body) → One (EncodesBody l body)
    one_body end d vs b c v w g h (_, e, p, q) (_, e', p', q') = record { bits = e ∙ sym e'; bytes = λ i j. p ∙ sym p'; dictionary = q ∙ sym q' }
    one_body (step k ks) d vs b c v w g h (x, rest, b1, b2, u, s, mid, p, q, e, eb, ew) (y, left, c1, c2, t, r, mid', p', q', e', ec, ez) =
        let slots = same_slot x y rest left (sym e ∙ e') in
        let first = one_instruction k d y b1 c1 u t mid mid' (subst (λ (z : Option ItemData). Encodes l k d z b1 u mid) slots.slot p) p' in
        let q1 = subst (λ (z : Dictionary). EncodesBody l ks z rest b2 s g) first.dictionary q in
        let second = one_body ks mid' left b2 c2 s r g h (subst (λ (z : Slots). EncodesBody l ks mid' z b2 s g) slots.rest q1) q' in
        record {
          bits = two_bits b c b1 b2 c1 c2 eb ec first.bits second.bits;
          bytes = both_bytes v w u s t r ew ez first.bytes second.bytes;
          dictionary = second.dictionary;
        }

-- what is Some is one thing
pub some_same : {A : Type 0} (o : Option A) (a b : A) → o ≡ Some a → o ≡ Some b → a ≡ b
some_same o a b e f = cc

pub one_encoding : (t : Tree) (l : Limits) (d : Dictionary) (m : MessageData) (v w : List ℕ) (g h : Dictionary) → AreBytes v → AreBytes w
    → EncodesMessage t l d m v g → EncodesMessage t l d m w h → (v ≡ w) × (g ≡ h)
unfolding EncodesMessage
one_encoding t l d m v w g h i j (u, id, b1, b2, map, x, s, mid, at, own, p, q, shortest, e)
    (u', id', c1, c2, map', y, r, mid', at', own', p', q', shortest', e') =
    let k : u ≡ u' = some_same (slice_get t.templates m.template) u u' at at' in
    let n : id ≡ id' = some_same u'.id id id' (subst (λ (z : TemplateData). z.id ≡ Some id) k own) own' in
    let first = one_field l identifier d (Some (U id')) b1 c1 x y mid mid' (subst (λ (z : ℕ). EncodesField l identifier d (Some (U z)) b1 x mid) n p) p' in
    let q1 = subst (λ (z : TemplateData). EncodesBody l z.body (if z.reset then reset mid else mid) m.slots b2 s g) k q in
    let q2 = subst (λ (z : Dictionary). EncodesBody l u'.body (if u'.reset then reset z else z) m.slots b2 s g) first.dictionary q1 in
    let second = one_body l u'.body (if u'.reset then reset mid' else mid') m.slots b2 c2 s r g h q2 q' in
    let bits = two_bits (b1 ++ b2) (c1 ++ c2) b1 b2 c1 c2 refl refl first.bits second.bits in
    let shortest1 = subst (λ (z : List Bool). ShortestMap true z map) bits shortest in
    let behind = both_bytes (x ++ s) (y ++ r) x s y r refl refl first.bytes second.bytes in (
      both_bytes v w map (x ++ s) map' (y ++ r) (e ∙ append_assoc map x s) (e' ∙ append_assoc map' y r)
          (λ a z. one_map true (c1 ++ c2) map map' a z shortest1 shortest') behind i j,
      second.dictionary,
    )
