-- The instructions of nodes, and what is written and refused of them.
use Rattle.std.proofs.Common.{◌≡◌, ◌⊎◌, inl, inr, ℕ, ◌-◌, ◌<◌, ℤ, ◌≤◌, List, [], ◌∷◌, ◌++◌, length, refl, ap, sym, subst, ◌∙◌, arith}
use Rattle.std.specs.Prelude.{Bool, true, false, if◌then◌else◌, Option, Some, None, Result, Ok, Err, IfErr, IfSome, slice_get, slice_index_or}
use Rattle.std.proofs.lemmas.List.{append_assoc}
use Rattle.std.proofs.lemmas.Bool.{cases_lt}
use Rattle.fast_value.specs.declared.settings.Limits.{Limits}
use Rattle.fast_value.specs.meaning.Kinds.{ScalarData, U, I, Dec, text_of}
use Rattle.fast_value.specs.meaning.Messages.{ItemData, one, group as group_item, sequence as sequence_item, Slots, Elements, count}
use Rattle.fast_tree.specs.declared.instructions.Shape.{Shape}
use Rattle.fast_tree.specs.declared.instructions.Node.{Node}
use Rattle.fast_template.specs.declared.sets.Templates.{Templates}
use Rattle.fast_tree.specs.meaning.Tree.{Label, FieldData, Instruction, field, parts, group, sequence, Body}
use Rattle.fast_tree.specs.meaning.Nodes.{label_of, instructions_from, no_instruction}
use Rattle.fast_tree.specs.meaning.NodeData.{shape_data}
use Rattle.fast_template.specs.meaning.Flat.{nodes_of, tree_of}
use Rattle.fast_tree.specs.meaning.Numbers.{numbers_of, AreBetween}
use Rattle.fast_tree.specs.meaning.Usable.{IsUsable, IsUsableShape}
use Rattle.fast_dict.specs.meaning.Dictionary.{Dictionary}
use Rattle.fast_dict.specs.meaning.EntryTexts.{AnyField, IsLongText, HasLongInitial}
use Rattle.fast_tree.specs.device.Bodies.{instruction_among}
use Rattle.fast_tree.proofs.BodyNodes.{node_instruction}
use Rattle.fast_spelling.specs.declared.faults.EncodeFault.{EncodeFault}
use Rattle.fast_spelling.specs.declared.draft.Draft.{Draft}
use Rattle.fast_spelling.specs.device.Drafts.{IsTold}
use Rattle.fast_spelling.specs.meaning.Encoding.{EncodesField, EncodesDecimal, Encodes, EncodesBody, EncodesSegment, EncodesElements}
use Rattle.fast_spelling.specs.device.Fields.{IsServed, Wrote}
use Rattle.fast_spelling.specs.meaning.Ledgers.{LedgerData}
use Rattle.fast_spelling.specs.device.Nodes.{instruction_in, head_in, IsReady}
use Rattle.fast_spelling.specs.meaning.Refusals.{RefusesField, RefusesDecimal, Refuses, RefusesBody, RefusesSegment, RefusesElements}
use Rattle.fast_spelling.specs.meaning.Suiting.{Suits, IsWithinLimits}

-- a node's instruction, by its shape
pub at_shape : (nodes : List Node) (n : ℕ) (v : Node) (s : Shape) → slice_get nodes n ≡ Some v
    → AreBetween n (length nodes) (numbers_of v.shape) → v.shape ≡ s → instruction_in nodes n ≡ instruction_among nodes (label_of n v) s
at_shape nodes n v s found between is =
    let whole : n - 0 ≡ n = omega arith in
    ap (λ (k : ℕ). slice_index_or (instructions_from 0 nodes) k no_instruction) (sym whole)
    ∙ node_instruction nodes n (length nodes) v found between ∙ ap (instruction_among nodes (label_of n v)) is

pub usable_at : (entries : ℕ) (v : Node) (s : Shape) → v.shape ≡ s → IsUsableShape entries (shape_data v.shape) → IsUsableShape entries (shape_data s)
usable_at entries v s is h = subst (λ (z : Shape). IsUsableShape entries (shape_data z)) is h

-- no field of a node has a longer initial value, if no field of the set has
pub short_at : (nodes : List Node) (n : ℕ) (v : Node) (s : Shape) (m : ℕ) → slice_get nodes n ≡ Some v → v.shape ≡ s
    → ¬ (HasLongInitial m nodes) → ¬ (AnyField (λ f. IsLongText m f.initial) (shape_data s))
short_at nodes n v s m found is none long = none (n, v, found, subst (λ (z : Shape). AnyField (λ f. IsLongText m f.initial) (shape_data z)) (sym is) long)

short_initial : (i : Option ScalarData) (m : ℕ) → ¬ (IsLongText m i) → IfSome i (λ v. length (text_of v) ≤ m)
short_initial None m h = tt
short_initial (Some v) m h = by (cases_lt m (length (text_of v)))
  where
    by : (m < length (text_of v)) ⊎ (length (text_of v) ≤ m) → length (text_of v) ≤ m
    by (inl g) = absurd (h g)
    by (inr g) = g

-- what a field of a ready set relies on
pub served : (t : Templates) (l : Limits) (s : LedgerData) (f : FieldData) → IsReady t l s → IsUsable (tree_of t).entries f
    → ((m : ℕ) → ¬ (HasLongInitial m (nodes_of t)) → ¬ (IsLongText m f.initial)) → IsServed s f
served t l s f ready usable short = record {
  usable = subst (λ (n : ℕ). IsUsable n f) (sym ready.entries) usable;
  initial = subst (λ (m : ℕ). IfSome f.initial (λ v. length (text_of v) ≤ m)) ready.room (short_initial f.initial l.max_text (short l.max_text ready.initial));
  small = subst (λ (m : ℕ). m ≤ 1048576) ready.room ready.small;
}

-- what is told of one refusal is told of another
pub told : {R : Type 0} {P Q : EncodeFault → Type 0} (r : Result R EncodeFault) → IfErr r (IsTold P) → ((c : EncodeFault) → P c → Q c) → IfErr r (IsTold Q)
told (Ok x) h f = tt
told (Err c) (inl e) f = inl e
told (Err c) (inr h) f = inr (f c h)

pub told_at : (P Q : EncodeFault → Type 0) (c : EncodeFault) → IsTold P c → (P c → Q c) → IsTold Q c
told_at P Q c (inl e) f = inl e
told_at P Q c (inr h) f = inr (f h)

-- absence, by the field at the head of an instruction
pub absent_optional : (i : Instruction) (f : FieldData) → Some f ≡ head_in i → Suits i None → f.optional ≡ true
absent_optional (field at g) f e h = let k : f ≡ g = cc in ap (λ (z : FieldData). z.optional) k ∙ h
absent_optional (parts at g m) f e h = let k : f ≡ g = cc in ap (λ (z : FieldData). z.optional) k ∙ h
absent_optional (group at optional body) f e h = absurd (cc e)
absent_optional (sequence at g body) f e h = let k : f ≡ g = cc in ap (λ (z : FieldData). z.optional) k ∙ h

pub absent_encodes : (l : Limits) (i : Instruction) (f : FieldData) (d : Dictionary) (b : List Bool) (w : List ℕ) (d' : Dictionary)
    → Some f ≡ head_in i → EncodesField l f d None b w d' → Encodes l i d None b w d'
unfolding Encodes
absent_encodes l (field at g) f d b w d' e h = let k : f ≡ g = cc in subst (λ (z : FieldData). EncodesField l z d None b w d') k h
absent_encodes l (parts at g m) f d b w d' e h = let k : f ≡ g = cc in subst (λ (z : FieldData). EncodesField l z d None b w d') k h
absent_encodes l (group at optional body) f d b w d' e h = absurd (cc e)
absent_encodes l (sequence at g body) f d b w d' e h = let k : f ≡ g = cc in subst (λ (z : FieldData). EncodesField l z d None b w d') k h

pub absent_refuses : (l : Limits) (i : Instruction) (f : FieldData) (d : Dictionary) (c : EncodeFault) → Some f ≡ head_in i
    → RefusesField f d None c → Refuses l i d None c
unfolding Refuses
absent_refuses l (field at g) f d c e h = let k : f ≡ g = cc in subst (λ (z : FieldData). RefusesField z d None c) k h
absent_refuses l (parts at g m) f d c e h = let k : f ≡ g = cc in subst (λ (z : FieldData). RefusesField z d None c) k h
absent_refuses l (group at optional body) f d c e h = absurd (cc e)
absent_refuses l (sequence at g body) f d c e h = let k : f ≡ g = cc in subst (λ (z : FieldData). RefusesField z d None c) k h

pub absent_group : (l : Limits) (i : Instruction) (d : Dictionary) → None ≡ head_in i → Suits i None → Encodes l i d None (false ∷ []) [] d
unfolding Encodes
absent_group l (field at g) d e h = absurd (cc e)
absent_group l (parts at g m) d e h = absurd (cc e)
absent_group l (group at optional body) d e h = (h, refl, refl, refl)
absent_group l (sequence at g body) d e h = absurd (cc e)

-- two writes, one after the other
pub wrote_twice : (e m : FieldData) (l : Limits) (x y : ℤ) (a b c : Draft) (d mid d' : Dictionary)
    → Wrote (EncodesField l e d (Some (I x))) a b mid → Wrote (EncodesField l m mid (Some (I y))) b c d'
    → Wrote (EncodesDecimal l e m d (Some (one (Dec x y)))) a c d'
wrote_twice e m l x y a b c d mid d' (b1, u, p, q, h) (b2, v, r, s, i) = (
  b1 ++ b2,
  u ++ v,
  r ∙ ap (λ (z : List Bool). z ++ b2) p ∙ append_assoc a.bits b1 b2,
  s ∙ ap (λ (z : List ℕ). z ++ v) q ∙ append_assoc a.bytes.items u v,
  (b1, b2, u, v, mid, h, i, refl, refl),
)

-- what suits an instruction, by another name of both
pub suits_as : (i j : Instruction) (x y : Option ItemData) → i ≡ j → x ≡ y → Suits i x → Suits j y
suits_as i j x y e f h = subst (λ (z : Option ItemData). Suits j z) f (subst (λ (z : Instruction). Suits z x) e h)

-- The same of what is written, and of what is refused.
pub encodes_as : (l : Limits) (i j : Instruction) (x y : Option ItemData) (d : Dictionary) (a b : Draft) (d' : Dictionary) → i ≡ j → x ≡ y
    → Wrote (Encodes l j d y) a b d' → Wrote (Encodes l i d x) a b d'
encodes_as l i j x y d a b d' e f h = subst (λ (z : Option ItemData). Wrote (Encodes l i d z) a b d') (sym f)
    (subst (λ (z : Instruction). Wrote (Encodes l z d y) a b d') (sym e) h)

pub refuses_as : (l : Limits) (i j : Instruction) (x y : Option ItemData) (d : Dictionary) (c : EncodeFault) → i ≡ j → x ≡ y
    → Refuses l j d y c → Refuses l i d x c
refuses_as l i j x y d c e f h = subst (λ (z : Option ItemData). Refuses l i d z c) (sym f) (subst (λ (z : Instruction). Refuses l z d y c) (sym e) h)

pub field_encodes : (l : Limits) (at : Label) (f : FieldData) (v : ScalarData) (d : Dictionary) (a b : Draft) (d' : Dictionary)
    → Wrote (EncodesField l f d (Some v)) a b d' → Wrote (Encodes l (field at f) d (Some (one v))) a b d'
unfolding Encodes
field_encodes l at f v d a b d' h = h

pub field_refuses : (l : Limits) (at : Label) (f : FieldData) (v : ScalarData) (d : Dictionary) (c : EncodeFault)
    → RefusesField f d (Some v) c → Refuses l (field at f) d (Some (one v)) c
unfolding Refuses
field_refuses l at f v d c h = h

pub decimal_encodes : (l : Limits) (at : Label) (e m : FieldData) (v : ScalarData) (d : Dictionary) (a b : Draft) (d' : Dictionary)
    → Wrote (EncodesDecimal l e m d (Some (one v))) a b d' → Wrote (Encodes l (parts at e m) d (Some (one v))) a b d'
unfolding Encodes
decimal_encodes l at e m v d a b d' h = h

pub decimal_refuses : (l : Limits) (at : Label) (e m : FieldData) (v : ScalarData) (d : Dictionary) (c : EncodeFault)
    → RefusesDecimal l e m d (Some (one v)) c → Refuses l (parts at e m) d (Some (one v)) c
unfolding Refuses
decimal_refuses l at e m v d c h = h

-- a group: its bit, and its segment
pub group_encodes : (l : Limits) (at : Label) (optional : Bool) (body : Body) (vs : Slots) (d : Dictionary) (a p c : Draft) (w : List ℕ)
    (d' : Dictionary) → p.bits ≡ a.bits ++ (if optional then true ∷ [] else []) → p.bytes.items ≡ a.bytes.items
    → c.bits ≡ p.bits → c.bytes.items ≡ p.bytes.items ++ w → EncodesSegment body (EncodesBody l body) d vs w d'
    → Wrote (Encodes l (group at optional body) d (Some (group_item vs))) a c d'
unfolding Encodes
group_encodes l at optional body vs d a p c w d' b u e f h = (if optional then true ∷ [] else [], w, e ∙ b, f ∙ ap (λ (z : List ℕ). z ++ w) u, (refl, h))

pub group_refuses : (l : Limits) (at : Label) (optional : Bool) (body : Body) (vs : Slots) (d : Dictionary) (c : EncodeFault)
    → RefusesSegment body (EncodesBody l body) (RefusesBody l body) d vs c → Refuses l (group at optional body) d (Some (group_item vs)) c
unfolding Refuses
group_refuses l at optional body vs d c h = h

-- a sequence: its length, and its elements
pub sequence_encodes : (l : Limits) (at : Label) (f : FieldData) (body : Body) (rows : Elements) (d mid : Dictionary) (a b c : Draft)
    (w : List ℕ) (d' : Dictionary) → Wrote (EncodesField l f d (Some (U (count rows)))) a b mid
    → c.bits ≡ b.bits → c.bytes.items ≡ b.bytes.items ++ w
    → EncodesElements (EncodesSegment body (EncodesBody l body)) mid rows w d'
    → Wrote (Encodes l (sequence at f body) d (Some (sequence_item rows))) a c d'
unfolding Encodes
sequence_encodes l at f body rows d mid a b c w d' (bits, u, p, q, h) e g k =
    (bits, u ++ w, e ∙ p, g ∙ ap (λ (z : List ℕ). z ++ w) q ∙ append_assoc a.bytes.items u w, (u, w, mid, h, k, refl))

pub length_refuses : (l : Limits) (at : Label) (f : FieldData) (body : Body) (rows : Elements) (d : Dictionary) (c : EncodeFault)
    → RefusesField f d (Some (U (count rows))) c → Refuses l (sequence at f body) d (Some (sequence_item rows)) c
unfolding Refuses
length_refuses l at f body rows d c h = inl h

pub elements_refuse : (l : Limits) (at : Label) (f : FieldData) (body : Body) (rows : Elements) (d mid : Dictionary) (a b : Draft)
    (c : EncodeFault) → Wrote (EncodesField l f d (Some (U (count rows)))) a b mid
    → RefusesElements (EncodesSegment body (EncodesBody l body)) (RefusesSegment body (EncodesBody l body) (RefusesBody l body)) mid rows c
    → Refuses l (sequence at f body) d (Some (sequence_item rows)) c
unfolding Refuses
elements_refuse l at f body rows d mid a b c (bits, u, p, q, h) r = inr (bits, u, mid, h, r)

-- the limits of an item that is there
abbrev pub IsWithinOption : Limits → Option ItemData → Type 0
IsWithinOption l None = Unit {0}
IsWithinOption l (Some x) = IsWithinLimits l x
