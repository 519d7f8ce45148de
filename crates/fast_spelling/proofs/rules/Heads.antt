-- What is known of a set's node, and what its step says of its absence.
use Rattle.std.proofs.Common.{◌≡◌, ◌<◌, ◌⊎◌, inl, inr, ℕ, [], ◌∷◌, refl, ap, sym, subst, ◌∙◌, length, List}
use Rattle.std.specs.Prelude.{Bool, true, false, Option, Some, None, option_map, slice_get, unwrap_or}
use Rattle.fast_value.specs.declared.kinds.Kind.{Kind}
use Rattle.fast_value.specs.declared.settings.Limits.{Limits}
use Rattle.fast_value.specs.declared.values.Value.{Value}
use Rattle.fast_value.specs.meaning.Kinds.{ScalarData}
use Rattle.fast_value.specs.meaning.Values.{value_data}
use Rattle.fast_tree.specs.declared.operators.Operator.{Operator}
use Rattle.fast_tree.specs.declared.operators.Operator.TheVariants.{None as no_operator, Constant, Default, Copy, Increment, Delta, Tail}
use Rattle.fast_tree.specs.declared.instructions.FieldInstruction.{FieldInstruction}
use Rattle.fast_tree.specs.declared.instructions.Node.{Node}
use Rattle.fast_tree.specs.declared.instructions.Shape.{Shape}
use Rattle.fast_tree.specs.declared.instructions.Shape.TheVariants.{Field, Decimal, Group, Sequence}
use Rattle.fast_tree.specs.meaning.Entries.{keeps_value}
use Rattle.fast_tree.specs.meaning.Nodes.{field_data, label_of}
use Rattle.fast_tree.specs.meaning.Tree.{Label, field}
use Rattle.fast_tree.specs.meaning.NodeData.{shape_data}
use Rattle.fast_tree.specs.meaning.Numbers.{numbers_of, AreBetween}
use Rattle.fast_tree.specs.meaning.Usable.{IsUsable, IsUsableShape}
use Rattle.fast_template.specs.declared.sets.Templates.{Templates}
use Rattle.fast_template.specs.meaning.Flat.{nodes_of, tree_of}
use Rattle.fast_template.proofs.UsableFields.{usable_shape}
use Rattle.fast_dict.specs.meaning.EntryTexts.{HasLongInitial, IsLongText}
use Rattle.fast_dict.specs.meaning.Dictionary.{Dictionary, empty, assigned, previous_at, write_at}
use Rattle.fast_spelling.specs.declared.forms.Absence.{Absence}
use Rattle.fast_spelling.specs.declared.forms.Absence.TheVariants.{Refused, Null, Clear, ByEntry}
use Rattle.fast_spelling.specs.device.Forms.{IsFieldOf, IsFieldAt, absence_by, head_of, step_of, IsIn}
use Rattle.fast_spelling.specs.device.Nodes.{instruction_in, head_in}
use Rattle.fast_spelling.specs.device.Usual.{IsFromEntry}
use Rattle.fast_spelling.specs.meaning.Encoding.{Encodes}
use Rattle.fast_spelling.specs.meaning.Suiting.{Suits}
use Rattle.fast_spelling.proofs.encodings.Instructions.{at_shape, usable_at, short_at, absent_encodes, absent_group}
use Rattle.fast_spelling.proofs.limits.Suited.{suits_at}
use Rattle.fast_spelling.proofs.rules.Absences.{SendsNull, null_written, clear_written, empty_written, kept_written}
use Rattle.fast_spelling.specs.declared.forms.Step.{Step}
use Rattle.fast_spelling.specs.declared.forms.BodyStep.{BodyStep}
use Rattle.fast_spelling.specs.declared.plan.Plan.{Plan}
use Rattle.fast_spelling.specs.device.Places.{field_of, is_field, field_in, has_field}
use Rattle.fast_spelling.proofs.rules.FormsTold.{entry_there, step_here}

some_is : {A : Type 0} (x y : A) → Some x ≡ Some y → x ≡ y
some_is x y e = cc

-- The node with this number is that field, of this type under this operator.
pub record IsThatField (t : Templates) (n : ℕ) (kind : Kind) (operator : Operator) (f : FieldInstruction) : Type 0 where
  pub of_kind : f.kind ≡ kind
  pub under : f.operator ≡ operator
  pub shape : (x : Node) → slice_get (nodes_of t) n ≡ Some x → x.shape ≡ Field f
  pub instruction : (at : Label) × (instruction_in (nodes_of t) n ≡ field at (field_data f))
  pub usable : IsUsable (tree_of t).entries (field_data f)
  pub initial : (m : ℕ) → ¬ (HasLongInitial m (nodes_of t)) → ¬ (IsLongText m (field_data f).initial)

that_field : (t : Templates) (n : ℕ) (k : Kind) (o : Operator) (x : Node) (s : Shape) → x.shape ≡ s → IsFieldOf k o s
    → slice_get (nodes_of t) n ≡ Some x → AreBetween n (length (nodes_of t)) (numbers_of x.shape)
    → IsUsableShape (tree_of t).entries (shape_data x.shape) → (f : FieldInstruction) × IsThatField t n k o f
that_field t n k o x (Field f) is of found between usable = (
  f,
  record {
    of_kind = of.0;
    under = of.1;
    shape = λ y there. ap (λ (z : Node). z.shape) (some_is y x (sym there ∙ found)) ∙ is;
    instruction = (label_of n x, at_shape (nodes_of t) n x (Field f) found between is);
    usable = usable_at (tree_of t).entries x (Field f) is usable;
    initial = λ m none long. short_at (nodes_of t) n x (Field f) m found is none long;
  },
)
that_field t n k o x (Decimal e m) is of found between usable = absurd of
that_field t n k o x (Group optional body) is of found between usable = absurd of
that_field t n k o x (Sequence l body) is of found between usable = absurd of

-- a node of a field, as its form says
field_known : (t : Templates) (n : ℕ) (k : Kind) (o : Operator) (x : Node) → slice_get (nodes_of t) n ≡ Some x → IsFieldAt (nodes_of t) n k o
    → (f : FieldInstruction) × IsThatField t n k o f
field_known t n k o x found form = that_field t n k o x x.shape refl (form x found) found (t.nodes_name_later_nodes n x found)
    (usable_shape t.entries (shape_data x.shape) (t.nodes_usable n x found))

-- The node of a plan's step is that field.
pub record IsFieldStep (plan : Plan) (n : ℕ) (k : Kind) (o : Operator) (c : Step) : Type 0 where
  pub field : FieldInstruction
  pub known : IsThatField plan.templates.now n k o field
  pub there : field_in (slice_get (nodes_of plan.templates.now) n) ≡ field
  pub has : has_field (slice_get (nodes_of plan.templates.now) n) ≡ true
  pub step : step_of (Field field) ≡ c

pub field_step : (plan : Plan) (s : BodyStep) (k : Kind) (o : Operator) → IsIn (nodes_of plan.templates.now) s
    → IsFieldAt (nodes_of plan.templates.now) s.node k o → IsFieldStep plan s.node k o s.step
field_step plan s k o here form =
    let x = step_here (nodes_of plan.templates.now) s here in
    let f = field_known plan.templates.now s.node k o x.0 x.1 form in
    let is : x.0.shape ≡ Field f.0 = f.1.shape x.0 x.1 in
    record {
      field = f.0;
      known = f.1;
      there = ap field_in x.1 ∙ ap field_of is;
      has = ap has_field x.1 ∙ ap is_field is;
      step = ap step_of (sym is) ∙ x.2;
    }

-- The node with this number has this shape; its head may be absent where the whole may be.
pub record IsThatNode (t : Templates) (n : ℕ) (s : Shape) : Type 0 where
  pub head : head_in (instruction_in (nodes_of t) n) ≡ option_map field_data (head_of s)
  pub usable : (f : FieldInstruction) → head_of s ≡ Some f → IsUsable (tree_of t).entries (field_data f)
  pub suits : (step_of s).nullable ≡ true → Suits (instruction_in (nodes_of t) n) None

that_node : (t : Templates) (n : ℕ) (x : Node) (s : Shape) → x.shape ≡ s → slice_get (nodes_of t) n ≡ Some x
    → AreBetween n (length (nodes_of t)) (numbers_of x.shape) → IsUsableShape (tree_of t).entries (shape_data x.shape) → IsThatNode t n s
that_node t n x (Field f) is found between usable = record {
  head = ap head_in (at_shape (nodes_of t) n x (Field f) found between is);
  usable = λ g e. subst (λ (z : FieldInstruction). IsUsable (tree_of t).entries (field_data z)) (some_is f g e)
      (usable_at (tree_of t).entries x (Field f) is usable);
  suits = (suits_at (nodes_of t) n x (Field f) found between is f.optional None None refl (λ h. h, λ h. h)).0;
}
that_node t n x (Decimal e m) is found between usable = record {
  head = ap head_in (at_shape (nodes_of t) n x (Decimal e m) found between is);
  usable = λ g same. subst (λ (z : FieldInstruction). IsUsable (tree_of t).entries (field_data z)) (some_is e g same)
      (usable_at (tree_of t).entries x (Decimal e m) is usable).0;
  suits = (suits_at (nodes_of t) n x (Decimal e m) found between is e.optional None None refl (λ h. h, λ h. h)).0;
}
that_node t n x (Sequence size body) is found between usable = record {
  head = ap head_in (at_shape (nodes_of t) n x (Sequence size body) found between is);
  usable = λ g e. subst (λ (z : FieldInstruction). IsUsable (tree_of t).entries (field_data z)) (some_is size g e)
      (usable_at (tree_of t).entries x (Sequence size body) is usable).0;
  suits = (suits_at (nodes_of t) n x (Sequence size body) found between is size.optional None None refl (λ h. h, λ h. h)).0;
}
that_node t n x (Group optional body) is found between usable = record {
  head = ap head_in (at_shape (nodes_of t) n x (Group optional body) found between is);
  usable = λ g e. absurd (cc e);
  suits = (suits_at (nodes_of t) n x (Group optional body) found between is optional None None refl (λ h. h, λ h. h)).0;
}

pub node_known : (t : Templates) (n : ℕ) (x : Node) → slice_get (nodes_of t) n ≡ Some x → IsThatNode t n x.shape
node_known t n x found = that_node t n x x.shape refl found (t.nodes_name_later_nodes n x found)
    (usable_shape t.entries (shape_data x.shape) (t.nodes_usable n x found))

-- the node of a plan's step
pub node_step : (plan : Plan) (c : BodyStep) → IsIn (nodes_of plan.templates.now) c
    → (s : Shape) × IsThatNode plan.templates.now c.node s × (step_of s ≡ c.step)
node_step plan c here =
    let x = step_here (nodes_of plan.templates.now) c here in
    (x.0.shape, node_known plan.templates.now c.node x.0 x.1, x.2)

-- the node of a step for whose absence the entry decides
pub entry_step : (nodes : List Node) (s : BodyStep) → IsIn nodes s → s.step.absence ≡ ByEntry
    → (x : Node) × (slice_get nodes s.node ≡ Some x) × ((step_of x.shape).absence ≡ ByEntry) × ((step_of x.shape).entry ≡ s.step.entry)
entry_step nodes s here by_entry =
    let x = step_here nodes s here in
    (x.0, x.1, ap (λ (c : Step). c.absence) x.2 ∙ by_entry, ap (λ (c : Step). c.entry) x.2)

-- what may be absent, and how
nullable_by : (b : Bool) (o : Operator) (i : Option Value) → ¬ (absence_by b o i ≡ Refused) → b ≡ true
nullable_by true o i h = refl
nullable_by false o i h = absurd (h refl)

nullable_told : (s : Shape) → ¬ ((step_of s).absence ≡ Refused) → (step_of s).nullable ≡ true
nullable_told (Field f) h = nullable_by f.optional f.operator f.initial h
nullable_told (Decimal e m) h = nullable_by e.optional e.operator e.initial h
nullable_told (Sequence size body) h = nullable_by size.optional size.operator size.initial h
nullable_told (Group true body) h = refl
nullable_told (Group false body) h = absurd (h refl)

-- an absence that is not refused suits
pub absence_suits : (t : Templates) (n : ℕ) (s : Shape) (a : Absence) → IsThatNode t n s → (step_of s).absence ≡ a → ¬ (a ≡ Refused)
    → Suits (instruction_in (nodes_of t) n) None
absence_suits t n s a that is not = that.suits (nullable_told s (λ e. not (sym is ∙ e)))

null_by : (b : Bool) (o : Operator) (i : Option Value) → absence_by b o i ≡ Null → (b ≡ true) × SendsNull o
null_by true no_operator i e = (refl, inl refl)
null_by true Delta i e = (refl, inr refl)
null_by true Copy i e = absurd (cc e)
null_by true Increment i e = absurd (cc e)
null_by true Tail i e = absurd (cc e)
null_by true Constant i e = absurd (cc e)
null_by true Default None e = absurd (cc e)
null_by true Default (Some v) e = absurd (cc e)
null_by false o i e = absurd (cc e)

clear_by : (b : Bool) (o : Operator) (i : Option Value) → absence_by b o i ≡ Clear → (b ≡ true) × (o ≡ Default) × (i ≡ None)
clear_by true Default None e = (refl, refl, refl)
clear_by true Default (Some v) e = absurd (cc e)
clear_by true no_operator i e = absurd (cc e)
clear_by true Delta i e = absurd (cc e)
clear_by true Copy i e = absurd (cc e)
clear_by true Increment i e = absurd (cc e)
clear_by true Tail i e = absurd (cc e)
clear_by true Constant i e = absurd (cc e)
clear_by false o i e = absurd (cc e)

entry_by : (b : Bool) (o : Operator) (i : Option Value) → absence_by b o i ≡ ByEntry → (b ≡ true) × IsFromEntry o
entry_by true Copy i e = (refl, tt)
entry_by true Increment i e = (refl, tt)
entry_by true Tail i e = (refl, tt)
entry_by true no_operator i e = absurd (cc e)
entry_by true Delta i e = absurd (cc e)
entry_by true Constant i e = absurd (cc e)
entry_by true Default None e = absurd (cc e)
entry_by true Default (Some v) e = absurd (cc e)
entry_by false o i e = absurd (cc e)

-- The head of a node, whose absence is this.
record HasHead (s : Shape) (a : Absence) : Type 0 where
  head : FieldInstruction
  is : head_of s ≡ Some head
  by : absence_by head.optional head.operator head.initial ≡ a
  entry : (step_of s).entry ≡ unwrap_or head.entry 0

-- a group has none, and a bit alone
has_head : (s : Shape) (a : Absence) → (step_of s).absence ≡ a → ¬ (a ≡ Refused) → HasHead s a ⊎ ((head_of s ≡ None) × (a ≡ Clear))
has_head (Field f) a e not = inl (record { head = f; is = refl; by = e; entry = refl })
has_head (Decimal f m) a e not = inl (record { head = f; is = refl; by = e; entry = refl })
has_head (Sequence f body) a e not = inl (record { head = f; is = refl; by = e; entry = refl })
has_head (Group true body) a e not = inr (refl, sym e)
has_head (Group false body) a e not = absurd (not (sym e))

head_here : (t : Templates) (n : ℕ) (s : Shape) (f : FieldInstruction) → IsThatNode t n s → head_of s ≡ Some f
    → Some (field_data f) ≡ head_in (instruction_in (nodes_of t) n)
head_here t n s f that is = sym (that.head ∙ ap (option_map field_data) is)

pub null_not : ¬ (◌≡◌ {A = Absence} Null Refused)
null_not e = absurd (cc e)

pub clear_not : ¬ (◌≡◌ {A = Absence} Clear Refused)
clear_not e = absurd (cc e)

pub entry_not : ¬ (◌≡◌ {A = Absence} ByEntry Refused)
entry_not e = absurd (cc e)

pub absent_null : (t : Templates) (l : Limits) (n : ℕ) (s : Shape) (d : Dictionary) → IsThatNode t n s → (step_of s).absence ≡ Null
    → Encodes l (instruction_in (nodes_of t) n) d None [] (0x80 ∷ []) d
absent_null t l n s d that e = on (has_head s Null e null_not)
  where
    on : HasHead s Null ⊎ ((head_of s ≡ None) × (Null ≡ Clear)) → Encodes l (instruction_in (nodes_of t) n) d None [] (0x80 ∷ []) d
    on (inl h) =
        let by = null_by h.head.optional h.head.operator h.head.initial h.by in
        absent_encodes l (instruction_in (nodes_of t) n) (field_data h.head) d [] (0x80 ∷ []) d (head_here t n s h.head that h.is)
        (null_written l (field_data h.head) d by.0 by.1)
    on (inr (none, same)) = absurd (cc same)

pub absent_clear : (t : Templates) (l : Limits) (n : ℕ) (s : Shape) (d : Dictionary) → IsThatNode t n s → (step_of s).absence ≡ Clear
    → Encodes l (instruction_in (nodes_of t) n) d None (false ∷ []) [] d
absent_clear t l n s d that e = on (has_head s Clear e clear_not)
  where
    on : HasHead s Clear ⊎ ((head_of s ≡ None) × (Clear ≡ Clear)) → Encodes l (instruction_in (nodes_of t) n) d None (false ∷ []) [] d
    on (inl h) =
        let by = clear_by h.head.optional h.head.operator h.head.initial h.by in
        absent_encodes l (instruction_in (nodes_of t) n) (field_data h.head) d (false ∷ []) [] d (head_here t n s h.head that h.is)
        (clear_written l (field_data h.head) d by.1 by.0 (ap (option_map value_data) by.2))
    on (inr (none, same)) = absent_group l (instruction_in (nodes_of t) n) d (sym (that.head ∙ ap (option_map field_data) none))
        (absence_suits t n s Clear that e clear_not)

-- where the entry decides, it is one of the set's
head_by_entry : (s : Shape) → (step_of s).absence ≡ ByEntry → HasHead s ByEntry
head_by_entry s e = on (has_head s ByEntry e entry_not)
  where
    on : HasHead s ByEntry ⊎ ((head_of s ≡ None) × (ByEntry ≡ Clear)) → HasHead s ByEntry
    on (inl h) = h
    on (inr (none, same)) = absurd (cc same)

from_entry_keeps : (o : Operator) → IsFromEntry o → keeps_value o ≡ true
from_entry_keeps Copy h = refl
from_entry_keeps Increment h = refl
from_entry_keeps Tail h = refl
from_entry_keeps o h = absurd h

-- the head under these operators, and its entry
record HasEntry (t : Templates) (s : Shape) : Type 0 where
  of : HasHead s ByEntry
  optional : of.head.optional ≡ true
  from : IsFromEntry of.head.operator
  usable : IsUsable (tree_of t).entries (field_data of.head)
  entry : of.head.entry ≡ Some (step_of s).entry

has_entry : (t : Templates) (n : ℕ) (s : Shape) → IsThatNode t n s → (step_of s).absence ≡ ByEntry → HasEntry t s
has_entry t n s that e =
    let h = head_by_entry s e in
    let by = entry_by h.head.optional h.head.operator h.head.initial h.by in
    let usable = that.usable h.head h.is in
    record {
      of = h;
      optional = by.0;
      from = by.1;
      usable = usable;
      entry = entry_there h.head.entry (sym usable.kept ∙ from_entry_keeps h.head.operator by.1) ∙ ap Some (sym h.entry);
    }

pub entry_inside : (t : Templates) (n : ℕ) (s : Shape) → IsThatNode t n s → (step_of s).absence ≡ ByEntry → (step_of s).entry < (tree_of t).entries
entry_inside t n s that e =
    let h = has_entry t n s that e in
    h.usable.within (step_of s).entry h.entry

pub absent_empty : (t : Templates) (l : Limits) (n : ℕ) (s : Shape) (d : Dictionary) → IsThatNode t n s → (step_of s).absence ≡ ByEntry
    → previous_at (Some (step_of s).entry) d ≡ empty → Encodes l (instruction_in (nodes_of t) n) d None (false ∷ []) [] d
absent_empty t l n s d that e held =
    let h = has_entry t n s that e in
    absent_encodes l (instruction_in (nodes_of t) n) (field_data h.of.head) d (false ∷ []) [] d (head_here t n s h.of.head that h.of.is)
    (empty_written l (field_data h.of.head) d h.from h.usable.tail h.optional (ap (λ (z : Option ℕ). previous_at z d) h.entry ∙ held))

pub absent_kept : (t : Templates) (l : Limits) (n : ℕ) (s : Shape) (d : Dictionary) (k : Kind) (u : ScalarData) → IsThatNode t n s
    → (step_of s).absence ≡ ByEntry → previous_at (Some (step_of s).entry) d ≡ assigned k u
    → Encodes l (instruction_in (nodes_of t) n) d None (true ∷ []) (0x80 ∷ []) (write_at (Some (step_of s).entry) empty d)
absent_kept t l n s d k u that e held =
    let h = has_entry t n s that e in
    subst (λ (z : Option ℕ). Encodes l (instruction_in (nodes_of t) n) d None (true ∷ []) (0x80 ∷ []) (write_at z empty d)) h.entry
    (absent_encodes l (instruction_in (nodes_of t) n) (field_data h.of.head) d (true ∷ []) (0x80 ∷ []) (write_at h.of.head.entry empty d)
    (head_here t n s h.of.head that h.of.is)
    (kept_written l (field_data h.of.head) d k u h.from h.usable.tail h.optional (ap (λ (z : Option ℕ). previous_at z d) h.entry ∙ held)))
