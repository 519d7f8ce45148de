-- What suits a template and the limits hands over events that name its nodes.
use Rattle.std.proofs.Common.{◌≡◌, inl, inr, ℕ, ◌≤◌, List, [], ◌∷◌, ◌++◌, length, ap, sym, subst, ◌∙◌}
use Rattle.std.specs.Prelude.{All, flat_map, slice_get, Option, Some}
use Rattle.std.proofs.lemmas.List.Elements.{All-nil, All-cons, All-append}
use Rattle.fast_value.specs.declared.kinds.Kind.{Kind}
use Rattle.fast_value.specs.declared.kinds.Kind.TheVariants.{UInt32, Int32, UInt64, Int64, Decimal as decimal_kind, Ascii, Unicode, Bytes}
use Rattle.fast_value.specs.declared.settings.Limits.{Limits}
use Rattle.fast_value.specs.meaning.Kinds.{ScalarData, U, I, Dec, AsciiText, UnicodeText, ByteVector, text_of, IsOfKind}
use Rattle.fast_value.specs.meaning.Messages.{ItemData, one, group as group_item, sequence as sequence_item, Slots, no_slots, absent}
use Rattle.fast_value.specs.meaning.Messages.{present, Elements, no_elements, element, count, MessageData}
use Rattle.fast_tree.specs.declared.instructions.Node.{Node}
use Rattle.fast_tree.specs.declared.instructions.Shape.{Shape}
use Rattle.fast_tree.specs.declared.instructions.Shape.TheVariants.{Field, Decimal, Group, Sequence}
use Rattle.fast_tree.specs.meaning.NodeData.{a_field, a_decimal, a_group, a_sequence, shape_data}
use Rattle.fast_tree.specs.meaning.Tree.{FieldData, Instruction, field, parts, group, sequence, Body, end, step, TemplateData}
use Rattle.fast_template.specs.declared.sets.Templates.{Templates}
use Rattle.fast_template.specs.meaning.Flat.{nodes_of, templates_of, tree_of}
use Rattle.fast_stream.specs.meaning.Events.{EventData, MessageStart, FieldValue, GroupStart, GroupEnd, SequenceStart, ElementStart}
use Rattle.fast_stream.specs.meaning.Events.{ElementEnd, SequenceEnd, MessageEnd, element_events, item_events, body_events, template_events}
use Rattle.fast_stream.specs.meaning.Events.{events}
use Rattle.fast_stream.specs.meaning.Streams.{End}
use Rattle.fast_notation.proofs.nodes.BuildingNeeds.{all_left, all_first, all_but_first}
use Rattle.fast_spelling.specs.meaning.Suiting.{IsRight, AreRight, Suits, SuitsBody, IsWithinLimits, AreWithinLimits, RowsWithinLimits}
use Rattle.fast_laws.specs.meaning.Naming.{HoldsValue, IsGroup, IsSequence, IsNamed}
use Rattle.fast_laws.specs.meaning.Proper.{IsProper, AreFirstOf, AreOfMessages}
use Rattle.fast_laws.proofs.nodes.Nodes.{IsOfNodes, AreOfNodes, template_at}

-- a value that is right, within the limit on texts
kind_within : (l : Limits) (kind : Kind) (v : ScalarData) → IsRight kind v → length (text_of v) ≤ l.max_text → IsOfKind l kind v
kind_within l UInt32 (U n) h i = h.1
kind_within l UInt64 (U n) h i = h.1
kind_within l Int32 (I x) h i = h.1
kind_within l Int64 (I x) h i = h.1
kind_within l decimal_kind (Dec e m) h i = h.1
kind_within l Ascii (AsciiText v) h i = (i, h.1.1)
kind_within l Unicode (UnicodeText v) h i = (i, h.1.1)
kind_within l Bytes (ByteVector v) h i = i
kind_within l kind v h i = absurd h.1

-- shapes by what they hold
field_holds : (l : Limits) (s : Shape) (f : FieldData) (v : ScalarData) → shape_data s ≡ a_field f → IsOfKind l f.kind v → HoldsValue l s v
field_holds l (Field g) f v e h = subst (λ (k : Kind). IsOfKind l k v) (sym (kind_of _ _ e)) h
  where
    kind_of : (a b : FieldData) → a_field a ≡ a_field b → a.kind ≡ b.kind
    kind_of a b e = let same : a ≡ b = cc e in ap (λ (z : FieldData). z.kind) same
field_holds l (Decimal x m) f v e h = absurd (cc e)
field_holds l (Group optional body) f v e h = absurd (cc e)
field_holds l (Sequence size body) f v e h = absurd (cc e)

parts_hold : (l : Limits) (s : Shape) (x m : FieldData) (v : ScalarData) → shape_data s ≡ a_decimal x m → IsOfKind l decimal_kind v → HoldsValue l s v
parts_hold l (Decimal y n) x m v e h = h
parts_hold l (Field g) x m v e h = absurd (cc e)
parts_hold l (Group optional body) x m v e h = absurd (cc e)
parts_hold l (Sequence size body) x m v e h = absurd (cc e)

group_is : (s : Shape) (optional : _) (is : List ℕ) → shape_data s ≡ a_group optional is → IsGroup s
group_is (Group o body) optional is e = tt
group_is (Field g) optional is e = absurd (cc e)
group_is (Decimal y n) optional is e = absurd (cc e)
group_is (Sequence size body) optional is e = absurd (cc e)

sequence_is : (s : Shape) (f : FieldData) (is : List ℕ) → shape_data s ≡ a_sequence f is → IsSequence s
sequence_is (Sequence size body) f is e = tt
sequence_is (Field g) f is e = absurd (cc e)
sequence_is (Decimal y n) f is e = absurd (cc e)
sequence_is (Group o body) f is e = absurd (cc e)

module _ (t : Templates) (l : Limits) where
  abbrev ns : List Node
  ns = nodes_of t

  alone : (e : EventData) → IsNamed t l e → All (IsNamed t l) (e ∷ [])
  alone e h = All-cons (IsNamed t l) e [] h (All-nil (IsNamed t l))

  rows_named : (right : Slots → Type 0) (events : Slots → List EventData)
      → ((vs : Slots) → right vs → AreWithinLimits l vs → All (IsNamed t l) (events vs)) → (rows : Elements) → AreRight right rows
      → RowsWithinLimits l rows
      → All (IsNamed t l) (element_events events rows)
  rows_named right events f no_elements h i = All-nil (IsNamed t l)
  rows_named right events f (element vs rows) h i =
      All-cons (IsNamed t l) ElementStart (events vs ++ ElementEnd ∷ element_events events rows) tt
      (All-append (IsNamed t l) (events vs) (ElementEnd ∷ element_events events rows) (f vs h.0 i.0)
      (All-cons (IsNamed t l) ElementEnd (element_events events rows) tt (rows_named right events f rows h.1 i.1)))

  mutual
    unfolding item_events body_events

    item_named : (i : Instruction) (x : ItemData) → IsOfNodes ns i → Suits i (Some x) → IsWithinLimits l x → All (IsNamed t l) (item_events i x)
    item_named (field at f) (one v) (n, found, e) h i = alone (FieldValue at.node v) (n, found, field_holds l n.shape f v e (kind_within l f.kind v h i))
    item_named (field at f) (group_item vs) at_node h i = absurd h
    item_named (field at f) (sequence_item rows) at_node h i = absurd h
    item_named (parts at e m) (one (Dec x y)) (n, found, q) h i = alone (FieldValue at.node (Dec x y)) (n, found, parts_hold l n.shape e m (Dec x y) q h)
    item_named (parts at e m) x at_node h i = absurd h
    item_named (group at optional body) (group_item vs) ((n, found, (is, e)), inner) h i =
        All-cons (IsNamed t l) (GroupStart at.node) (body_events body vs ++ GroupEnd ∷ []) (n, found, group_is n.shape optional is e)
        (All-append (IsNamed t l) (body_events body vs) (GroupEnd ∷ []) (slots_named body vs inner h i) (alone GroupEnd tt))
    item_named (group at optional body) (one v) at_node h i = absurd h
    item_named (group at optional body) (sequence_item rows) at_node h i = absurd h
    item_named (sequence at f body) (sequence_item rows) ((n, found, (is, e)), inner) h i =
        All-cons (IsNamed t l) (SequenceStart at.node (count rows)) (element_events (body_events body) rows ++ SequenceEnd ∷ [])
        ((n, found, sequence_is n.shape f is e), i.0)
        (All-append (IsNamed t l) (element_events (body_events body) rows) (SequenceEnd ∷ [])
        (rows_named (SuitsBody body) (body_events body) (λ vs h i. slots_named body vs inner h i) rows h.0 i.1) (alone SequenceEnd tt))
    item_named (sequence at f body) (one v) at_node h i = absurd h
    item_named (sequence at f body) (group_item vs) at_node h i = absurd h

    slots_named : (body : Body) (vs : Slots) → AreOfNodes ns body → SuitsBody body vs → AreWithinLimits l vs → All (IsNamed t l) (body_events body vs)
    slots_named end vs inner h i = All-nil (IsNamed t l)
    slots_named (step k ks) no_slots inner h i = absurd h
    slots_named (step k ks) (absent vs) inner h i = slots_named ks vs inner.1 h.1 i
    slots_named (step k ks) (present x vs) inner h i = All-append (IsNamed t l) (item_events k x) (body_events ks vs)
        (item_named k x inner.0 h.0 i.0) (slots_named ks vs inner.1 h.1 i.1)

  same_template : (u v : TemplateData) (x : Option TemplateData) → x ≡ Some u → x ≡ Some v → u ≡ v
  same_template u v x e f = let k : Some u ≡ Some v = sym e ∙ f in cc k

  message_named : (m : MessageData) → IsProper (tree_of t) l m → All (IsNamed t l) (events (tree_of t) m)
  message_named m proper =
      let (u, id, at, own) = proper.known in
      let (u', at', suits) = proper.suits in
      let same = same_template u' u (slice_get (tree_of t).templates m.template) at' at in
      let (v, found, same_id, inner) = template_at ns t.nodes_name_later_nodes (templates_of t) t.templates_name_nodes m.template u at in
      subst (All (IsNamed t l)) (sym (ap (λ (z : Option TemplateData). template_events m.template z m.slots) at))
      (All-cons (IsNamed t l) (MessageStart m.template) (body_events u.body m.slots ++ MessageEnd ∷ []) (v, id, found, same_id ∙ own)
      (All-append (IsNamed t l) (body_events u.body m.slots) (MessageEnd ∷ [])
      (slots_named u.body m.slots inner (subst (λ (z : TemplateData). SuitsBody z.body m.slots) same suits) proper.fits.0)
      (alone MessageEnd tt)))

  messages_named : (ms : List MessageData) → All (IsProper (tree_of t) l) ms → All (IsNamed t l) (flat_map (events (tree_of t)) ms)
  messages_named [] h = All-nil (IsNamed t l)
  messages_named (m ∷ ms) h =
      All-append (IsNamed t l) (events (tree_of t) m) (flat_map (events (tree_of t)) ms)
      (message_named m (all_first (IsProper (tree_of t) l) m ms h)) (messages_named ms (all_but_first (IsProper (tree_of t) l) m ms h))

  first_named : (es : List EventData) → AreFirstOf (tree_of t) l es → All (IsNamed t l) es
  first_named es (inl e) = subst (All (IsNamed t l)) (sym e) (All-nil (IsNamed t l))
  first_named es (inr (m, rest, proper, e)) = all_left (IsNamed t l) es rest (subst (All (IsNamed t l)) e (message_named m proper))

  pub all_named : (es : List EventData) (e : End) → AreOfMessages (tree_of t) l es e → All (IsNamed t l) es
  all_named es e h =
      subst (All (IsNamed t l)) (sym h.all) (All-append (IsNamed t l) (flat_map (events (tree_of t)) h.messages) h.front
      (messages_named h.messages h.proper) (first_named h.front h.begun))
