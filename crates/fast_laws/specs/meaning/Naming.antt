-- What an event of a stream says of the node or the template that it names.
use Rattle.std.specs.Prelude.{◌≡◌, ℕ, ◌≤◌, List, slice_get, Some}
use Rattle.fast_value.specs.declared.kinds.Kind.TheVariants.{Decimal as decimal_kind}
use Rattle.fast_value.specs.declared.settings.Limits.{Limits}
use Rattle.fast_value.specs.meaning.Kinds.{ScalarData, IsOfKind}
use Rattle.fast_tree.specs.declared.instructions.Node.{Node}
use Rattle.fast_tree.specs.declared.instructions.Shape.{Shape}
use Rattle.fast_tree.specs.declared.instructions.Shape.TheVariants.{Field, Decimal, Group, Sequence}
use Rattle.fast_tree.specs.declared.instructions.Template.{Template}
use Rattle.fast_template.specs.declared.sets.Templates.{Templates}
use Rattle.fast_template.specs.meaning.Flat.{nodes_of, templates_of}
use Rattle.fast_stream.specs.meaning.Events.{EventData, MessageStart, FieldValue, GroupStart, GroupEnd, SequenceStart, ElementStart}
use Rattle.fast_stream.specs.meaning.Events.{ElementEnd, SequenceEnd, MessageEnd}

-- A value of the field's kind within the limits: in its range, a text no longer than `max_text`, ASCII below 128, Unicode in UTF-8. Of a
-- decimal by parts the exponent is one of -63 to 63, and the mantissa has 64 bits.
abbrev pub HoldsValue : Limits → Shape → ScalarData → Type 0
HoldsValue l (Field f) v = IsOfKind l f.kind v
HoldsValue l (Decimal e m) v = IsOfKind l decimal_kind v
HoldsValue l (Group optional body) v = ⊥
HoldsValue l (Sequence length body) v = ⊥

-- the shape is a group
abbrev pub IsGroup : Shape → Type 0
IsGroup (Group optional body) = Unit {0}
IsGroup other = ⊥

-- the shape is a sequence
abbrev pub IsSequence : Shape → Type 0
IsSequence (Sequence length body) = Unit {0}
IsSequence other = ⊥

-- a node has the number, and its shape is so
abbrev pub IsNode : List Node → ℕ → (Shape → Type 0) → Type 0
IsNode ns n P = (v : Node) × (slice_get ns n ≡ Some v) × P v.shape

-- A message's start names a template that can be sent. A value names a field or a decimal by parts, and is one of its kind; starts of groups and
-- sequences name such nodes, and a sequence has no more elements than one may have.
abbrev pub IsNamed : Templates → Limits → EventData → Type 0
IsNamed t l (MessageStart n) = (u : Template) × (id : ℕ) × (slice_get (templates_of t) n ≡ Some u) × (u.id ≡ Some id)
IsNamed t l (FieldValue n v) = IsNode (nodes_of t) n (λ s. HoldsValue l s v)
IsNamed t l (GroupStart n) = IsNode (nodes_of t) n IsGroup
IsNamed t l (SequenceStart n count) = IsNode (nodes_of t) n IsSequence × (count ≤ l.max_elements)
IsNamed t l GroupEnd = Unit {0}
IsNamed t l ElementStart = Unit {0}
IsNamed t l ElementEnd = Unit {0}
IsNamed t l SequenceEnd = Unit {0}
IsNamed t l MessageEnd = Unit {0}
