-- Events that lines can tell from others: their numbers have names in the set, and their values are held.
use Rattle.std.specs.Prelude.{◌≡◌, ℕ, ◌<◌, ◌^◌, All, slice_get, Some, IsUtf8}
use Rattle.fast_value.specs.meaning.Kinds.{ScalarData, ByteVector}
use Rattle.fast_tree.specs.meaning.AsWritten.{IsName}
use Rattle.fast_tree.specs.meaning.Tree.{TemplateData, Tree}
use Rattle.fast_notation.specs.meaning.Labels.{template_labels}
use Rattle.fast_stream.specs.meaning.Events.{EventData, MessageStart, FieldValue, GroupStart, SequenceStart}
use Rattle.fast_lines.specs.meaning.Lines.{node_name, written}
use Rattle.fast_lines.specs.meaning.Values.{IsHeld}

-- the node's number and name can stand in a line
abbrev pub IsNamed : Tree → ℕ → Type 0
IsNamed t n = (n < 2 ^ 32) × IsName (node_name t n)

-- The value is of its type. Vectors of bytes are told apart whatever their elements are.
abbrev pub IsTold : ScalarData → Type 0
IsTold (ByteVector v) = Unit {0}
IsTold v = IsHeld v

-- what the event names has a name, and its value and its count are of their types
abbrev pub IsLined : Tree → EventData → Type 0
IsLined t (MessageStart n) = (u : TemplateData) × (slice_get t.templates n ≡ Some u) × IsName u.name
IsLined t (FieldValue n v) = IsNamed t n × IsTold v
IsLined t (GroupStart n) = IsNamed t n
IsLined t (SequenceStart n count) = IsNamed t n × (count < 2 ^ 32)
IsLined t e = Unit {0}

-- No two templates have one name.
abbrev pub HasDistinctNames : Tree → Type 0
HasDistinctNames t = (j k : ℕ) (u w : TemplateData) → slice_get t.templates j ≡ Some u → slice_get t.templates k ≡ Some w → u.name ≡ w.name → j ≡ k

-- Each node has a name, and so has each template.
pub record HasNames (t : Tree) : Type 0 where
  pub nodes : All (λ l. IsNamed t l.node) (template_labels t.templates)
  pub templates : (n : ℕ) (u : TemplateData) → slice_get t.templates n ≡ Some u → IsName u.name

-- the value can be read back: the types of values hold it, and its text is UTF-8
abbrev pub IsShown : EventData → Type 0
IsShown (FieldValue n v) = IsHeld v × IsUtf8 (written v)
IsShown e = Unit {0}
