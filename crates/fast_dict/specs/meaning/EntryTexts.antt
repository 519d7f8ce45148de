-- The strings that the dictionary of a set has to hold.
use Rattle.std.specs.Prelude.{◌≡◌, ◌⊎◌, ℕ, ◌<◌, List, length, slice_get, Option, Some, None}
use Rattle.fast_value.specs.meaning.Kinds.{ScalarData, family, texts, text_of}
use Rattle.fast_tree.specs.declared.instructions.Node.{Node}
use Rattle.fast_tree.specs.meaning.Tree.{FieldData}
use Rattle.fast_tree.specs.meaning.NodeData.{ShapeData, a_field, a_decimal, a_group, a_sequence, shape_data}
use Rattle.fast_dict.specs.meaning.Stores.{IsText}

-- the property holds for one of the fields of a shape
abbrev pub AnyField : (FieldData → Type 0) → ShapeData → Type 0
AnyField P (a_field f) = P f
AnyField P (a_decimal e m) = P e ⊎ P m
AnyField P (a_group optional body) = ⊥
AnyField P (a_sequence length body) = P length

-- the property holds for one of the fields of these nodes
abbrev pub SomeField : (FieldData → Type 0) → List Node → Type 0
SomeField P ns = (n : ℕ) × (v : Node) × (slice_get ns n ≡ Some v) × AnyField P (shape_data v.shape)

-- The initial value is a string that is longer.
abbrev pub IsLongText : ℕ → Option ScalarData → Type 0
IsLongText max_text None = ⊥
IsLongText max_text (Some v) = max_text < length (text_of v)

-- some field of these nodes has such an initial value
abbrev pub HasLongInitial : ℕ → List Node → Type 0
HasLongInitial max_text ns = SomeField (λ f. IsLongText max_text f.initial) ns

-- The initial value is a string.
abbrev pub IsInitialText : Option ScalarData → Type 0
IsInitialText None = ⊥
IsInitialText (Some v) = IsText v

-- The field may store a string at its entry: it has a string type, or its initial value is a string.
abbrev pub MayHoldText : FieldData → Type 0
MayHoldText f = (family f.kind ≡ texts) ⊎ IsInitialText f.initial

-- the field may store a string at this entry
abbrev pub HoldsTextAt : ℕ → FieldData → Type 0
HoldsTextAt e f = (f.entry ≡ Some e) × MayHoldText f

-- some field of these nodes may store a string at this entry
abbrev pub NeedsText : List Node → ℕ → Type 0
NeedsText ns e = SomeField (HoldsTextAt e) ns
