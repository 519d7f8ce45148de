-- The properties of the fields of a template on which its users may rely, as tests.
use Rattle.std.specs.Prelude.{◌≡◌, ℕ, Bool, true, false, ◌&&◌, not, nat_lt, List, slice_get, Option, Some, None}
use Rattle.fast_value.specs.declared.kinds.Kind.{Kind}
use Rattle.fast_value.specs.declared.kinds.Kind.TheVariants.{UInt32, Int32, Int64}
use Rattle.fast_value.specs.meaning.Kinds.{Family, integers, decimals, texts, family}
use Rattle.fast_tree.specs.declared.operators.Operator.{Operator}
use Rattle.fast_tree.specs.declared.operators.Operator.TheVariants.{Tail}
use Rattle.fast_tree.specs.declared.instructions.Node.{Node}
use Rattle.fast_tree.specs.meaning.Tree.{FieldData}
use Rattle.fast_tree.specs.meaning.NodeData.{ShapeData, a_field, a_decimal, a_group, a_sequence, shape_data}
use Rattle.fast_tree.specs.meaning.Entries.{keeps_value}

-- the family is that of strings
abbrev pub is_texts : Family → Bool
is_texts (integers range) = false
is_texts decimals = false
is_texts texts = true

-- Only strings have tails.
abbrev pub suits_tail : Operator → Kind → Bool
suits_tail Tail kind = is_texts (family kind)
suits_tail operator kind = true

-- An operator that keeps a value has one of the entries, and no other has one.
abbrev pub has_place : ℕ → Bool → Option ℕ → Bool
has_place entries keeps None = not keeps
has_place entries keeps (Some e) = keeps && nat_lt e entries

-- a usable field
abbrev pub is_usable : ℕ → FieldData → Bool
is_usable entries f = has_place entries (keeps_value f.operator) f.entry && suits_tail f.operator f.kind

-- the types of lengths, exponents and mantissas
abbrev pub is_uint32 : Kind → Bool
is_uint32 UInt32 = true
is_uint32 kind = false

abbrev pub is_int32 : Kind → Bool
is_int32 Int32 = true
is_int32 kind = false

abbrev pub is_int64 : Kind → Bool
is_int64 Int64 = true
is_int64 kind = false

-- All fields of the shape are usable, and the parts of decimals and the lengths of sequences are integers.
abbrev pub is_usable_shape : ℕ → ShapeData → Bool
is_usable_shape entries (a_field f) = is_usable entries f
is_usable_shape entries (a_decimal e m) = (is_usable entries e && is_int32 e.kind) && (is_usable entries m && is_int64 m.kind)
is_usable_shape entries (a_group optional body) = true
is_usable_shape entries (a_sequence length body) = is_usable entries length && is_uint32 length.kind

-- all nodes are usable
abbrev pub AreUsable : ℕ → List Node → Type 0
AreUsable entries ns = (n : ℕ) (v : Node) → slice_get ns n ≡ Some v → is_usable_shape entries (shape_data v.shape) ≡ true
