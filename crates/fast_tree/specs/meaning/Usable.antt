-- The properties of the fields of a template on which its users may rely.
use Rattle.std.specs.Prelude.{◌≡◌, ℕ, ◌<◌, is_some, Some}
use Rattle.fast_value.specs.declared.kinds.Kind.TheVariants.{UInt32, Int32, Int64}
use Rattle.fast_value.specs.meaning.Kinds.{texts, family}
use Rattle.fast_tree.specs.declared.operators.Operator.TheVariants.{Tail}
use Rattle.fast_tree.specs.meaning.Tree.{FieldData}
use Rattle.fast_tree.specs.meaning.NodeData.{ShapeData, a_field, a_decimal, a_group, a_sequence}
use Rattle.fast_tree.specs.meaning.Entries.{keeps_value}

-- An operator that keeps a value has one of the entries, and no other has one; only strings have tails.
pub record IsUsable (entries : ℕ) (f : FieldData) : Type 0 where
  pub kept : keeps_value f.operator ≡ is_some f.entry
  pub within : (e : ℕ) → f.entry ≡ Some e → e < entries
  pub tail : f.operator ≡ Tail → family f.kind ≡ texts

-- All fields of the shape are usable, and the parts of decimals and the lengths of sequences are integers.
abbrev pub IsUsableShape : ℕ → ShapeData → Type 0
IsUsableShape entries (a_field f) = IsUsable entries f
IsUsableShape entries (a_decimal e m) = IsUsable entries e × IsUsable entries m × (e.kind ≡ Int32) × (m.kind ≡ Int64)
IsUsableShape entries (a_group optional body) = Unit {0}
IsUsableShape entries (a_sequence length body) = IsUsable entries length × (length.kind ≡ UInt32)
