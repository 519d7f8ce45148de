-- A dictionary that serves all fields of a set.
use Rattle.std.specs.Prelude.{◌≡◌, ℕ, List, slice_get, Some}
use Rattle.fast_value.specs.declared.kinds.Kind.TheVariants.{UInt32, Int32, Int64}
use Rattle.fast_tree.specs.declared.instructions.Node.{Node}
use Rattle.fast_tree.specs.meaning.NodeData.{ShapeData, a_field, a_decimal, a_group, a_sequence, shape_data}
use Rattle.fast_dict.specs.meaning.Stores.{Terms}
use Rattle.fast_units.specs.device.Settling.{Serves}

-- It serves the fields of the shape; the parts of decimals and the lengths of sequences are integers.
abbrev pub ServesShape : ℕ → Terms → ShapeData → Type 0
ServesShape entries terms (a_field f) = Serves entries terms f
ServesShape entries terms (a_decimal e m) = Serves entries terms e × Serves entries terms m × (e.kind ≡ Int32) × (m.kind ≡ Int64)
ServesShape entries terms (a_group optional body) = Unit {0}
ServesShape entries terms (a_sequence length body) = Serves entries terms length × (length.kind ≡ UInt32)

-- It serves the fields of all nodes.
abbrev pub ServesNodes : ℕ → Terms → List Node → Type 0
ServesNodes entries terms ns = (n : ℕ) (v : Node) → slice_get ns n ≡ Some v → ServesShape entries terms (shape_data v.shape)
