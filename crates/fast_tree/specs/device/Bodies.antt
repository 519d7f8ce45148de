-- The bodies of nodes among all nodes of a set, and the widths of their segments.
use Rattle.std.specs.Prelude.{◌≡◌, ℕ, List, length, slice_get, slice_index, Some}
use Rattle.fast_tree.specs.declared.instructions.Node.{Node}
use Rattle.fast_tree.specs.declared.instructions.Template.{Template}
use Rattle.fast_tree.specs.declared.instructions.Shape.{Shape}
use Rattle.fast_tree.specs.declared.instructions.Shape.TheVariants.{Field, Decimal, Group, Sequence}
use Rattle.fast_tree.specs.meaning.Tree.{Label, Instruction, field, parts, group, sequence, bits_of, message_bits}
use Rattle.fast_tree.specs.meaning.Nodes.{field_data, instructions_from, template_data, body_among}
use Rattle.fast_tree.specs.meaning.Numbers.{numbers_of}

-- the instruction of a shape that names nodes of a set
abbrev pub instruction_among : List Node → Label → Shape → Instruction
instruction_among nodes at (Field f) = field at (field_data f)
instruction_among nodes at (Decimal e m) = parts at (field_data e) (field_data m)
instruction_among nodes at (Group optional body) = group at optional (body_among nodes body.items)
instruction_among nodes at (Sequence length body) = sequence at (field_data length) (body_among nodes body.items)

-- The widths are the bits that the bodies of the nodes use.
pub record AreNodeWidths (nodes : List Node) (widths : List ℕ) : Type 0 where
  pub long : length widths ≡ length nodes
  pub each : (n : ℕ) (v : Node) → slice_get nodes n ≡ Some v → slice_index widths n ≡ bits_of (body_among nodes (numbers_of v.shape))

-- The widths are the bits that the messages of the templates use, that of the identifier included.
pub record AreTemplateWidths (nodes : List Node) (templates : List Template) (widths : List ℕ) : Type 0 where
  pub long : length widths ≡ length templates
  pub each : (i : ℕ) (t : Template) → slice_get templates i ≡ Some t → slice_index widths i ≡ message_bits (template_data (instructions_from 0 nodes) t)
