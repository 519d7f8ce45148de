-- Nodes without their memory, and the instructions that a list of them stands for.
use Rattle.std.specs.Prelude.{ℕ, suc, Bool, List, [], ◌∷◌, string_bytes}
use Rattle.fast_tree.specs.declared.instructions.Shape.{Shape}
use Rattle.fast_tree.specs.declared.instructions.Shape.TheVariants.{Field, Decimal, Group, Sequence}
use Rattle.fast_tree.specs.declared.instructions.Node.{Node}
use Rattle.fast_tree.specs.declared.instructions.Template.{Template}
use Rattle.fast_tree.specs.meaning.Tree.{FieldData, Label, Instruction, field, parts, group, sequence, TemplateData}
use Rattle.fast_tree.specs.meaning.Nodes.{field_data, body_of}
use Rattle.std.specs.Prelude.{Option}

-- the data of a shape: bodies are lists of node numbers
pub data ShapeData : Type 0 where
  a_field : FieldData → ShapeData
  a_decimal : FieldData → FieldData → ShapeData
  a_group : Bool → List ℕ → ShapeData
  a_sequence : FieldData → List ℕ → ShapeData

-- the data of a node
pub record NodeData : Type 0 where
  pub name : List ℕ
  pub shape : ShapeData

-- a shape without its memory
abbrev pub shape_data : Shape → ShapeData
shape_data (Field f) = a_field (field_data f)
shape_data (Decimal e m) = a_decimal (field_data e) (field_data m)
shape_data (Group optional body) = a_group optional body.items
shape_data (Sequence length body) = a_sequence (field_data length) body.items

-- a node without its memory
abbrev pub node_data : Node → NodeData
node_data n = record { name = string_bytes n.name; shape = shape_data n.shape }

-- the instruction of a shape, by those of the nodes from a number on
abbrev pub instruction_from : Label → ℕ → List Instruction → ShapeData → Instruction
instruction_from at first is (a_field f) = field at f
instruction_from at first is (a_decimal e m) = parts at e m
instruction_from at first is (a_group optional body) = group at optional (body_of first is body)
instruction_from at first is (a_sequence length body) = sequence at length (body_of first is body)

-- the instructions of nodes, of which the first has this number
abbrev pub instructions_of : ℕ → List NodeData → List Instruction
instructions_of own [] = []
instructions_of own (n ∷ ns) = instruction_from (record {
  node = own;
  name = n.name;
}) (suc own) (instructions_of (suc own) ns) n.shape ∷ instructions_of (suc own) ns

-- The data of a template: its body is a list of node numbers.
pub record TemplateOutline : Type 0 where
  pub name : List ℕ
  pub id : Option ℕ
  pub reset : Bool
  pub body : List ℕ

-- a template without its memory
abbrev pub outline : Template → TemplateOutline
outline t = record { name = string_bytes t.name; id = t.id; reset = t.reset; body = t.body.items }

-- a template with its instructions
abbrev pub template_from : List Instruction → TemplateOutline → TemplateData
template_from is t = record { name = t.name; id = t.id; reset = t.reset; body = body_of 0 is t.body }
