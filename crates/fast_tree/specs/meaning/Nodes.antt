-- The instructions that nodes stand for, and the templates that name them.
use Rattle.std.specs.Prelude.{ℕ, suc, ◌-◌, false, List, [], ◌∷◌, slice_index_or, option_map, None, string_bytes}
use Rattle.fast_value.specs.declared.kinds.Kind.TheVariants.{UInt32}
use Rattle.fast_value.specs.meaning.Values.{value_data}
use Rattle.fast_tree.specs.declared.operators.Operator.TheVariants.{None as no_operator}
use Rattle.fast_tree.specs.declared.instructions.FieldInstruction.{FieldInstruction}
use Rattle.fast_tree.specs.declared.instructions.Shape.{Shape}
use Rattle.fast_tree.specs.declared.instructions.Shape.TheVariants.{Field, Decimal, Group, Sequence}
use Rattle.fast_tree.specs.declared.instructions.Node.{Node}
use Rattle.fast_tree.specs.declared.instructions.Template.{Template}
use Rattle.fast_tree.specs.meaning.Tree.{FieldData, Label, Instruction, field, parts, group, sequence, Body, end, step, TemplateData}

-- the data of a field instruction
abbrev pub field_data : FieldInstruction → FieldData
field_data f = record { kind = f.kind; optional = f.optional; operator = f.operator; initial = option_map value_data f.initial; entry = f.entry }

-- a node's number and name
abbrev pub label_of : ℕ → Node → Label
label_of own n = record { node = own; name = string_bytes n.name }

-- the instruction at a number that no node has
abbrev pub no_instruction : Instruction
no_instruction = field (record { node = 0; name = [] }) (record { kind = UInt32; optional = false; operator = no_operator; initial = None; entry = None })

-- the body of these nodes, by the instructions of the nodes from a number on
abbrev pub body_of : ℕ → List Instruction → List ℕ → Body
body_of first is [] = end
body_of first is (n ∷ ns) = step (slice_index_or is (n - first) no_instruction) (body_of first is ns)

-- the instruction of a shape, by those of the nodes from a number on
abbrev pub instruction_of : Label → ℕ → List Instruction → Shape → Instruction
instruction_of at first is (Field f) = field at (field_data f)
instruction_of at first is (Decimal e m) = parts at (field_data e) (field_data m)
instruction_of at first is (Group optional body) = group at optional (body_of first is body.items)
instruction_of at first is (Sequence length body) = sequence at (field_data length) (body_of first is body.items)

-- The instructions of nodes, of which the first has this number. A body names later nodes alone.
abbrev pub instructions_from : ℕ → List Node → List Instruction
instructions_from own [] = []
instructions_from own (n ∷ ns) = instruction_of (label_of own n) (suc own) (instructions_from (suc own) ns) n.shape ∷ instructions_from (suc own) ns

-- a template with its instructions
abbrev pub template_data : List Instruction → Template → TemplateData
template_data is t = record { name = string_bytes t.name; id = t.id; reset = t.reset; body = body_of 0 is t.body.items }

-- the body of nodes of a set
abbrev pub body_among : List Node → List ℕ → Body
body_among nodes ns = body_of 0 (instructions_from 0 nodes) ns
