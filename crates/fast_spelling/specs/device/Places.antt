-- The field of a node, or a field by itself.
use Rattle.std.specs.Prelude.{Bool, true, false, Option, Some, None, slice_get}
use Rattle.fast_value.specs.declared.kinds.Kind.TheVariants.{UInt32}
use Rattle.fast_tree.specs.declared.instructions.FieldInstruction.{FieldInstruction}
use Rattle.fast_tree.specs.declared.instructions.Node.{Node}
use Rattle.fast_tree.specs.declared.instructions.Shape.{Shape}
use Rattle.fast_tree.specs.declared.instructions.Shape.TheVariants.{Field}
use Rattle.fast_tree.specs.declared.operators.Operator.TheVariants.{None as no_operator}
use Rattle.fast_template.specs.meaning.Flat.{nodes_of}
use Rattle.fast_spelling.specs.declared.known.Place.{Place}
use Rattle.fast_spelling.specs.declared.known.Place.TheVariants as Places

-- the field of a node; of one that is no field, any
abbrev pub field_of : Shape → FieldInstruction
field_of (Field f) = f
field_of x = record { kind = UInt32; optional = false; operator = no_operator; initial = None; entry = None }

abbrev pub is_field : Shape → Bool
is_field (Field f) = true
is_field x = false

-- the same of a node that is perhaps none
abbrev pub field_in : Option Node → FieldInstruction
field_in (Some x) = field_of x.shape
field_in None = record { kind = UInt32; optional = false; operator = no_operator; initial = None; entry = None }

abbrev pub has_field : Option Node → Bool
has_field (Some x) = is_field x.shape
has_field None = false

-- the field at a place
abbrev pub field_there : Place → FieldInstruction
field_there (Places.Node plan n) = field_in (slice_get (nodes_of plan.now.templates.now) n)
field_there (Places.Alone field) = field.now

-- whether there is one
abbrev pub is_there : Place → Bool
is_there (Places.Node plan n) = has_field (slice_get (nodes_of plan.now.templates.now) n)
is_there (Places.Alone field) = true
