-- A template set as a text: each template, each node and each number in it, in a line of its own.
use Rattle.std.specs.Prelude.{ℕ, Bool, true, false, List, [], ◌∷◌, ◌++◌, codes, decimal, flat_map, Option, Some, None}
use Rattle.fast_value.specs.declared.kinds.Kind.{Kind}
use Rattle.fast_value.specs.declared.kinds.Kind.TheVariants.{UInt32, Int32, UInt64, Int64, Decimal, Ascii, Unicode, Bytes}
use Rattle.fast_value.specs.meaning.Kinds.{ScalarData, U}
use Rattle.fast_tree.specs.declared.operators.Operator.{Operator}
use Rattle.fast_tree.specs.declared.operators.Operator.TheVariants.{None as no_operator, Constant, Default, Copy, Increment, Delta, Tail}
use Rattle.fast_tree.specs.meaning.Tree.{FieldData, Label, Instruction, field, parts, group, sequence, Body, end, step, TemplateData, Tree}

-- the name of a kind
abbrev pub kind_text : Kind → List ℕ
kind_text UInt32 = codes " UInt32"
kind_text Int32 = codes " Int32"
kind_text UInt64 = codes " UInt64"
kind_text Int64 = codes " Int64"
kind_text Decimal = codes " Decimal"
kind_text Ascii = codes " Ascii"
kind_text Unicode = codes " Unicode"
kind_text Bytes = codes " Bytes"

-- the name of an operator
abbrev pub operator_text : Operator → List ℕ
operator_text no_operator = codes " None"
operator_text Constant = codes " Constant"
operator_text Default = codes " Default"
operator_text Copy = codes " Copy"
operator_text Increment = codes " Increment"
operator_text Delta = codes " Delta"
operator_text Tail = codes " Tail"

-- yes or no
abbrev pub bool_text : Bool → List ℕ
bool_text true = codes " true"
bool_text false = codes " false"

-- a number, or none
abbrev pub number_if : Option ℕ → List ℕ
number_if None = codes " None"
number_if (Some n) = codes " Some(" ++ decimal n ++ codes ")"

-- an initial value: the set has unsigned ones alone
abbrev pub initial_text : Option ScalarData → List ℕ
initial_text None = codes " None"
initial_text (Some (U n)) = codes " Some(U(" ++ decimal n ++ codes "))"
initial_text (Some v) = codes " another"

-- kind, presence, operator, initial value and entry
abbrev pub field_text : FieldData → List ℕ
field_text f = kind_text f.kind ++ bool_text f.optional ++ operator_text f.operator ++ initial_text f.initial ++ number_if f.entry

-- a number and a name
abbrev pub label_text : Label → List ℕ
label_text l = decimal l.node ++ 0x20 ∷ l.name

-- the number of an instruction
abbrev pub number_text : Instruction → List ℕ
number_text (field at f) = 0x20 ∷ decimal at.node
number_text (parts at e m) = 0x20 ∷ decimal at.node
number_text (group at optional body) = 0x20 ∷ decimal at.node
number_text (sequence at length body) = 0x20 ∷ decimal at.node

-- the numbers of the instructions of a body, and the end of the line
abbrev pub numbers_text : Body → List ℕ
numbers_text end = 0x0A ∷ []
numbers_text (step i is) = number_text i ++ numbers_text is

-- an instruction, and then those in it
abbrev mutual
  pub node_text : Instruction → List ℕ
  node_text (field at f) = label_text at ++ field_text f ++ 0x0A ∷ []
  node_text (parts at e m) = label_text at ++ field_text e ++ field_text m ++ 0x0A ∷ []
  node_text (group at optional body) = label_text at ++ bool_text optional ++ codes " of" ++ numbers_text body ++ nodes_text body
  node_text (sequence at length body) = label_text at ++ field_text length ++ codes " of" ++ numbers_text body ++ nodes_text body

  pub nodes_text : Body → List ℕ
  nodes_text end = []
  nodes_text (step i is) = node_text i ++ nodes_text is

-- a template: name, identifier, whether it resets, and the numbers of its instructions
abbrev pub template_text : TemplateData → List ℕ
template_text u = u.name ++ number_if u.id ++ bool_text u.reset ++ codes " of" ++ numbers_text u.body

-- the number of entries, the templates, and the instructions
abbrev pub spelled : Tree → List ℕ
spelled t = decimal t.entries ++ 0x0A ∷ flat_map template_text t.templates ++ flat_map (λ u. nodes_text u.body) t.templates
