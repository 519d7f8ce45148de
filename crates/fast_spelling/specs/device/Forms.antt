-- What a form says of a node.
use Rattle.std.specs.Prelude.{◌≡◌, ◌<◌, ℕ, Bool, true, false, if◌then◌else◌, List, length, map, slice_get, Option, None, Some, unwrap_or}
use Rattle.std.specs.declared.vec.Vec.{Vec}
use Rattle.std.specs.declared.alloc.Global.{Global}
use Rattle.fast_value.specs.declared.values.Value.{Value}
use Rattle.fast_value.specs.declared.kinds.Kind.{Kind}
use Rattle.fast_value.specs.declared.kinds.Kind.TheVariants.{UInt32, Int32, UInt64, Int64, Decimal as decimal, Ascii, Unicode, Bytes}
use Rattle.fast_tree.specs.declared.operators.Operator.{Operator}
use Rattle.fast_tree.specs.declared.operators.Operator.TheVariants.{None as no_operator, Constant, Default, Copy, Increment, Delta, Tail}
use Rattle.fast_tree.specs.declared.instructions.Node.{Node}
use Rattle.fast_tree.specs.declared.instructions.Template.{Template}
use Rattle.fast_tree.specs.meaning.Numbers.{numbers_of}
use Rattle.fast_tree.specs.declared.instructions.Shape.{Shape}
use Rattle.fast_tree.specs.declared.instructions.FieldInstruction.{FieldInstruction}
use Rattle.fast_tree.specs.declared.instructions.Shape.TheVariants.{Field, Decimal as Parts, Group, Sequence}
use Rattle.fast_spelling.specs.declared.forms.Form.{Form}
use Rattle.fast_spelling.specs.declared.forms.Step.{Step}
use Rattle.fast_spelling.specs.declared.forms.BodyStep.{BodyStep}
use Rattle.fast_spelling.specs.declared.forms.Absence.{Absence}
use Rattle.fast_spelling.specs.declared.forms.Absence.TheVariants.{Refused, Null, Clear, ByEntry, Chosen}
use Rattle.fast_spelling.specs.declared.forms.Form.TheVariants.{PlainUInt32, PlainInt32, PlainUInt64, PlainInt64, ConstantUInt32}
use Rattle.fast_spelling.specs.declared.forms.Form.TheVariants.{ConstantInt32, ConstantUInt64, ConstantInt64, DefaultUInt32, DefaultInt32}
use Rattle.fast_spelling.specs.declared.forms.Form.TheVariants.{DefaultUInt64, DefaultInt64, CopyUInt32, CopyInt32, CopyUInt64, CopyInt64}
use Rattle.fast_spelling.specs.declared.forms.Form.TheVariants.{IncrementUInt32, IncrementInt32, IncrementUInt64, IncrementInt64}
use Rattle.fast_spelling.specs.declared.forms.Form.TheVariants.{DeltaUInt32, DeltaInt32, DeltaUInt64, DeltaInt64, PlainAscii, ConstantAscii}
use Rattle.fast_spelling.specs.declared.forms.Form.TheVariants.{DefaultAscii, CopyAscii, TailAscii, DeltaAscii, PlainUnicode, DeltaUnicode}
use Rattle.fast_spelling.specs.declared.forms.Form.TheVariants.{PlainBytes, TailBytes, PlainDecimal, CopyDecimal, DeltaDecimal}
use Rattle.fast_spelling.specs.declared.forms.Form.TheVariants.{DefaultParts, CopyParts, Other}

-- the form of a field of this type under this operator
abbrev pub form_by : Kind → Operator → Form
form_by UInt32 no_operator = PlainUInt32
form_by Int32 no_operator = PlainInt32
form_by UInt64 no_operator = PlainUInt64
form_by Int64 no_operator = PlainInt64
form_by UInt32 Constant = ConstantUInt32
form_by Int32 Constant = ConstantInt32
form_by UInt64 Constant = ConstantUInt64
form_by Int64 Constant = ConstantInt64
form_by UInt32 Default = DefaultUInt32
form_by Int32 Default = DefaultInt32
form_by UInt64 Default = DefaultUInt64
form_by Int64 Default = DefaultInt64
form_by UInt32 Copy = CopyUInt32
form_by Int32 Copy = CopyInt32
form_by UInt64 Copy = CopyUInt64
form_by Int64 Copy = CopyInt64
form_by UInt32 Increment = IncrementUInt32
form_by Int32 Increment = IncrementInt32
form_by UInt64 Increment = IncrementUInt64
form_by Int64 Increment = IncrementInt64
form_by UInt32 Delta = DeltaUInt32
form_by Int32 Delta = DeltaInt32
form_by UInt64 Delta = DeltaUInt64
form_by Int64 Delta = DeltaInt64
form_by Ascii no_operator = PlainAscii
form_by Ascii Constant = ConstantAscii
form_by Ascii Default = DefaultAscii
form_by Ascii Copy = CopyAscii
form_by Ascii Tail = TailAscii
form_by Ascii Delta = DeltaAscii
form_by Unicode no_operator = PlainUnicode
form_by Unicode Delta = DeltaUnicode
form_by Bytes no_operator = PlainBytes
form_by Bytes Tail = TailBytes
form_by decimal no_operator = PlainDecimal
form_by decimal Copy = CopyDecimal
form_by decimal Delta = DeltaDecimal
form_by kind operator = Other

-- the form of a decimal by parts with these operators
abbrev pub parts_by : Operator → Operator → Form
parts_by Default Delta = DefaultParts
parts_by Copy Delta = CopyParts
parts_by exponent mantissa = Other

-- what the absence of a field writes, if it may be absent, by its operator and its initial value
abbrev pub absence_by : Bool → Operator → Option Value → Absence
absence_by false operator initial = Refused
absence_by true no_operator initial = Null
absence_by true Delta initial = Null
absence_by true Copy initial = ByEntry
absence_by true Increment initial = ByEntry
absence_by true Tail initial = ByEntry
absence_by true Constant initial = Chosen
absence_by true Default None = Clear
absence_by true Default (Some v) = Chosen

-- what is done at a node with this head
abbrev pub step_by : Form → FieldInstruction → Step
step_by form f = record {
  form = form;
  absence = absence_by f.optional f.operator f.initial;
  nullable = f.optional;
  entry = unwrap_or f.entry 0;
}

-- the field whose absence is that of the whole node; a group has none
abbrev pub head_of : Shape → Option FieldInstruction
head_of (Field f) = Some f
head_of (Parts e m) = Some e
head_of (Sequence length body) = Some length
head_of (Group optional body) = None

-- what is done at a node
abbrev pub step_of : Shape → Step
step_of (Field f) = step_by (form_by f.kind f.operator) f
step_of (Parts e m) = step_by (parts_by e.operator m.operator) e
step_of (Sequence length body) = step_by Other length
step_of (Group optional body) = record {
  form = Other;
  absence = if optional then Clear else Refused;
  nullable = optional;
  entry = 0;
}

-- so of the node with a number, if there is one
abbrev pub step_there : Option Node → Step
step_there (Some x) = step_of x.shape
step_there None = record { form = Other; absence = Refused; nullable = false; entry = 0 }

abbrev pub body_step : List Node → ℕ → BodyStep
body_step nodes n = record { node = n; step = step_there (slice_get nodes n) }

-- what is done at the nodes of a body
abbrev pub body_steps : List Node → List ℕ → List BodyStep
body_steps nodes = map (body_step nodes)

-- The step of a body is that of a node.
abbrev pub IsIn : List Node → BodyStep → Type 0
IsIn nodes s = (s.node < length nodes) × (s.step ≡ step_there (slice_get nodes s.node))

-- The steps of the bodies of all nodes, and of all templates.
abbrev pub AreBodies : List Node → List (Vec BodyStep Global) → Type 0
AreBodies nodes bodies = map (λ v. v.items) bodies ≡ map (λ x. body_steps nodes (numbers_of x.shape)) nodes

abbrev pub AreRoots : List Node → List Template → List (Vec BodyStep Global) → Type 0
AreRoots nodes templates roots = map (λ v. v.items) roots ≡ map (λ t. body_steps nodes t.body.items) templates

-- the shape is a field of this type under this operator
abbrev pub IsFieldOf : Kind → Operator → Shape → Type 0
IsFieldOf kind operator (Field f) = (f.kind ≡ kind) × (f.operator ≡ operator)
IsFieldOf kind operator x = ⊥

-- so is that of the node with this number
abbrev pub IsFieldAt : List Node → ℕ → Kind → Operator → Type 0
IsFieldAt nodes n kind operator = (x : Node) → slice_get nodes n ≡ Some x → IsFieldOf kind operator x.shape

-- The shape is a decimal by parts: an exponent under this operator, and a mantissa under delta.
abbrev pub IsPartsOf : Operator → Shape → Type 0
IsPartsOf operator (Parts e m) = (e.operator ≡ operator) × (m.operator ≡ Delta)
IsPartsOf operator x = ⊥

-- so is that of the node with this number
abbrev pub IsPartsAt : List Node → ℕ → Operator → Type 0
IsPartsAt nodes n operator = (x : Node) → slice_get nodes n ≡ Some x → IsPartsOf operator x.shape

-- What a form says of a field, and of a node.
abbrev pub Says : Form → Shape → Type 0
Says PlainUInt32 x = IsFieldOf UInt32 no_operator x
Says PlainInt32 x = IsFieldOf Int32 no_operator x
Says PlainUInt64 x = IsFieldOf UInt64 no_operator x
Says PlainInt64 x = IsFieldOf Int64 no_operator x
Says ConstantUInt32 x = IsFieldOf UInt32 Constant x
Says ConstantInt32 x = IsFieldOf Int32 Constant x
Says ConstantUInt64 x = IsFieldOf UInt64 Constant x
Says ConstantInt64 x = IsFieldOf Int64 Constant x
Says DefaultUInt32 x = IsFieldOf UInt32 Default x
Says DefaultInt32 x = IsFieldOf Int32 Default x
Says DefaultUInt64 x = IsFieldOf UInt64 Default x
Says DefaultInt64 x = IsFieldOf Int64 Default x
Says CopyUInt32 x = IsFieldOf UInt32 Copy x
Says CopyInt32 x = IsFieldOf Int32 Copy x
Says CopyUInt64 x = IsFieldOf UInt64 Copy x
Says CopyInt64 x = IsFieldOf Int64 Copy x
Says IncrementUInt32 x = IsFieldOf UInt32 Increment x
Says IncrementInt32 x = IsFieldOf Int32 Increment x
Says IncrementUInt64 x = IsFieldOf UInt64 Increment x
Says IncrementInt64 x = IsFieldOf Int64 Increment x
Says DeltaUInt32 x = IsFieldOf UInt32 Delta x
Says DeltaInt32 x = IsFieldOf Int32 Delta x
Says DeltaUInt64 x = IsFieldOf UInt64 Delta x
Says DeltaInt64 x = IsFieldOf Int64 Delta x
Says PlainAscii x = IsFieldOf Ascii no_operator x
Says ConstantAscii x = IsFieldOf Ascii Constant x
Says DefaultAscii x = IsFieldOf Ascii Default x
Says CopyAscii x = IsFieldOf Ascii Copy x
Says TailAscii x = IsFieldOf Ascii Tail x
Says DeltaAscii x = IsFieldOf Ascii Delta x
Says PlainUnicode x = IsFieldOf Unicode no_operator x
Says DeltaUnicode x = IsFieldOf Unicode Delta x
Says PlainBytes x = IsFieldOf Bytes no_operator x
Says TailBytes x = IsFieldOf Bytes Tail x
Says PlainDecimal x = IsFieldOf decimal no_operator x
Says CopyDecimal x = IsFieldOf decimal Copy x
Says DeltaDecimal x = IsFieldOf decimal Delta x
Says DefaultParts x = IsPartsOf Default x
Says CopyParts x = IsPartsOf Copy x
Says Other x = Unit {0}
