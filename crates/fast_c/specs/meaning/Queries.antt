-- What the functions of include/fast.h return that ask a template set.
use Rattle.std.specs.Prelude.{◌≡◌, ℕ, suc, ◌<◌, ◌==◌, Bool, false, if◌then◌else◌, List, [], ◌∷◌, slice_get, Option, Some, None, IfSome}
use Rattle.std.specs.Prelude.{IfNone, is_some, string_bytes}
use Rattle.std.specs.List.{list_any}
use Rattle.std.specs.Int.{from_bool}
use Rattle.std.specs.Str.{bytes_eq}
use Rattle.fast_value.specs.declared.kinds.Kind.{Kind}
use Rattle.fast_value.specs.declared.kinds.Kind.TheVariants.{UInt32, Int32, UInt64, Int64, Decimal, Ascii, Unicode, Bytes}
use Rattle.fast_tree.specs.declared.operators.Operator.{Operator}
use Rattle.fast_tree.specs.declared.operators.Operator.TheVariants as Op
use Rattle.fast_tree.specs.declared.instructions.FieldInstruction.{FieldInstruction}
use Rattle.fast_tree.specs.declared.instructions.Shape.{Shape}
use Rattle.fast_tree.specs.declared.instructions.Shape.TheVariants as Is
use Rattle.fast_tree.specs.declared.instructions.Node.{Node}
use Rattle.fast_tree.specs.declared.instructions.Template.{Template}
use Rattle.fast_tree.specs.meaning.Numbers.{numbers_of}
use Rattle.fast_c.specs.declared.queries.FastTemplateInfo.{FastTemplateInfo}
use Rattle.fast_c.specs.declared.queries.FastNodeInfo.{FastNodeInfo}

-- the number of none: 2^32 - 1, more than any template, node or entry has
abbrev pub no_number : ℕ
no_number = 4294967295

-- a number, or that of none
abbrev pub number_or_none : Option ℕ → ℕ
number_or_none None = no_number
number_or_none (Some n) = n

-- The first element for which this holds has the number; where there is none, it is that of none.
pub record IsFirstWith {A : Type 0} (Has : A → Type 0) (xs : List A) (number : ℕ) : Type 0 where
  pub found : Option ℕ
  pub number_is : number ≡ number_or_none found
  pub some : IfSome found (λ i. (x : A) × (slice_get xs i ≡ Some x) × Has x)
  pub first : IfSome found (λ i. (j : ℕ) (x : A) → j < i → slice_get xs j ≡ Some x → ¬ (Has x))
  pub none : IfNone found ((j : ℕ) (x : A) → slice_get xs j ≡ Some x → ¬ (Has x))

-- the number of a type: `fast_type` of the header
abbrev pub kind_number : Kind → ℕ
kind_number UInt32 = 1
kind_number Int32 = 2
kind_number UInt64 = 3
kind_number Int64 = 4
kind_number Decimal = 5
kind_number Ascii = 6
kind_number Unicode = 7
kind_number Bytes = 8

-- the number of an operator: `fast_operator` of the header
abbrev pub operator_number : Operator → ℕ
operator_number Op.None = 0
operator_number Op.Constant = 1
operator_number Op.Default = 2
operator_number Op.Copy = 3
operator_number Op.Increment = 4
operator_number Op.Delta = 5
operator_number Op.Tail = 6

-- an identifier, or 0
abbrev pub id_or_zero : Option ℕ → ℕ
id_or_zero None = 0
id_or_zero (Some id) = id

-- a template without its name and its body
abbrev pub template_info : Template → FastTemplateInfo
template_info t = record { has_id = from_bool (is_some t.id); id = id_or_zero t.id; reset = from_bool t.reset }

-- what a field instruction says of a node of this type
abbrev pub field_info : ℕ → FieldInstruction → FastNodeInfo
field_info kind f = record {
  kind = kind;
  optional = from_bool f.optional;
  op = operator_number f.operator;
  entry = number_or_none f.entry;
  mantissa_op = 0;
  mantissa_entry = no_number;
}

-- the instruction of a shape, without its body
abbrev pub shape_info : Shape → FastNodeInfo
shape_info (Is.Field f) = field_info (kind_number f.kind) f
shape_info (Is.Decimal e m) = record {
  kind = 9;
  optional = from_bool e.optional;
  op = operator_number e.operator;
  entry = number_or_none e.entry;
  mantissa_op = operator_number m.operator;
  mantissa_entry = number_or_none m.entry;
}
shape_info (Is.Group optional body) = record {
  kind = 10;
  optional = from_bool optional;
  op = 0;
  entry = no_number;
  mantissa_op = 0;
  mantissa_entry = no_number;
}
shape_info (Is.Sequence length body) = field_info 11 length

-- the instruction of a node, without its name and its body
abbrev pub node_info : Node → FastNodeInfo
node_info n = shape_info n.shape

-- the number of the first element that passes, counted from a number on, or that of none
abbrev pub first_that : {A : Type 0} → (A → Bool) → ℕ → List A → ℕ
first_that test n [] = no_number
first_that test n (x ∷ xs) = if test x then n else first_that test (suc n) xs

-- whether the number is in the list
abbrev pub has_number : ℕ → List ℕ → Bool
has_number n ns = list_any (λ m. m == n) ns

-- whether the body of a template has this node
abbrev pub has_node : ℕ → Template → Bool
has_node n t = has_number n t.body.items

-- whether the body of a node has this node
abbrev pub names_node : ℕ → Node → Bool
names_node n v = has_number n (numbers_of v.shape)

-- whether a node is there and has the name
abbrev pub is_named : List ℕ → Option Node → Bool
is_named name None = false
is_named name (Some v) = bytes_eq (string_bytes v.name) name

-- the first node of a body that has the name, or that of none
abbrev pub first_named : List Node → List ℕ → List ℕ → ℕ
first_named nodes [] name = no_number
first_named nodes (n ∷ ns) name = if is_named name (slice_get nodes n) then n else first_named nodes ns name
