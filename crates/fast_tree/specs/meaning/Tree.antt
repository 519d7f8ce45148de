-- A checked template set as a tree. References are expanded, and each dictionary entry has its number.
use Rattle.std.specs.Prelude.{◌≡◌, slice_get, ℕ, ◌+◌, Bool, true, false, if◌then◌else◌, nat_lt, List, Option, Some, None}
use Rattle.fast_tree.specs.declared.operators.Operator.{Operator}
use Rattle.fast_tree.specs.declared.operators.Operator.TheVariants.{None as no_operator, Constant, Default, Copy, Increment, Delta, Tail}
use Rattle.fast_value.specs.declared.kinds.Kind.{Kind}
use Rattle.fast_value.specs.declared.kinds.Kind.TheVariants.{UInt32}
use Rattle.fast_value.specs.meaning.Kinds.{ScalarData}

-- A value that is sent under one operator: a scalar, a sequence's length, an exponent or a mantissa. The entry is the number of the
-- dictionary entry that the operator reads and writes, if it uses one.
-- FAST 1.1: Template Definition, Field Operators.
pub record FieldData : Type 0 where
  pub kind : Kind
  pub optional : Bool
  pub operator : Operator
  pub initial : Option ScalarData
  pub entry : Option ℕ

-- The number that a node has in the whole set, and its name.
pub record Label : Type 0 where
  pub node : ℕ
  pub name : List ℕ

mutual
  -- an instruction of a segment
  -- FAST 1.1: Template Definition, Field Instructions.
  pub data Instruction : Type 0 where
    field : Label → FieldData → Instruction
    -- a decimal by parts: exponent, mantissa
    parts : Label → FieldData → FieldData → Instruction
    -- optional or not
    group : Label → Bool → Body → Instruction
    -- the length, which is optional if the sequence is, and an element's instructions
    sequence : Label → FieldData → Body → Instruction

  -- the instructions of one segment
  -- FAST 1.1: Transfer Encoding, Segments.
  pub data Body : Type 0 where
    end : Body
    step : Instruction → Body → Body

-- a template with its identifier, if it has one, and whether it resets
-- FAST 1.1: Template Definition, Templates.
pub record TemplateData : Type 0 where
  pub name : List ℕ
  pub id : Option ℕ
  pub reset : Bool
  pub body : Body

-- The templates by number, and K, the number of entries, with the identifier's.
pub record Tree : Type 0 where
  pub templates : List TemplateData
  pub entries : ℕ

-- A message begins with the identifier, as a field on entry 0.
-- FAST 1.1: Transfer Encoding, Template Identifier.
abbrev pub identifier : FieldData
identifier = record { kind = UInt32; optional = false; operator = Copy; initial = None; entry = Some 0 }

-- Copy, default, increment and tail use a presence bit, and so does an optional constant.
-- FAST 1.1: Transfer Encoding, Presence Map Utilization.
abbrev pub operator_uses_bit : Operator → Bool → Bool
operator_uses_bit no_operator optional = false
operator_uses_bit Constant optional = optional
operator_uses_bit Default optional = true
operator_uses_bit Copy optional = true
operator_uses_bit Increment optional = true
operator_uses_bit Delta optional = false
operator_uses_bit Tail optional = true

-- the field uses a presence bit
-- FAST 1.1: Transfer Encoding, Presence Map Utilization.
abbrev pub uses_bit : FieldData → Bool
uses_bit f = operator_uses_bit f.operator f.optional

-- 1 or 0
abbrev pub one_if : Bool → ℕ
one_if b = if b then 1 else 0

-- the greatest number of bits that an instruction uses of its own segment, and that a segment's instructions use
-- FAST 1.1: Transfer Encoding, Presence Map Utilization.
abbrev pub bits_used : Instruction → ℕ
bits_used (field l f) = one_if (uses_bit f)
bits_used (parts l e m) = one_if (uses_bit e) + one_if (uses_bit m)
bits_used (group l optional body) = one_if optional
bits_used (sequence l length body) = one_if (uses_bit length)

-- the most bits that the instructions of a segment use
-- FAST 1.1: Transfer Encoding, Presence Map Utilization.
abbrev pub bits_of : Body → ℕ
bits_of end = 0
bits_of (step i is) = bits_used i + bits_of is

-- a message's own segment has the identifier's bit too
-- FAST 1.1: Transfer Encoding, Presence Map Utilization.
abbrev pub message_bits : TemplateData → ℕ
message_bits t = 1 + bits_of t.body

-- A group or an element has a map of its own exactly if one of its instructions uses a bit.
-- FAST 1.1: Transfer Encoding, Presence Map Utilization.
abbrev pub has_map : Body → Bool
has_map body = nat_lt 0 (bits_of body)

-- No two templates have the same identifier.
abbrev pub HasDistinctIds : Tree → Type 0
HasDistinctIds t = (i j id : ℕ) (a b : TemplateData) → slice_get t.templates i ≡ Some a → slice_get t.templates j ≡ Some b → a.id ≡ Some id
    → b.id ≡ Some id → i ≡ j
