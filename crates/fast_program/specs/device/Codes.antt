-- The shape of a node, by its code.
use Rattle.std.specs.Prelude.{◌≡◌, ℕ, Bool, true, false, Some, Vec}
use Rattle.std.specs.Global.{Global}
use Rattle.fast_value.specs.declared.kinds.Kind.{Kind}
use Rattle.fast_value.specs.declared.kinds.Kind.TheVariants.{UInt32, Int32, UInt64, Int64, Decimal, Ascii, Unicode, Bytes}
use Rattle.fast_tree.specs.declared.operators.Operator.{Operator}
use Rattle.fast_tree.specs.declared.operators.Operator.TheVariants.{None as no_operator, Constant as constant, Default, Copy, Increment, Delta, Tail}
use Rattle.fast_tree.specs.declared.instructions.FieldInstruction.{FieldInstruction}
use Rattle.fast_tree.specs.declared.instructions.Shape.{Shape}
use Rattle.fast_tree.specs.declared.instructions.Shape.TheVariants.{Field, Decimal as by_parts, Group as a_group, Sequence as a_sequence}
use Rattle.fast_tree.specs.meaning.Entries.{keeps_value}
use Rattle.fast_program.specs.declared.codes.Code.{Code}
use Rattle.fast_program.specs.declared.codes.Code.TheVariants.{General, End, Constant, Parts, PartsDefault, PartsNullableDefault, PartsCopy}
use Rattle.fast_program.specs.declared.codes.Code.TheVariants.{PartsNullableCopy, Group, OptionalGroup, Sequence, OptionalSequence}
use Rattle.fast_program.specs.declared.codes.Code.TheVariants.{UInt32Plain, UInt32NullablePlain, UInt32Default, UInt32NullableDefault}
use Rattle.fast_program.specs.declared.codes.Code.TheVariants.{UInt32Copy, UInt32NullableCopy, UInt32Increment, UInt32NullableIncrement}
use Rattle.fast_program.specs.declared.codes.Code.TheVariants.{UInt32Delta, UInt32NullableDelta}
use Rattle.fast_program.specs.declared.codes.Code.TheVariants.{Int32Plain, Int32NullablePlain, Int32Default, Int32NullableDefault}
use Rattle.fast_program.specs.declared.codes.Code.TheVariants.{Int32Copy, Int32NullableCopy, Int32Increment, Int32NullableIncrement}
use Rattle.fast_program.specs.declared.codes.Code.TheVariants.{Int32Delta, Int32NullableDelta}
use Rattle.fast_program.specs.declared.codes.Code.TheVariants.{UInt64Plain, UInt64NullablePlain, UInt64Default, UInt64NullableDefault}
use Rattle.fast_program.specs.declared.codes.Code.TheVariants.{UInt64Copy, UInt64NullableCopy, UInt64Increment, UInt64NullableIncrement}
use Rattle.fast_program.specs.declared.codes.Code.TheVariants.{UInt64Delta, UInt64NullableDelta}
use Rattle.fast_program.specs.declared.codes.Code.TheVariants.{Int64Plain, Int64NullablePlain, Int64Default, Int64NullableDefault}
use Rattle.fast_program.specs.declared.codes.Code.TheVariants.{Int64Copy, Int64NullableCopy, Int64Increment, Int64NullableIncrement}
use Rattle.fast_program.specs.declared.codes.Code.TheVariants.{Int64Delta, Int64NullableDelta}
use Rattle.fast_program.specs.declared.codes.Code.TheVariants.{DecimalPlain, DecimalNullablePlain, DecimalCopy, DecimalNullableCopy}
use Rattle.fast_program.specs.declared.codes.Code.TheVariants.{DecimalDelta, DecimalNullableDelta}
use Rattle.fast_program.specs.declared.codes.Code.TheVariants.{AsciiPlain, AsciiNullablePlain, AsciiDefault, AsciiNullableDefault}
use Rattle.fast_program.specs.declared.codes.Code.TheVariants.{AsciiCopy, AsciiNullableCopy, AsciiTail, AsciiNullableTail, AsciiDelta}
use Rattle.fast_program.specs.declared.codes.Code.TheVariants.{AsciiNullableDelta}
use Rattle.fast_program.specs.declared.codes.Code.TheVariants.{UnicodePlain, UnicodeNullablePlain, UnicodeDelta, UnicodeNullableDelta}
use Rattle.fast_program.specs.declared.codes.Code.TheVariants.{BytesPlain, BytesNullablePlain, BytesTail, BytesNullableTail}

-- The shape is a field of the type under the operator, optional or mandatory; if the operator keeps a value, it has this entry.
abbrev pub IsFieldCoded : Kind → Operator → Bool → ℕ → Shape → Type 0
IsFieldCoded kind operator optional entry shape =
    (f : FieldInstruction) × (shape ≡ Field f) × (f.kind ≡ kind) × (f.operator ≡ operator) × (f.optional ≡ optional)
    × (keeps_value operator ≡ true → f.entry ≡ Some entry)

-- The shape is a mandatory constant.
abbrev pub IsConstantCoded : Shape → Type 0
IsConstantCoded shape = (f : FieldInstruction) × (shape ≡ Field f) × (f.operator ≡ constant) × (f.optional ≡ false)

-- The shape is a decimal by parts.
abbrev pub IsPartsCoded : Shape → Type 0
IsPartsCoded shape = (e m : FieldInstruction) × (shape ≡ by_parts e m)

-- The shape is a decimal by parts: an exponent under the operator, optional or mandatory, and a mandatory mantissa under delta, which has
-- this entry.
abbrev pub IsChangedPartsCoded : Operator → Bool → ℕ → Shape → Type 0
IsChangedPartsCoded operator optional entry shape =
    (e m : FieldInstruction) × (shape ≡ by_parts e m) × (e.operator ≡ operator) × (e.optional ≡ optional) × (m.operator ≡ Delta)
    × (m.optional ≡ false) × (m.entry ≡ Some entry)

-- The shape is a group, optional or mandatory.
abbrev pub IsGroupCoded : Bool → Shape → Type 0
IsGroupCoded optional shape = (body : Vec ℕ Global) × (shape ≡ a_group optional body)

-- The shape is a sequence whose length has no operator, optional or mandatory.
abbrev pub IsSequenceCoded : Bool → Shape → Type 0
IsSequenceCoded optional shape =
    (length : FieldInstruction) × (body : Vec ℕ Global) × (shape ≡ a_sequence length body) × (length.operator ≡ no_operator) × (length.optional ≡ optional)

-- The claims of codes on shapes.
pub data Claim : Type 0 where
  anything : Claim
  never : Claim
  field_of : Kind → Operator → Bool → Claim
  constant_field : Claim
  decimal_parts : Claim
  changed_parts : Operator → Bool → Claim
  group_of : Bool → Claim
  sequence_of : Bool → Claim

-- the claim of a code
abbrev pub says : Code → Claim
says General = anything
says End = never
says UInt32Plain = field_of UInt32 no_operator false
says UInt32NullablePlain = field_of UInt32 no_operator true
says UInt32Default = field_of UInt32 Default false
says UInt32NullableDefault = field_of UInt32 Default true
says UInt32Copy = field_of UInt32 Copy false
says UInt32NullableCopy = field_of UInt32 Copy true
says UInt32Increment = field_of UInt32 Increment false
says UInt32NullableIncrement = field_of UInt32 Increment true
says UInt32Delta = field_of UInt32 Delta false
says UInt32NullableDelta = field_of UInt32 Delta true
says Int32Plain = field_of Int32 no_operator false
says Int32NullablePlain = field_of Int32 no_operator true
says Int32Default = field_of Int32 Default false
says Int32NullableDefault = field_of Int32 Default true
says Int32Copy = field_of Int32 Copy false
says Int32NullableCopy = field_of Int32 Copy true
says Int32Increment = field_of Int32 Increment false
says Int32NullableIncrement = field_of Int32 Increment true
says Int32Delta = field_of Int32 Delta false
says Int32NullableDelta = field_of Int32 Delta true
says UInt64Plain = field_of UInt64 no_operator false
says UInt64NullablePlain = field_of UInt64 no_operator true
says UInt64Default = field_of UInt64 Default false
says UInt64NullableDefault = field_of UInt64 Default true
says UInt64Copy = field_of UInt64 Copy false
says UInt64NullableCopy = field_of UInt64 Copy true
says UInt64Increment = field_of UInt64 Increment false
says UInt64NullableIncrement = field_of UInt64 Increment true
says UInt64Delta = field_of UInt64 Delta false
says UInt64NullableDelta = field_of UInt64 Delta true
says Int64Plain = field_of Int64 no_operator false
says Int64NullablePlain = field_of Int64 no_operator true
says Int64Default = field_of Int64 Default false
says Int64NullableDefault = field_of Int64 Default true
says Int64Copy = field_of Int64 Copy false
says Int64NullableCopy = field_of Int64 Copy true
says Int64Increment = field_of Int64 Increment false
says Int64NullableIncrement = field_of Int64 Increment true
says Int64Delta = field_of Int64 Delta false
says Int64NullableDelta = field_of Int64 Delta true
says Constant = constant_field
says DecimalPlain = field_of Decimal no_operator false
says DecimalNullablePlain = field_of Decimal no_operator true
says DecimalCopy = field_of Decimal Copy false
says DecimalNullableCopy = field_of Decimal Copy true
says DecimalDelta = field_of Decimal Delta false
says DecimalNullableDelta = field_of Decimal Delta true
says AsciiPlain = field_of Ascii no_operator false
says AsciiNullablePlain = field_of Ascii no_operator true
says AsciiDefault = field_of Ascii Default false
says AsciiNullableDefault = field_of Ascii Default true
says AsciiCopy = field_of Ascii Copy false
says AsciiNullableCopy = field_of Ascii Copy true
says AsciiTail = field_of Ascii Tail false
says AsciiNullableTail = field_of Ascii Tail true
says AsciiDelta = field_of Ascii Delta false
says AsciiNullableDelta = field_of Ascii Delta true
says UnicodePlain = field_of Unicode no_operator false
says UnicodeNullablePlain = field_of Unicode no_operator true
says UnicodeDelta = field_of Unicode Delta false
says UnicodeNullableDelta = field_of Unicode Delta true
says BytesPlain = field_of Bytes no_operator false
says BytesNullablePlain = field_of Bytes no_operator true
says BytesTail = field_of Bytes Tail false
says BytesNullableTail = field_of Bytes Tail true
says Parts = decimal_parts
says PartsDefault = changed_parts Default false
says PartsNullableDefault = changed_parts Default true
says PartsCopy = changed_parts Copy false
says PartsNullableCopy = changed_parts Copy true
says Group = group_of false
says OptionalGroup = group_of true
says Sequence = sequence_of false
says OptionalSequence = sequence_of true

-- The claim holds for the shape, with the entry.
abbrev pub IsClaimed : Claim → ℕ → Shape → Type 0
IsClaimed anything entry shape = Unit {0}
IsClaimed never entry shape = ⊥
IsClaimed (field_of kind operator optional) entry shape = IsFieldCoded kind operator optional entry shape
IsClaimed constant_field entry shape = IsConstantCoded shape
IsClaimed decimal_parts entry shape = IsPartsCoded shape
IsClaimed (changed_parts operator optional) entry shape = IsChangedPartsCoded operator optional entry shape
IsClaimed (group_of optional) entry shape = IsGroupCoded optional shape
IsClaimed (sequence_of optional) entry shape = IsSequenceCoded optional shape

-- The code with the entry suits the shape.
unfoldable pub IsCoded : Code → ℕ → Shape → Type 0
IsCoded code entry shape = IsClaimed (says code) entry shape

-- The code suits each field of the type under the operator, optional or mandatory.
abbrev pub IsCodeFor : Kind → Operator → Bool → Code → Type 0
IsCodeFor kind operator optional code = (entry : ℕ) (shape : Shape) → IsFieldCoded kind operator optional entry shape → IsCoded code entry shape

-- The code suits each decimal by this exponent and a mandatory mantissa under delta.
abbrev pub IsPartsCode : FieldInstruction → Code → Type 0
IsPartsCode exponent code =
    (entry : ℕ) (m : FieldInstruction) → m.operator ≡ Delta → m.optional ≡ false → m.entry ≡ Some entry → IsCoded code entry (by_parts exponent m)

-- The code suits each group, optional or mandatory.
abbrev pub IsGroupCode : Bool → Code → Type 0
IsGroupCode optional code = (entry : ℕ) (body : Vec ℕ Global) → IsCoded code entry (a_group optional body)

-- The code suits each sequence of this length.
abbrev pub IsSequenceCode : FieldInstruction → Code → Type 0
IsSequenceCode length code = (entry : ℕ) (body : Vec ℕ Global) → IsCoded code entry (a_sequence length body)
