-- Types, which are those of the Rust enum `Kind`, and the data of values.
use Rattle.std.specs.Prelude.{ℕ, ◌<◌, ◌≤◌, ◌^◌, Bool, true, false, List, [], length, All, IsUtf8, ℤ, pos}
use Rattle.fast_value.specs.declared.settings.Limits.{Limits}
use Rattle.fast_value.specs.declared.kinds.Kind.{Kind}
use Rattle.fast_value.specs.declared.kinds.Kind.TheVariants.{UInt32, Int32, UInt64, Int64, Decimal, Ascii, Unicode, Bytes}
pub use Rattle.fast_wire.specs.meaning.Integers.{Range, unsigned_range, signed_range, exponent_range, delta_range, IsWithin}

-- The data of a value, borrowed or owned. A decimal has its exponent first.
-- FAST 1.1: Template Definition, Primitive Field Types.
pub data ScalarData : Type 0 where
  U : ℕ → ScalarData
  I : ℤ → ScalarData
  Dec : ℤ → ℤ → ScalarData
  AsciiText : List ℕ → ScalarData
  UnicodeText : List ℕ → ScalarData
  ByteVector : List ℕ → ScalarData

-- The families of types that the operators distinguish: four integer types, decimals, and three string types: ASCII, Unicode and byte
-- vectors.
pub data Family : Type 0 where
  integers : Range → Family
  decimals : Family
  texts : Family

-- the family of a type
-- FAST 1.1: Template Definition, Primitive Field Types.
abbrev pub family : Kind → Family
family UInt32 = integers (unsigned_range 32)
family Int32 = integers (signed_range 31)
family UInt64 = integers (unsigned_range 64)
family Int64 = integers (signed_range 63)
family Decimal = decimals
family Ascii = texts
family Unicode = texts
family Bytes = texts

-- an integer as a value of an integer type
-- FAST 1.1: Template Definition, Primitive Field Types.
abbrev pub value_of_integer : Kind → ℤ → ScalarData
value_of_integer UInt32 (pos n) = U n
value_of_integer UInt64 (pos n) = U n
value_of_integer kind x = I x

-- a string as a value of a string type
-- FAST 1.1: Template Definition, Primitive Field Types.
abbrev pub value_of_text : Kind → List ℕ → ScalarData
value_of_text Unicode v = UnicodeText v
value_of_text Bytes v = ByteVector v
value_of_text kind v = AsciiText v

-- the integer of a value, 0 if it has none
abbrev pub integer_of : ScalarData → ℤ
integer_of (U n) = pos n
integer_of (I x) = x
integer_of v = pos 0

-- the string of a value, empty if it has none
abbrev pub text_of : ScalarData → List ℕ
text_of (AsciiText v) = v
text_of (UnicodeText v) = v
text_of (ByteVector v) = v
text_of v = []

-- the exponent of a decimal
abbrev pub exponent_of : ScalarData → ℤ
exponent_of (Dec e m) = e
exponent_of v = pos 0

-- the mantissa of a decimal
abbrev pub mantissa_of : ScalarData → ℤ
mantissa_of (Dec e m) = m
mantissa_of v = pos 0

-- The value is one of the type: in its range, a string no longer than `max_text`, ASCII below 128, Unicode in UTF-8.
-- FAST 1.1: Template Definition, Primitive Field Types.
abbrev pub IsOfKind : Limits → Kind → ScalarData → Type 0
IsOfKind l UInt32 (U n) = n < 2 ^ 32
IsOfKind l UInt64 (U n) = n < 2 ^ 64
IsOfKind l Int32 (I x) = IsWithin (signed_range 31) x
IsOfKind l Int64 (I x) = IsWithin (signed_range 63) x
IsOfKind l Decimal (Dec e m) = IsWithin exponent_range e × IsWithin (signed_range 63) m
IsOfKind l Ascii (AsciiText v) = (length v ≤ l.max_text) × All (λ c. c < 128) v
IsOfKind l Unicode (UnicodeText v) = (length v ≤ l.max_text) × IsUtf8 v
IsOfKind l Bytes (ByteVector v) = length v ≤ l.max_text
IsOfKind l kind v = ⊥

-- the two types are the same
abbrev pub same_kind : Kind → Kind → Bool
same_kind UInt32 UInt32 = true
same_kind Int32 Int32 = true
same_kind UInt64 UInt64 = true
same_kind Int64 Int64 = true
same_kind Decimal Decimal = true
same_kind Ascii Ascii = true
same_kind Unicode Unicode = true
same_kind Bytes Bytes = true
same_kind k l = false
