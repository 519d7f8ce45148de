-- Integers, decimals and texts among the values, integers among the types, and operators that use their entry.
use Rattle.fast_value.specs.declared.kinds.Kind.{Kind}
use Rattle.fast_value.specs.declared.kinds.Kind.TheVariants.{UInt32, Int32, UInt64, Int64}
use Rattle.fast_tree.specs.declared.operators.Operator.{Operator}
use Rattle.fast_tree.specs.declared.operators.Operator.TheVariants.{Copy, Increment, Tail}
use Rattle.fast_value.specs.meaning.Kinds.{ScalarData, U, I, Dec, AsciiText, UnicodeText, ByteVector}

-- the value is an integer
abbrev pub IsNumber : ScalarData → Type 0
IsNumber (U n) = Unit {0}
IsNumber (I x) = Unit {0}
IsNumber v = ⊥

-- the value is a decimal
abbrev pub IsDecimal : ScalarData → Type 0
IsDecimal (Dec e m) = Unit {0}
IsDecimal v = ⊥

-- the value is a text
abbrev pub IsText : ScalarData → Type 0
IsText (AsciiText t) = Unit {0}
IsText (UnicodeText t) = Unit {0}
IsText (ByteVector t) = Unit {0}
IsText v = ⊥

-- the type is one of integers
abbrev pub IsOfNumbers : Kind → Type 0
IsOfNumbers UInt32 = Unit {0}
IsOfNumbers Int32 = Unit {0}
IsOfNumbers UInt64 = Unit {0}
IsOfNumbers Int64 = Unit {0}
IsOfNumbers kind = ⊥

-- without a presence bit that is set, the operator takes the value from the entry
abbrev pub IsFromEntry : Operator → Type 0
IsFromEntry Copy = Unit {0}
IsFromEntry Increment = Unit {0}
IsFromEntry Tail = Unit {0}
IsFromEntry operator = ⊥
