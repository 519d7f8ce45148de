-- The data of the Rust types of values, borrowed or owned.
use Rattle.fast_value.specs.meaning.Kinds.{ScalarData, U, I, Dec, AsciiText, UnicodeText, ByteVector}
use Rattle.fast_value.specs.declared.values.Scalar.{Scalar}
use Rattle.fast_value.specs.declared.values.Scalar.TheVariants as Lent
use Rattle.fast_value.specs.declared.values.Value.{Value}
use Rattle.fast_value.specs.declared.values.Value.TheVariants as Owned

-- the data of a borrowed value
abbrev pub scalar_data : Scalar → ScalarData
scalar_data (Lent.U n) = U n
scalar_data (Lent.I x) = I x
scalar_data (Lent.Dec e m) = Dec e m
scalar_data (Lent.Ascii v) = AsciiText v.now
scalar_data (Lent.Unicode v) = UnicodeText v.now
scalar_data (Lent.Bytes v) = ByteVector v.now

-- the data of an owned value
abbrev pub value_data : Value → ScalarData
value_data (Owned.U n) = U n
value_data (Owned.I x) = I x
value_data (Owned.Dec e m) = Dec e m
value_data (Owned.Ascii v) = AsciiText v.items
value_data (Owned.Unicode v) = UnicodeText v.items
value_data (Owned.Bytes v) = ByteVector v.items
