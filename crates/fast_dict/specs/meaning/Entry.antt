-- The entries of a block store.
use Rattle.std.specs.Prelude.{ℕ, List}
use Rattle.fast_value.specs.declared.kinds.Kind.TheVariants as K
use Rattle.fast_value.specs.meaning.Kinds.{U, I, Dec, AsciiText, UnicodeText, ByteVector}
use Rattle.fast_dict.specs.meaning.Dictionary.{PreviousData, undefined, empty, assigned}
use Rattle.fast_dict.specs.declared.entry.Entry.{Entry}
use Rattle.fast_dict.specs.declared.entry.Entry.TheVariants.{Undefined, Empty, UInt32, Int32, UInt64, Int64, Decimal, Ascii, Unicode, Bytes}
use Rattle.fast_dict.specs.declared.entry.Entry.TheVariants.{OtherUnsigned, OtherSigned, OtherDecimal, OtherAscii, OtherUnicode, OtherBytes}

-- the contents of an entry, with the string in its slot
abbrev pub with_text : Entry → List ℕ → PreviousData
with_text Undefined v = undefined
with_text Empty v = empty
with_text (UInt32 n) v = assigned K.UInt32 (U n)
with_text (Int32 x) v = assigned K.Int32 (I x)
with_text (UInt64 n) v = assigned K.UInt64 (U n)
with_text (Int64 x) v = assigned K.Int64 (I x)
with_text (Decimal e m) v = assigned K.Decimal (Dec e m)
with_text (Ascii size) v = assigned K.Ascii (AsciiText v)
with_text (Unicode size) v = assigned K.Unicode (UnicodeText v)
with_text (Bytes size) v = assigned K.Bytes (ByteVector v)
with_text (OtherUnsigned kind n) v = assigned kind (U n)
with_text (OtherSigned kind x) v = assigned kind (I x)
with_text (OtherDecimal kind e m) v = assigned kind (Dec e m)
with_text (OtherAscii kind size) v = assigned kind (AsciiText v)
with_text (OtherUnicode kind size) v = assigned kind (UnicodeText v)
with_text (OtherBytes kind size) v = assigned kind (ByteVector v)

-- the length of an entry's string, 0 if it has none
abbrev pub text_length : Entry → ℕ
text_length (Ascii size) = size
text_length (Unicode size) = size
text_length (Bytes size) = size
text_length (OtherAscii kind size) = size
text_length (OtherUnicode kind size) = size
text_length (OtherBytes kind size) = size
text_length entry = 0
