-- The entries of a dictionary that grows.
use Rattle.std.specs.Prelude.{ℕ, length}
use Rattle.fast_value.specs.meaning.Kinds.{text_of}
use Rattle.fast_value.specs.meaning.Values.{value_data}
use Rattle.fast_dict.specs.meaning.Dictionary.{PreviousData, undefined, empty, assigned}
use Rattle.fast_dict.specs.declared.held.Held.{Held}
use Rattle.fast_dict.specs.declared.held.Held.TheVariants.{Undefined, Empty, Assigned}

-- the contents of an entry
abbrev pub held_data : Held → PreviousData
held_data Undefined = undefined
held_data Empty = empty
held_data (Assigned kind v) = assigned kind (value_data v)

-- the length of an entry's string, 0 if it has none
abbrev pub text_size : PreviousData → ℕ
text_size (assigned kind v) = length (text_of v)
text_size p = 0
