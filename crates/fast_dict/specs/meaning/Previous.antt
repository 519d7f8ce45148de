-- The data of the Rust type of previous values.
use Rattle.fast_value.specs.meaning.Values.{scalar_data}
use Rattle.fast_dict.specs.meaning.Dictionary.{PreviousData, undefined, empty, assigned}
use Rattle.fast_dict.specs.declared.previous.Previous.{Previous}
use Rattle.fast_dict.specs.declared.previous.Previous.TheVariants.{Undefined, Empty, Assigned}

-- a previous value as in the definition of dictionaries
abbrev pub previous_data : Previous → PreviousData
previous_data Undefined = undefined
previous_data Empty = empty
previous_data (Assigned kind v) = assigned kind (scalar_data v)
