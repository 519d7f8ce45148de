-- Dictionaries. In the code Previous is the view of the Rust enum of that name.
use Rattle.std.specs.Prelude.{ℕ, List, [], ◌∷◌, replicate, slice_index_or, slice_set, length, Option, Some, None}
use Rattle.fast_value.specs.declared.kinds.Kind.{Kind}
use Rattle.fast_value.specs.meaning.Kinds.{ScalarData}

-- the contents of an entry
-- FAST 1.1: Template Definition, Dictionaries and Previous Values.
pub data PreviousData : Type 0 where
  undefined : PreviousData
  empty : PreviousData
  assigned : Kind → ScalarData → PreviousData

-- the value that an entry holds
-- FAST 1.1: Template Definition, Dictionaries and Previous Values.
abbrev pub value_in : PreviousData → Option ScalarData
value_in undefined = None
value_in empty = None
value_in (assigned kind v) = Some v

-- A finite map from the entries to their contents: the entry's number is the index in the list.
-- FAST 1.1: Template Definition, Dictionaries and Previous Values.
abbrev pub Dictionary : Type 0
Dictionary = List PreviousData

-- all entries undefined
-- FAST 1.1: Template Definition, Dictionaries and Previous Values.
abbrev pub fresh : ℕ → Dictionary
fresh entries = replicate entries undefined

-- all entries but the identifier's undefined
-- FAST 1.1: Template Definition, Dictionaries and Previous Values.
abbrev pub reset : Dictionary → Dictionary
reset [] = []
reset (identifier ∷ others) = identifier ∷ fresh (length others)

-- The previous value that an operator reads and writes. Without an entry there is nothing to read, and nothing is written.
-- FAST 1.1: Template Definition, Dictionaries and Previous Values.
abbrev pub previous_at : Option ℕ → Dictionary → PreviousData
previous_at None d = undefined
previous_at (Some e) d = slice_index_or d e undefined

-- the dictionary with another previous value at an entry, if there is one
-- FAST 1.1: Template Definition, Dictionaries and Previous Values.
abbrev pub write_at : Option ℕ → PreviousData → Dictionary → Dictionary
write_at None p d = d
write_at (Some e) p d = slice_set d e p
