-- Changes to a dictionary as values.
use Rattle.std.specs.Prelude.{ℕ, ◌<◌, List, [], ◌∷◌, length, Some}
use Rattle.fast_value.specs.declared.kinds.Kind.{Kind}
use Rattle.fast_value.specs.meaning.Kinds.{ScalarData}
use Rattle.fast_value.specs.meaning.Values.{scalar_data}
use Rattle.fast_dict.specs.meaning.Dictionary.{Dictionary, assigned, empty, fresh, reset, write_at}
use Rattle.fast_dict.specs.meaning.Stores.{Terms, IsText, IsStorable}
use Rattle.fast_dict.specs.declared.commands.StoreCommand.{StoreCommand}
use Rattle.fast_dict.specs.declared.commands.StoreCommand.TheVariants.{Set, SetEmpty, Reset, ResetAll}

-- a change: a value or absence stored at an entry, or a reset of all entries but the identifier's, or of all
pub data CommandData : Type 0 where
  assign : ℕ → Kind → ScalarData → CommandData
  make_empty : ℕ → CommandData
  reset_others : CommandData
  reset_every : CommandData

-- the data of the Rust type
abbrev pub command_data : StoreCommand → CommandData
command_data (Set entry kind v) = assign entry kind (scalar_data v)
command_data (SetEmpty entry) = make_empty entry
command_data Reset = reset_others
command_data ResetAll = reset_every

-- the change meets the conditions of its call, at a store of this number of entries
abbrev pub IsRunnable : Terms → ℕ → CommandData → Type 0
IsRunnable t entries (assign entry kind v) = (entry < entries) × IsStorable t entry v
IsRunnable t entries (make_empty entry) = entry < entries
IsRunnable t entries reset_others = Unit {0}
IsRunnable t entries reset_every = Unit {0}

-- the change is the assignment of a string
abbrev pub SetsText : CommandData → Type 0
SetsText (assign entry kind v) = IsText v
SetsText c = ⊥

-- the dictionary after a change
abbrev pub after : CommandData → Dictionary → Dictionary
after (assign entry kind v) d = write_at (Some entry) (assigned kind v) d
after (make_empty entry) d = write_at (Some entry) empty d
after reset_others d = reset d
after reset_every d = fresh (length d)

-- the dictionary after changes in order
abbrev pub after_all : List CommandData → Dictionary → Dictionary
after_all [] d = d
after_all (c ∷ cs) d = after_all cs (after c d)
