-- Messages that an encoder is asked for, and the dictionaries between them.
use Rattle.std.specs.Prelude.{ℕ, Some}
use Rattle.fast_value.specs.declared.kinds.Kind.TheVariants.{UInt32}
use Rattle.fast_value.specs.meaning.Kinds.{ScalarData, U}
use Rattle.fast_value.specs.meaning.Messages.{one, Slots, no_slots, absent, present, MessageData}
use Rattle.fast_dict.specs.meaning.Dictionary.{Dictionary, PreviousData, assigned, fresh, write_at}

-- a message of the template with this number, from 0
abbrev pub message : ℕ → Slots → MessageData
message n vs = record { template = n; slots = vs }

-- the slots of a template with one field
abbrev pub only : ScalarData → Slots
only v = present (one v) no_slots

-- the same where the field is absent
abbrev pub none : Slots
none = absent no_slots

-- the built-in set's dictionary before any message
abbrev pub start : Dictionary
start = fresh 13

-- the dictionary with another previous value at an entry
abbrev pub holding : ℕ → PreviousData → Dictionary → Dictionary
holding e p d = write_at (Some e) p d

-- that of a set's first message, of a template with this identifier
abbrev pub behind : ℕ → Dictionary → Dictionary
behind id d = holding 0 (assigned UInt32 (U id)) d
