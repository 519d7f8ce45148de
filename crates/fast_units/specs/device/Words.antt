-- Abbreviations for clauses on fields: of a dictionary in memory, and of an instruction.
use Rattle.std.specs.Prelude.{◌≡◌, ℕ, ◌<◌, ◌≤◌, Bool, true, List, length, Some, Result}
use Rattle.fast_value.specs.declared.codes.Code.{Code}
use Rattle.fast_value.specs.meaning.Limits.{Bounds}
use Rattle.fast_value.specs.declared.settings.Limits.{Limits}
use Rattle.fast_tree.specs.declared.instructions.FieldInstruction.{FieldInstruction}
use Rattle.fast_tree.specs.meaning.Nodes.{field_data}
use Rattle.fast_dict.specs.meaning.Dictionary.{PreviousData, previous_at}
use Rattle.fast_dict.specs.meaning.Operators.{Outcome}
use Rattle.fast_dict.specs.declared.slots.Slots.{Slots}
use Rattle.fast_dict.specs.meaning.Slots.{slots_dictionary, slots_terms}
use Rattle.fast_stream.specs.meaning.Fields.{field_term}
use Rattle.fast_stream.specs.device.Readers.{Reader}
use Rattle.fast_stream.specs.device.GrammarReaders.{reader_of}
use Rattle.fast_units.specs.device.Scratches.{Held}
use Rattle.fast_units.specs.device.Settling.{Serves, IsLastUnit}
use Rattle.fast_units.specs.device.Stages.{IsFieldUnit}
use Rattle.fast_units.specs.device.Deciding.{IsDecided}
use Rattle.fast_units.specs.declared.source.ValueSource.{ValueSource}
use Rattle.fast_units.specs.declared.stages.FieldStep.{FieldStep}
use Rattle.fast_units.specs.declared.progress.Progress.{Progress}

-- The dictionary serves the field.
abbrev pub ServesField : Slots → FieldInstruction → Type 0
ServesField slots field = Serves (length (slots_dictionary slots)) (slots_terms slots) (field_data field)

-- The field's entry, if it has one, is one of the dictionary.
abbrev pub HasEntryOf : Slots → FieldInstruction → Type 0
HasEntryOf slots field = (e : ℕ) → (field_data field).entry ≡ Some e → e < length (slots_dictionary slots)

-- the contents of the field's entry
abbrev pub previous_of : Slots → FieldInstruction → PreviousData
previous_of slots field = previous_at (field_data field).entry (slots_dictionary slots)

-- the reader of the field if it is in the stream
abbrev pub sent_reader : Bool → Bounds → Slots → FieldInstruction → Reader Outcome
sent_reader strict l slots field = reader_of strict (field_term l (field_data field) (previous_of slots field) true)

-- The result of the bytes as the field's last unit.
abbrev pub IsLastUnitOf : Reader Outcome → FieldInstruction → List ℕ → Slots → Slots → List ℕ → Progress ValueSource → Type 0
IsLastUnitOf r field rest old new scratch p = IsLastUnit r (field_data field) rest (slots_dictionary old) (slots_dictionary new) scratch p

-- The result of the bytes as a unit of the field.
abbrev pub IsUnitOf : Limits → Reader Outcome → FieldInstruction → List ℕ → Slots → Slots → List ℕ → Progress FieldStep → Type 0
IsUnitOf l r field rest old new scratch p = IsFieldUnit l r (field_data field) rest (slots_dictionary old) (slots_dictionary new) scratch p

-- This is decided for the field, in its dictionary.
abbrev pub IsDecidedIn : Result Outcome Code → FieldInstruction → Slots → Slots → Result ValueSource Code → Type 0
IsDecidedIn decided field old new result = IsDecided decided (field_data field) (slots_dictionary old) (slots_dictionary new) result

-- The dictionary holds strings within the limit, which is no less than the least that is allowed.
abbrev pub HasTextLimit : Slots → Limits → Type 0
HasTextLimit slots limits = ((slots_terms slots).max_text ≡ limits.max_text) × (16 ≤ limits.max_text)

-- There is room for each string that the dictionary can hold.
abbrev pub HasRoomFor : Slots → Held → Type 0
HasRoomFor slots scratch = (slots_terms slots).max_text ≤ scratch.capacity
