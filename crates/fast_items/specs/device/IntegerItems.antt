-- The contents of an entry after an integer field, by the item that is sent or left.
use Rattle.std.specs.Prelude.{◌≡◌, ℕ, Bool, false, length, ℤ, Option, Some, None, Ok}
use Rattle.fast_value.specs.declared.kinds.Kind.{Kind}
use Rattle.fast_tree.specs.declared.operators.Operator.{Operator}
use Rattle.fast_tree.specs.declared.operators.Operator.TheVariants.{Default}
use Rattle.fast_tree.specs.meaning.Tree.{FieldData}
use Rattle.fast_dict.specs.declared.slots.Slots.{Slots}
use Rattle.fast_dict.specs.meaning.Dictionary.{Dictionary, PreviousData, empty, assigned, previous_at, write_at}
use Rattle.fast_dict.specs.meaning.Operators.{decide, integer_step, nothing}
use Rattle.fast_dict.specs.meaning.Slots.{slots_dictionary, slots_terms}
use Rattle.fast_dict.specs.meaning.Stores.{Terms}
use Rattle.fast_items.specs.device.FieldsAs.{IsFieldAs}
use Rattle.fast_units.specs.device.Settling.{Serves}
use Rattle.fast_units.specs.device.Deciding.{IsDecided, number_data, source_of}
use Rattle.fast_units.specs.declared.fields.Number.{Number}

-- the contents of an entry of the type after the item: a number, or no value
abbrev pub item_held : Kind → Option Number → PreviousData
item_held kind None = empty
item_held kind (Some n) = assigned kind (number_data n)

-- Each such field holds the item in the new dictionary, if it has an entry.
abbrev pub KeepsItem : Kind → Operator → ℕ → Slots → Slots → Option Number → Type 0
KeepsItem kind operator entry old new item = (f : FieldData) (optional : Bool) → IsFieldAs f kind optional operator entry
    → Serves (length (slots_dictionary old)) (slots_terms old) f
    → slots_dictionary new ≡ write_at f.entry (item_held kind item) (slots_dictionary old)

-- Each field of the type with this entry is the number after the delta.
abbrev pub IsBehindDelta : Kind → ℕ → ℤ → Slots → Slots → Number → Type 0
IsBehindDelta kind entry delta old new n = (f : FieldData) → f.kind ≡ kind → f.entry ≡ Some entry
    → IsDecided (integer_step f (previous_at f.entry (slots_dictionary old)) delta) f (slots_dictionary old) (slots_dictionary new) (Ok (source_of (Some n)))

-- The field under default, of which nothing is sent, is this number, or absent, for each dictionary that serves it.
abbrev pub IsDefaultItem : FieldData → Option Number → Type 0
IsDefaultItem f item = (d : Dictionary) (terms : Terms) → f.operator ≡ Default → Serves (length d) terms f
    → IsDecided (decide f (previous_at f.entry d) false nothing) f d d (Ok (source_of item))
