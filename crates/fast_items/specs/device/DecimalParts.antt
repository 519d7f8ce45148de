-- The parts of a decimal by parts: integers that are read before they are stored.
use Rattle.std.specs.Prelude.{◌≡◌, ◌⊎◌, ℕ, ◌<◌, ◌≤◌, Bool, true, false, List, length, ℤ, Option, Some, None, Ok}
use Rattle.fast_value.specs.declared.kinds.Kind.TheVariants.{Int64}
use Rattle.fast_value.specs.meaning.Limits.{Bounds}
use Rattle.fast_tree.specs.declared.instructions.FieldInstruction.{FieldInstruction}
use Rattle.fast_tree.specs.declared.operators.Operator.TheVariants.{Default, Copy, Delta}
use Rattle.fast_tree.specs.meaning.Nodes.{field_data}
use Rattle.fast_dict.specs.declared.slots.Slots.{Slots}
use Rattle.fast_dict.specs.meaning.Dictionary.{write_at}
use Rattle.fast_dict.specs.meaning.Operators.{decide, nothing}
use Rattle.fast_dict.specs.meaning.Slots.{slots_dictionary}
use Rattle.fast_units.specs.device.Deciding.{needs_bytes, source_of}
use Rattle.fast_items.specs.device.IntegerItems.{item_held}
use Rattle.fast_units.specs.device.Words.{ServesField, previous_of, sent_reader, IsLastUnitOf, IsDecidedIn}
use Rattle.fast_units.specs.declared.fields.Number.{Number}
use Rattle.fast_units.specs.declared.fields.Number.TheVariants.{Signed}
use Rattle.fast_units.specs.declared.progress.Progress.TheVariants.{Whole}

-- a part as an item
abbrev pub part_item : Option ℤ → Option Number
part_item None = None
part_item (Some x) = Some (Signed x)

-- The field's entry, if it has one, holds the part in the new dictionary.
abbrev pub KeepsPart : FieldInstruction → Slots → Slots → Option ℤ → Type 0
KeepsPart field old new x = slots_dictionary new ≡ write_at (field_data field).entry (item_held field.kind (part_item x)) (slots_dictionary old)

-- The dictionary serves the field, whose entry is unchanged since it was read.
pub record IsAsSeen (field : FieldInstruction) (seen slots : Slots) : Type 0 where
  pub serves : ServesField slots field
  pub same : previous_of slots field ≡ previous_of seen field

-- The part is in these bytes completely, and is then stored.
abbrev pub IsPartSent : FieldInstruction → Bool → List ℕ → Slots → Option ℤ → ℕ → Type 0
IsPartSent field strict rest seen x n = (old new : Slots) (l : Bounds) (scratch : List ℕ) → IsAsSeen field seen old → KeepsPart field old new x
    → IsLastUnitOf (sent_reader strict l old field) field rest old new scratch (Whole (source_of (part_item x)) n)

-- Nothing is sent of the part.
abbrev pub IsPartKnown : FieldInstruction → Bool → Slots → Option ℤ → Type 0
IsPartKnown field bit seen x = (old : Slots) → IsAsSeen field seen old
    → IsDecidedIn (decide (field_data field) (previous_of old field) bit nothing) field old old (Ok (source_of (part_item x)))

-- The part is sent, or nothing is.
abbrev pub IsPartBy : Bool → FieldInstruction → Bool → Bool → List ℕ → Slots → Option ℤ → ℕ → Type 0
IsPartBy true field bit strict rest seen x n = (0 < n) × (n ≤ length rest) × IsPartSent field strict rest seen x n
IsPartBy false field bit strict rest seen x n = (n ≡ 0) × IsPartKnown field bit seen x

abbrev pub IsPart : FieldInstruction → Bool → Bool → List ℕ → Slots → Option ℤ → ℕ → Type 0
IsPart field bit strict rest seen x n = IsPartBy (needs_bytes field.operator bit) field bit strict rest seen x n

-- An exponent that is not sent is its initial value, or the value of its entry.
abbrev pub IsUsualExponent : FieldInstruction → Type 0
IsUsualExponent field = (field.operator ≡ Default) ⊎ (field.operator ≡ Copy)

-- A mandatory mantissa under delta, with this entry.
pub record IsDeltaMantissa (field : FieldInstruction) (its_entry : ℕ) : Type 0 where
  pub kind : field.kind ≡ Int64
  pub delta : field.operator ≡ Delta
  pub mandatory : field.optional ≡ false
  pub entry : field.entry ≡ Some its_entry
