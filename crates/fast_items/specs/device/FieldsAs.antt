-- Statements about all fields of a node's code: of this type, optional or mandatory, under this operator, with this entry.
use Rattle.std.specs.Prelude.{◌≡◌, ℕ, ◌<◌, Bool, true, false, List, length, Option, Some, Ok}
use Rattle.fast_value.specs.declared.kinds.Kind.{Kind}
use Rattle.fast_value.specs.meaning.Limits.{Bounds}
use Rattle.fast_tree.specs.declared.operators.Operator.{Operator}
use Rattle.fast_tree.specs.meaning.Tree.{FieldData}
use Rattle.fast_tree.specs.meaning.Entries.{keeps_value}
use Rattle.fast_dict.specs.declared.slots.Slots.{Slots}
use Rattle.fast_dict.specs.meaning.Dictionary.{previous_at}
use Rattle.fast_dict.specs.meaning.Operators.{Outcome, decide, nothing}
use Rattle.fast_dict.specs.meaning.Slots.{slots_dictionary, slots_terms}
use Rattle.fast_stream.specs.meaning.Fields.{field_term}
use Rattle.fast_stream.specs.device.Readers.{Reader}
use Rattle.fast_stream.specs.device.GrammarReaders.{reader_of}
use Rattle.fast_units.specs.device.Settling.{Serves, IsLastUnit}
pub use Rattle.fast_units.specs.device.Settling.{GivesWhole}
use Rattle.fast_units.specs.device.Deciding.{IsDecided, source_of}
use Rattle.fast_units.specs.declared.fields.Number.{Number}
use Rattle.fast_units.specs.declared.progress.Progress.TheVariants.{Whole}
use Rattle.fast_items.specs.declared.taken.TakenItem.{TakenItem}

-- A field of the type, optional or mandatory, under the operator; if that keeps a value, it has this entry.
pub record IsFieldAs (f : FieldData) (its_kind : Kind) (may_be_absent : Bool) (its_operator : Operator) (its_entry : ℕ) : Type 0 where
  pub kind : f.kind ≡ its_kind
  pub optional : f.optional ≡ may_be_absent
  pub operator : f.operator ≡ its_operator
  pub entry : keeps_value its_operator ≡ true → f.entry ≡ Some its_entry

-- If the operator keeps a value, the entry is one of the dictionary.
abbrev pub IsEntryFor : Slots → Operator → ℕ → Type 0
IsEntryFor slots operator entry = keeps_value operator ≡ true → entry < length (slots_dictionary slots)

-- the reader of the field if it is in the stream
abbrev pub reader_in : Slots → Bool → Bounds → FieldData → Reader Outcome
reader_in slots strict l f = reader_of strict (field_term l f (previous_at f.entry (slots_dictionary slots)) true)

-- Each such field that is in the stream is this item, complete in these bytes.
abbrev pub IsSentItem : Kind → Bool → Operator → ℕ → Bool → List ℕ → Slots → Slots → TakenItem → Type 0
IsSentItem kind optional operator entry strict rest old new r = (f : FieldData) (l : Bounds) (scratch : List ℕ)
    → IsFieldAs f kind optional operator entry → Serves (length (slots_dictionary old)) (slots_terms old) f
    → IsLastUnit (reader_in old strict l f) f rest (slots_dictionary old) (slots_dictionary new) scratch (Whole (source_of r.item) r.bytes)

-- Each such field that is not in the stream though it has a bit is this number, or absent.
abbrev pub IsUnsentItem : Kind → Bool → Operator → ℕ → Slots → Slots → Option Number → Type 0
IsUnsentItem kind optional operator entry old new item = (f : FieldData)
    → IsFieldAs f kind optional operator entry → Serves (length (slots_dictionary old)) (slots_terms old) f
    → IsDecided (decide f (previous_at f.entry (slots_dictionary old)) false nothing) f (slots_dictionary old) (slots_dictionary new) (Ok (source_of item))
