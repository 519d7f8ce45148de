-- Statements about all string fields of a node's code.
use Rattle.std.specs.Prelude.{◌≡◌, ℕ, ◌-◌, ◌<◌, ◌≤◌, Bool, true, List, length, take, drop, ℤ, Some, Ok}
use Rattle.fast_value.specs.declared.kinds.Kind.{Kind}
use Rattle.fast_value.specs.declared.settings.Limits.{Limits}
use Rattle.fast_value.specs.meaning.Kinds.{value_of_text}
use Rattle.fast_value.specs.meaning.Limits.{Bounds, bounds}
use Rattle.fast_tree.specs.declared.operators.Operator.{Operator}
use Rattle.fast_tree.specs.declared.operators.Operator.TheVariants.{Delta}
use Rattle.fast_tree.specs.meaning.Tree.{FieldData}
use Rattle.fast_dict.specs.declared.slots.Slots.{Slots}
use Rattle.fast_dict.specs.meaning.Dictionary.{Dictionary, PreviousData, assigned, previous_at, write_at}
use Rattle.fast_dict.specs.meaning.Operators.{checked_text, Kept, kept_of, kept_length, joined, with_tail}
use Rattle.fast_dict.specs.meaning.Slots.{slots_dictionary, slots_terms}
use Rattle.fast_stream.specs.device.GrammarReaders.{reader_of}
use Rattle.fast_stream.specs.meaning.Fields.{field_term}
use Rattle.fast_units.specs.device.Settling.{Serves, GivesField}
use Rattle.fast_units.specs.device.Stages.{IsStageOf, term_behind}
use Rattle.fast_items.specs.device.FieldsAs.{IsFieldAs, reader_in, GivesWhole}
use Rattle.fast_units.specs.device.Taking.{Turns}
use Rattle.fast_units.specs.device.UnitFronts.{IsBytesStage}
use Rattle.fast_items.specs.declared.taken.BegunText.{BegunText}
use Rattle.fast_items.specs.declared.taken.TakenText.{TakenText}
use Rattle.fast_units.specs.declared.source.ValueSource.{ValueSource}
use Rattle.fast_units.specs.declared.source.ValueSource.TheVariants as From
use Rattle.fast_units.specs.declared.stages.Stage.{Stage}
use Rattle.fast_units.specs.declared.stages.Stage.TheVariants.{Part}

-- Each such field that is in the stream is this string, or NULL, complete in these bytes.
abbrev pub IsWholeText : Kind → Bool → Operator → ℕ → Bool → Limits → List ℕ → Slots → Slots → TakenText → Type 0
IsWholeText kind optional operator entry strict limits rest old new r = (f : FieldData) (scratch : List ℕ)
    → IsFieldAs f kind optional operator entry → Serves (length (slots_dictionary old)) (slots_terms old) f
    → GivesWhole (reader_in old strict (bounds limits) f) f rest (slots_dictionary old) (slots_dictionary new) scratch r.source r.from r.bytes

-- The entry held a string of the type; the part is joined to the bytes that the subtraction length keeps of it, and the entry holds the
-- result.
pub record IsJoined (kind : Kind) (entry : ℕ) (subtraction : ℤ) (part : List ℕ) (room : ℕ) (old new : Dictionary) : Type 0 where
  pub base : List ℕ
  pub held : previous_at (Some entry) old ≡ assigned kind (value_of_text kind base)
  pub kept : Kept
  pub keeps : kept_of base subtraction ≡ Ok kept
  pub fits : length part ≤ room - kept_length kept
  pub checked : checked_text kind (joined kept part) ≡ Ok (value_of_text kind (joined kept part))
  pub becomes : new ≡ write_at (Some entry) (assigned kind (value_of_text kind (joined kept part))) old

-- The entry holds a string of the type, and there is room for this number of bytes beside those that the subtraction length keeps of it.
pub record LeavesRoom (kind : Kind) (entry : ℕ) (subtraction : ℤ) (room left : ℕ) (d : Dictionary) : Type 0 where
  pub base : List ℕ
  pub held : previous_at (Some entry) d ≡ assigned kind (value_of_text kind base)
  pub kept : Kept
  pub keeps : kept_of base subtraction ≡ Ok kept
  pub leaves : left ≡ room - kept_length kept

-- The entry held a string of the type; the tail replaces its end, and the entry holds the result.
pub record IsTailed (kind : Kind) (entry : ℕ) (part : List ℕ) (old new : Dictionary) : Type 0 where
  pub base : List ℕ
  pub held : previous_at (Some entry) old ≡ assigned kind (value_of_text kind base)
  pub checked : checked_text kind (with_tail base part) ≡ Ok (value_of_text kind (with_tail base part))
  pub becomes : new ≡ write_at (Some entry) (assigned kind (value_of_text kind (with_tail base part))) old

-- Each such field that is a delta of which the subtraction length has been read is complete after this number of bytes, and its entry holds
-- the string.
abbrev pub IsSentPart : Kind → ℕ → ℤ → Bool → Limits → List ℕ → Slots → Slots → ℕ → Type 0
IsSentPart kind entry subtraction strict limits rest old new n = (f : FieldData) (optional : Bool) (scratch piece : List ℕ)
    → IsFieldAs f kind optional Delta entry → Serves (length (slots_dictionary old)) (slots_terms old) f
    → GivesField (reader_of strict (term_behind (bounds limits) f (previous_at f.entry (slots_dictionary old)) (Part subtraction))) (take n rest) f From.Entry
    (slots_dictionary old) (slots_dictionary new) scratch piece

-- A string is borrowed from the piece, or there is none.
abbrev pub IsLentSource : ValueSource → Type 0
IsLentSource From.Absent = Unit {0}
IsLentSource From.Piece = Unit {0}
IsLentSource source = ⊥

-- A string is at the entry that keeps it, or there is none.
abbrev pub IsKeptSource : ValueSource → Type 0
IsKeptSource From.Absent = Unit {0}
IsKeptSource From.Entry = Unit {0}
IsKeptSource source = ⊥

-- The field is in the stream, and its units before this stage are complete in the first of the bytes. The others belong to the stage.
pub record HasBegun (strict : Bool) (l : Bounds) (f : FieldData) (p : PreviousData) (rest : List ℕ) (its_stage : Stage) (from : ℕ) : Type 0 where
  pub some : 0 < from
  pub within : from ≤ length rest
  pub stage : IsStageOf l f p its_stage
  pub bytes : IsBytesStage l f p its_stage (drop from rest)
  pub turns : Turns (reader_of strict (field_term l f p true)) (take from rest) (reader_of strict (term_behind l f p its_stage))

-- Each such field that is in the stream begins in this way in these bytes.
abbrev pub IsBegunText : Kind → Bool → Operator → ℕ → Bool → ℕ → List ℕ → Slots → BegunText → Type 0
IsBegunText kind optional operator entry strict room rest slots r = (f : FieldData) (l : Bounds) → l.max_text ≡ room
    → IsFieldAs f kind optional operator entry → Serves (length (slots_dictionary slots)) (slots_terms slots) f
    → HasBegun strict l f (previous_at f.entry (slots_dictionary slots)) rest r.stage r.from
