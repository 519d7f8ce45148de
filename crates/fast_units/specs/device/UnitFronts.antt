-- The units of a field, and the bytes of one that goes on.
use Rattle.std.specs.Prelude.{◌≡◌, ◌≢◌, ℕ, ◌-◌, ◌<◌, Bool, true, false, List, [], length, Ok}
use Rattle.fast_value.specs.declared.kinds.Kind.TheVariants.{Ascii}
use Rattle.fast_value.specs.meaning.Limits.{Bounds}
use Rattle.fast_tree.specs.declared.operators.Operator.TheVariants.{Constant, Delta}
use Rattle.fast_tree.specs.meaning.Tree.{FieldData}
use Rattle.fast_dict.specs.meaning.Dictionary.{PreviousData}
use Rattle.fast_dict.specs.meaning.Operators.{Kept, kept_length, subtraction_step}
use Rattle.fast_stream.specs.meaning.Phrases.{cut}
use Rattle.fast_stream.specs.meaning.Units.{ascii_text}
use Rattle.fast_stream.specs.meaning.Fields.{field_term}
use Rattle.fast_units.specs.declared.stages.Stage.{Stage}
use Rattle.fast_units.specs.declared.stages.Stage.TheVariants.{Mantissa, MantissaDelta, Vector, Part, PartVector}
use Rattle.fast_units.specs.declared.stages.FieldStep.{FieldStep}
use Rattle.fast_units.specs.declared.stages.FieldStep.TheVariants.{Settled}
use Rattle.fast_units.specs.declared.source.ValueSource.{ValueSource}
use Rattle.fast_units.specs.declared.progress.Progress.{Progress}
use Rattle.fast_units.specs.declared.progress.Progress.TheVariants.{Whole, Wrong, Cut}

-- The field is in the stream.
pub record IsSent (f : FieldData) (bit : Bool) : Type 0 where
  pub varies : f.operator ≢ Constant
  pub as_sent : (l : Bounds) (p : PreviousData) → field_term l f p bit ≡ field_term l f p true

-- The field begins with an ASCII string.
abbrev pub IsAsciiFirst : FieldData → Type 0
IsAsciiFirst f = (f.kind ≡ Ascii) × (f.operator ≢ Delta)

-- The stage reads an integer, such as a part's size.
abbrev pub IsNumberStage : FieldData → Stage → Type 0
IsNumberStage f (Mantissa e) = Unit {0}
IsNumberStage f (MantissaDelta e) = Unit {0}
IsNumberStage f (Vector n) = ⊥
IsNumberStage f (Part k) = f.kind ≢ Ascii
IsNumberStage f (PartVector k n) = ⊥

-- The stage reads a string or a run of bytes.
abbrev pub IsRunStage : FieldData → Stage → Type 0
IsRunStage f (Mantissa e) = ⊥
IsRunStage f (MantissaDelta e) = ⊥
IsRunStage f (Vector n) = Unit {0}
IsRunStage f (Part k) = f.kind ≡ Ascii
IsRunStage f (PartVector k n) = Unit {0}

-- The stage reads a string or a run of bytes that goes on after these.
abbrev pub IsBytesStage : Bounds → FieldData → PreviousData → Stage → List ℕ → Type 0
IsBytesStage l f p (Mantissa e) w = ⊥
IsBytesStage l f p (MantissaDelta e) w = ⊥
IsBytesStage l f p (Vector n) w = length w < n
IsBytesStage l f p (Part k) w = (f.kind ≡ Ascii)
    × ((kept : Kept) × (subtraction_step f p k ≡ Ok kept) × ascii_text false (l.max_text - kept_length kept) w [] cut)
IsBytesStage l f p (PartVector k n) w = length w < n

-- a unit that was the field's last
abbrev pub settled : Progress ValueSource → Progress FieldStep
settled (Whole source n) = Whole (Settled source) n
settled (Wrong c n) = Wrong c n
settled Cut = Cut
