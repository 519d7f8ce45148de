-- The units of a field after its first one.
use Rattle.std.specs.Prelude.{◌≡◌, ◌≢◌, ℕ, ◌-◌, ◌<◌, ◌≤◌, List, length, take, Ok}
use Rattle.fast_value.specs.declared.kinds.Kind.TheVariants.{Ascii}
use Rattle.fast_value.specs.declared.settings.Limits.{Limits}
use Rattle.fast_value.specs.meaning.Limits.{Bounds, bounds}
use Rattle.fast_value.specs.meaning.Kinds.{decimals, texts, family}
use Rattle.fast_tree.specs.declared.operators.Operator.TheVariants.{Delta, Constant}
use Rattle.fast_tree.specs.meaning.Tree.{FieldData}
use Rattle.fast_dict.specs.meaning.Dictionary.{Dictionary, PreviousData, previous_at}
use Rattle.fast_dict.specs.meaning.Operators.{Outcome, Kept, kept_length, subtraction_step}
use Rattle.fast_stream.specs.meaning.Grammar.{Grammar, ◌>>=◌, of_result}
use Rattle.fast_stream.specs.device.Readers.{Reader, Stop}
use Rattle.fast_stream.specs.device.GrammarReaders.{reader_of}
use Rattle.fast_stream.specs.device.Machine.{behind_size, behind_exponent, behind_exponent_delta, behind_kept, behind_part_size, stage_term}
use Rattle.fast_units.specs.device.Taking.{Turns, Stays}
use Rattle.fast_units.specs.device.Settling.{GivesField}
use Rattle.fast_units.specs.declared.stages.Stage.{Stage}
use Rattle.fast_units.specs.declared.stages.Stage.TheVariants.{Mantissa, MantissaDelta, Vector, Part, PartVector}
use Rattle.fast_units.specs.declared.stages.FieldStep.{FieldStep}
use Rattle.fast_units.specs.declared.stages.FieldStep.TheVariants.{Settled, Next}
use Rattle.fast_units.specs.declared.progress.Progress.{Progress}
use Rattle.fast_units.specs.declared.progress.Progress.TheVariants.{Whole, Wrong, Cut}

-- The field from this unit on. The bytes that a subtraction length keeps are found again from the previous value, which is unchanged.
abbrev pub term_behind : Bounds → FieldData → PreviousData → Stage → Grammar Outcome
term_behind l f p (Mantissa e) = stage_term l f p (behind_exponent e)
term_behind l f p (MantissaDelta e) = stage_term l f p (behind_exponent_delta e)
term_behind l f p (Vector n) = stage_term l f p (behind_size n)
term_behind l f p (Part k) = of_result (subtraction_step f p k) >>= (λ kept. stage_term l f p (behind_kept kept))
term_behind l f p (PartVector k n) = of_result (subtraction_step f p k) >>= (λ kept. stage_term l f p (behind_part_size kept n))

-- The stage is one of the field, and there is room for the bytes that it reads; a run of bytes has some.
abbrev pub IsStageOf : Bounds → FieldData → PreviousData → Stage → Type 0
IsStageOf l f p (Mantissa e) = (family f.kind ≡ decimals) × (f.operator ≢ Delta) × (f.operator ≢ Constant)
IsStageOf l f p (MantissaDelta e) = (family f.kind ≡ decimals) × (f.operator ≡ Delta)
IsStageOf l f p (Vector n) = (family f.kind ≡ texts) × (f.kind ≢ Ascii) × (f.operator ≢ Delta) × (f.operator ≢ Constant) × (n ≤ l.max_text)
    × (0 < n)
IsStageOf l f p (Part k) = (family f.kind ≡ texts) × (f.operator ≡ Delta) × ((kept : Kept) × (subtraction_step f p k ≡ Ok kept))
IsStageOf l f p (PartVector k n) = (family f.kind ≡ texts) × (f.kind ≢ Ascii) × (f.operator ≡ Delta) × (0 < n)
    × ((kept : Kept) × (subtraction_step f p k ≡ Ok kept) × (n ≤ l.max_text - kept_length kept))

-- The result of the bytes as a unit of a field, by the reader of this unit and the rest.
abbrev pub IsFieldUnit : Limits → Reader Outcome → FieldData → List ℕ → Dictionary → Dictionary → List ℕ → Progress FieldStep → Type 0
IsFieldUnit l r f rest old new scratch (Whole (Settled source) n) = (0 < n) × (n ≤ length rest)
    × GivesField r (take n rest) f source old new scratch (take n rest)
IsFieldUnit l r f rest old new scratch (Whole (Next stage) n) = (0 < n) × (n ≤ length rest) × (new ≡ old)
    × IsStageOf (bounds l) f (previous_at f.entry old) stage
    × Turns r (take n rest) (reader_of l.strict (term_behind (bounds l) f (previous_at f.entry old) stage))
IsFieldUnit l r f rest old new scratch (Wrong c n) = (0 < n) × (n ≤ length rest) × Turns r (take n rest) (Stop c)
IsFieldUnit l r f rest old new scratch Cut = Stays r rest × (new ≡ old)
