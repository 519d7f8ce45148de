-- The result of a string field by the functions of the operators, after its units.
use Rattle.std.specs.Prelude.{◌≡◌, ℕ, ◌-◌, true, List, ℤ, Option, Result, Ok, Err}
use Rattle.fast_value.specs.declared.codes.Code.{Code}
use Rattle.fast_value.specs.declared.settings.Limits.{Limits}
use Rattle.fast_value.specs.meaning.Limits.{Bounds, bounds}
use Rattle.fast_tree.specs.meaning.Tree.{FieldData}
use Rattle.fast_dict.specs.meaning.Dictionary.{Dictionary, PreviousData, previous_at}
use Rattle.fast_dict.specs.meaning.Operators.{Outcome, Kept, kept_length, decide}
use Rattle.fast_stream.specs.meaning.Grammar.{Grammar, give, ◌>>=◌, of_result}
use Rattle.fast_stream.specs.meaning.Fields.{sized, sent_text, part_change, field_term}
use Rattle.fast_stream.specs.device.Readers.{Reader, Done, Stop}
use Rattle.fast_stream.specs.device.GrammarReaders.{reader_of}
use Rattle.fast_units.specs.device.Settling.{IsSettled}
use Rattle.fast_units.specs.device.Stages.{term_behind, IsStageOf}
use Rattle.fast_units.specs.declared.source.ValueSource.{ValueSource}
use Rattle.fast_units.specs.declared.stages.Stage.{Stage}
use Rattle.fast_units.specs.declared.stages.FieldStep.{FieldStep}
use Rattle.fast_units.specs.declared.stages.FieldStep.TheVariants.{Settled, Next}

-- The outcome of the operator is settled, or it is a fault.
abbrev pub IsTextDecided : Result Outcome Code → FieldData → Dictionary → Dictionary → List ℕ → List ℕ → Result ValueSource Code → Type 0
IsTextDecided d f old new scratch piece (Ok source) = (o : Outcome) × (d ≡ Ok o) × IsSettled o f source old new scratch piece
IsTextDecided d f old new scratch piece (Err c) = d ≡ Err c

-- After a unit the field is complete and settled, or another unit follows, or it is a fault.
abbrev pub IsStepped : Limits → Reader Outcome → FieldData → Dictionary → Dictionary → List ℕ → List ℕ → Result FieldStep Code → Type 0
IsStepped l r f old new scratch piece (Ok (Settled source)) = (o : Outcome) × (r ≡ Done o) × IsSettled o f source old new scratch piece
IsStepped l r f old new scratch piece (Ok (Next stage)) = (new ≡ old) × IsStageOf (bounds l) f (previous_at f.entry old) stage
    × (r ≡ reader_of l.strict (term_behind (bounds l) f (previous_at f.entry old) stage))
IsStepped l r f old new scratch piece (Err c) = r ≡ Stop c

-- The reader of a field from its first unit on, and from a later one on.
abbrev pub first_reader : Limits → FieldData → Dictionary → Reader Outcome
first_reader l f d = reader_of l.strict (field_term (bounds l) f (previous_at f.entry d) true)

abbrev pub reader_behind : Limits → FieldData → Dictionary → Stage → Reader Outcome
reader_behind l f d stage = reader_of l.strict (term_behind (bounds l) f (previous_at f.entry d) stage)

-- The rest of a field after the size of a vector, or NULL, and after that of a part.
abbrev pub behind_size : Bounds → FieldData → PreviousData → Option ℤ → Grammar Outcome
behind_size l f p size = (sized l.max_text size >>= (λ v. give (sent_text f.kind v))) >>= (λ x. of_result (decide f p true x))

abbrev pub behind_part_size : Bounds → FieldData → PreviousData → Kept → Option ℤ → Grammar Outcome
behind_part_size l f p kept size = sized (l.max_text - kept_length kept) size >>= part_change f p kept

-- the result of a field's last unit as that of any unit
abbrev pub settled : Result ValueSource Code → Result FieldStep Code
settled (Ok source) = Ok (Settled source)
settled (Err c) = Err c
