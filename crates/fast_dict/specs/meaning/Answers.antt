-- The data of the Rust types that the operators return.
use Rattle.std.specs.Prelude.{ℕ, List, Option, Some, None, option_map, Result, Ok, Err}
use Rattle.fast_value.specs.meaning.Kinds.{ScalarData, integer_of, value_of_integer}
use Rattle.fast_value.specs.meaning.Values.{scalar_data}
use Rattle.fast_value.specs.declared.codes.Code.{Code}
use Rattle.fast_value.specs.declared.kinds.Kind.{Kind}
use Rattle.fast_value.specs.declared.values.Scalar.{Scalar}
use Rattle.fast_tree.specs.meaning.Tree.{FieldData}
use Rattle.fast_dict.specs.meaning.Dictionary.{PreviousData, undefined, empty, assigned, value_in}
use Rattle.fast_dict.specs.meaning.Operators.{◌>>=◌, Outcome, checked_text, keeps, Kept, append_to, prepend_to, incremented, range_of}
use Rattle.fast_dict.specs.meaning.Previous.{previous_data}
use Rattle.fast_dict.specs.declared.operators.Outcome.{Outcome as LentOutcome}
use Rattle.fast_dict.specs.declared.operators.unsent.Left.{Left}
use Rattle.fast_dict.specs.declared.operators.unsent.Left.TheVariants.{Absent, Emptied, Initial, Started, Copied, Increased}
use Rattle.fast_dict.specs.declared.operators.texts.Kept.{Kept as LentKept}
use Rattle.fast_dict.specs.declared.operators.texts.Kept.TheVariants.{AppendTo, PrependTo}

-- the next contents of the entry of an initial value
abbrev pub started : Kind → Option ScalarData → PreviousData → PreviousData
started kind (Some v) p = assigned kind v
started kind None p = p

-- one more than a value
abbrev pub increased : Kind → ScalarData → ScalarData
increased kind v = value_of_integer kind (incremented (range_of kind) (integer_of v))

-- an outcome as in the table of the operators
abbrev pub outcome_data : LentOutcome → Outcome
outcome_data o = record { value = option_map scalar_data o.value; next = previous_data o.next }

-- an outcome, or the fault
abbrev pub outcome_answer : Result LentOutcome Code → Result Outcome Code
outcome_answer (Ok o) = Ok (outcome_data o)
outcome_answer (Err c) = Err c

-- The outcome for a field of which no value is sent, under a previous value.
-- FAST 1.1: Template Definition, Field Operators.
abbrev pub left_data : Left → FieldData → PreviousData → Outcome
left_data Absent f p = record { value = None; next = p }
left_data Emptied f p = record { value = None; next = empty }
left_data Initial f p = record { value = f.initial; next = p }
left_data Started f p = record { value = f.initial; next = started f.kind f.initial p }
left_data Copied f p = record { value = value_in p; next = p }
left_data Increased f (assigned kind v) = record { value = Some (increased f.kind v); next = assigned f.kind (increased f.kind v) }
left_data Increased f p = record { value = None; next = p }

-- the outcome for such a field, or the fault
abbrev pub left_answer : Result Left Code → FieldData → PreviousData → Result Outcome Code
left_answer (Ok x) f p = Ok (left_data x f p)
left_answer (Err c) f p = Err c

-- a value, or the fault
abbrev pub scalar_answer : Result Scalar Code → Result ScalarData Code
scalar_answer (Ok v) = Ok (scalar_data v)
scalar_answer (Err c) = Err c

-- the bytes that a string delta keeps, as in the table of the operators
abbrev pub kept_data : LentKept → Kept
kept_data (AppendTo v) = append_to v.now
kept_data (PrependTo v) = prepend_to v.now

-- the bytes that a string delta keeps, or the fault
abbrev pub kept_answer : Result LentKept Code → Result Kept Code
kept_answer (Ok k) = Ok (kept_data k)
kept_answer (Err c) = Err c

-- a joined string as a value that the entry then holds, or the fault
abbrev pub kept_text : Kind → List ℕ → Result Outcome Code
kept_text kind text = checked_text kind text >>= keeps kind
