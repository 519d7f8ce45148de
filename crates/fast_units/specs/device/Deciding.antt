-- The outcomes of fields by the operators, and the sources of their values.
use Rattle.std.specs.Prelude.{◌≡◌, ℕ, Bool, true, false, List, ℤ, Option, Some, None, Result, Ok, Err}
use Rattle.fast_value.specs.declared.codes.Code.{Code}
use Rattle.fast_value.specs.meaning.Kinds.{ScalarData, U, I, Dec, integer_of}
use Rattle.fast_tree.specs.declared.operators.Operator.{Operator}
use Rattle.fast_tree.specs.declared.operators.Operator.TheVariants.{None as no_operator, Constant, Delta}
use Rattle.fast_tree.specs.meaning.Tree.{FieldData}
use Rattle.fast_dict.specs.meaning.Dictionary.{Dictionary, PreviousData}
use Rattle.fast_dict.specs.meaning.Operators.{Outcome, ◌>>=◌, Sent, null, value, delta_base}
use Rattle.fast_units.specs.device.Settling.{IsSettled}
use Rattle.fast_units.specs.declared.source.ValueSource.{ValueSource}
use Rattle.fast_units.specs.declared.source.ValueSource.TheVariants as From
use Rattle.fast_units.specs.declared.progress.Progress.{Progress}
use Rattle.fast_units.specs.declared.progress.Progress.TheVariants.{Whole, Wrong}
use Rattle.fast_units.specs.declared.fields.Number.{Number}
use Rattle.fast_units.specs.declared.fields.Number.TheVariants as As

-- whether a field has bytes in the stream
abbrev pub needs_bytes : Operator → Bool → Bool
needs_bytes no_operator bit = true
needs_bytes Delta bit = true
needs_bytes Constant bit = false
needs_bytes operator bit = bit

-- a number as a value
abbrev pub number_data : Number → ScalarData
number_data (As.Unsigned n) = U n
number_data (As.Signed x) = I x
number_data (As.Decimal e m) = Dec e m

-- a number, or NULL, as it is sent
abbrev pub sent_number : Option Number → Sent
sent_number None = null
sent_number (Some n) = value (number_data n)

-- the source of a number, or of NULL
abbrev pub source_of : Option Number → ValueSource
source_of None = From.Absent
source_of (Some (As.Unsigned n)) = From.Unsigned n
source_of (Some (As.Signed x)) = From.Signed x
source_of (Some (As.Decimal e m)) = From.Decimal e m

-- the integer that a delta is added to
abbrev pub base_integer : FieldData → PreviousData → Result ℤ Code
base_integer f p = delta_base f p >>= (λ v. Ok (integer_of v))

-- This outcome is decided for the field, and its value has this source, for all strings that were read; or this fault is decided.
abbrev pub IsDecided : Result Outcome Code → FieldData → Dictionary → Dictionary → Result ValueSource Code → Type 0
IsDecided decided f old new (Ok source) = (o : Outcome) × (decided ≡ Ok o) × ((scratch piece : List ℕ) → IsSettled o f source old new scratch piece)
IsDecided decided f old new (Err c) = decided ≡ Err c

-- a result that is decided by this number of bytes
abbrev pub answered : {T : Type 0} → Result T Code → ℕ → Progress T
answered (Ok x) n = Whole x n
answered (Err c) n = Wrong c n
