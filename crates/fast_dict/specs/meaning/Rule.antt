-- The content that an encoder sends for a value: whether it sets the bit, and the item after it.
use Rattle.std.specs.Prelude.{◌≡◌, ◌⊎◌, ℕ, suc, ◌-◌, ◌<◌, ◌≤◌, Bool, true, false, nat_eq, if◌then◌else◌, List, ◌∷◌, length, reverse, take}
use Rattle.std.specs.Prelude.{drop, pos, negsuc, ◌-ℤ◌, Option, Some, None, Ok}
use Rattle.fast_value.specs.meaning.Kinds.{ScalarData, Family, integers, decimals, texts, family, integer_of, exponent_of, mantissa_of, text_of, value_of_text}
use Rattle.fast_tree.specs.declared.operators.Operator.{Operator}
use Rattle.fast_tree.specs.declared.operators.Operator.TheVariants.{Constant, Delta, Tail}
use Rattle.fast_tree.specs.meaning.Tree.{FieldData, uses_bit}
use Rattle.fast_dict.specs.meaning.Dictionary.{PreviousData}
use Rattle.fast_dict.specs.meaning.Operators.{Sent, nothing, null, value, integer_delta, decimal_delta, text_delta, Op, delta_base, tail_base}

-- the length of the longest common prefix of two strings
abbrev pub common_front : List ℕ → List ℕ → ℕ
common_front (x ∷ xs) (y ∷ ys) = if nat_eq x y then suc (common_front xs ys) else 0
common_front xs ys = 0

-- the length of the longest common suffix of two strings
abbrev pub common_back : List ℕ → List ℕ → ℕ
common_back xs ys = common_front (reverse xs) (reverse ys)

-- The delta that appends to the bytes kept of the base: of v, the part after the common prefix.
-- FAST 1.1: Template Definition, Delta Operator.
abbrev pub appending : List ℕ → List ℕ → Sent
appending base v = text_delta (pos (length base - common_front base v)) (drop (common_front base v) v)

-- The delta that prepends: of v, the part before the common suffix.
-- FAST 1.1: Template Definition, Delta Operator.
abbrev pub prepending : List ℕ → List ℕ → Sent
prepending base v = text_delta (negsuc (length base - common_back base v)) (take (length v - common_back base v) v)

-- If both forms send parts of one length, the appending one is used: the part is prepended only if the common suffix is longer.
-- FAST 1.1: Template Definition, Delta Operator.
abbrev pub IsTextDelta : List ℕ → List ℕ → Sent → Type 0
IsTextDelta base v item =
    (common_back base v ≤ common_front base v) × (item ≡ appending base v)
    ⊎ (common_front base v < common_back base v) × (item ≡ prepending base v)

-- A tail of the base's length begins where the two differ. A longer value is the tail itself, and a shorter one
-- has none.
-- FAST 1.1: Template Definition, Tail Operator.
abbrev pub IsTail : List ℕ → List ℕ → List ℕ → Type 0
IsTail base v part =
    (length v ≡ length base) × (part ≡ drop (common_front base v) v)
    ⊎ (length base < length v) × (part ≡ v)

-- the delta from the base to the value, in each family
-- FAST 1.1: Template Definition, Delta Operator.
abbrev pub IsDelta : Family → ScalarData → ScalarData → Sent → Type 0
IsDelta (integers range) base v item = item ≡ integer_delta (integer_of v -ℤ integer_of base)
IsDelta decimals base v item = item ≡ decimal_delta (exponent_of v -ℤ exponent_of base) (mantissa_of v -ℤ mantissa_of base)
IsDelta texts base v item = IsTextDelta (text_of base) (text_of v) item

-- The content of the stream for a value, or for absence: NULL for absence, the initial value of a constant without a byte, a delta or tail
-- on a base that exists and is of the field's type, and else the value itself.
-- FAST 1.1: Template Definition, Field Operators.
abbrev pub SentBy : Operator → FieldData → PreviousData → Option ScalarData → Sent → Type 0
SentBy Constant f p v item = (v ≡ f.initial) × (item ≡ nothing)
SentBy operator f p None item = item ≡ null
SentBy Delta f p (Some v) item = (base : ScalarData) × (delta_base f p ≡ Ok base) × IsDelta (family f.kind) base v item
SentBy Tail f p (Some v) item = (base : ScalarData) × (part : List ℕ) × (tail_base f p ≡ Ok base) × IsTail (text_of base) (text_of v) part
    × (item ≡ value (value_of_text f.kind part))
SentBy operator f p (Some v) item = item ≡ value v

-- the content of the stream for the field's value, or for its absence
-- FAST 1.1: Template Definition, Field Operators.
abbrev pub SentFor : FieldData → PreviousData → Option ScalarData → Sent → Type 0
SentFor f p v item = SentBy f.operator f p v item

-- With the bit clear and nothing sent, the field has exactly this value or absence.
-- FAST 1.1: Template Definition, Field Operators.
abbrev pub GoesUnsent : FieldData → PreviousData → Option ScalarData → Type 0
GoesUnsent f p v = (next : PreviousData) × (uses_bit f ≡ true) × Op f p false nothing v next

-- The bit is clear if that gives the value. Else it is set, and the value is in the stream.
-- FAST 1.1: Template Definition, Field Operators, read from the other side.
abbrev pub Rule : FieldData → PreviousData → Option ScalarData → Bool → Sent → Type 0
Rule f p v false item = GoesUnsent f p v × (item ≡ nothing)
Rule f p v true item = ¬ (GoesUnsent f p v) × SentFor f p v item
