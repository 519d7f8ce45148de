-- The field operators, as one table by cases. Each case is the value and the next contents of the entry, or the fault that is decided
-- there. A delta is decoded in steps, each at the end of the bytes on which it depends.
use Rattle.std.specs.Prelude.{◌≡◌, ℕ, ◌-◌, Bool, true, false, ◌&&◌, nat_le, if◌then◌else◌, List, [], ◌++◌, length, take, drop, ℤ, pos}
use Rattle.std.specs.Prelude.{negsuc, ◌+ℤ◌, int_le, int_lt, Option, Some, None, Result, Ok, Err, unwrap_or}
use Rattle.std.specs.Str.{is_utf8}
use Rattle.fast_value.specs.declared.kinds.Kind.{Kind}
use Rattle.fast_value.specs.declared.kinds.Kind.TheVariants.{Unicode}
use Rattle.fast_value.specs.meaning.Kinds.{IsWithin, Range, signed_range, exponent_range, ScalarData, Dec, Family, integers, decimals}
use Rattle.fast_value.specs.meaning.Kinds.{texts, family, value_of_integer, value_of_text, integer_of, text_of, exponent_of, mantissa_of}
use Rattle.fast_value.specs.meaning.Kinds.{same_kind}
use Rattle.fast_value.specs.declared.codes.Code.{Code}
use Rattle.fast_value.specs.declared.codes.Code.TheVariants.{D2, D4, D5, D6, D7, R1, R2}
use Rattle.fast_tree.specs.declared.operators.Operator.{Operator}
use Rattle.fast_tree.specs.declared.operators.Operator.TheVariants.{None as no_operator, Constant, Default, Copy, Increment, Delta, Tail}
use Rattle.fast_tree.specs.meaning.Tree.{FieldData}
use Rattle.fast_dict.specs.meaning.Dictionary.{PreviousData, undefined, empty, assigned}

-- The value, or None for absent, and the next contents of the entry.
-- FAST 1.1: Template Definition, Dictionaries and Previous Values.
pub record Outcome : Type 0 where
  pub value : Option ScalarData
  pub next : PreviousData

-- the first step, and then the second unless the first is a fault
infixl 10 ◌>>=◌
abbrev pub ◌>>=◌ : {A B : Type 0} → Result A Code → (A → Result B Code) → Result B Code
(Ok a) >>= k = k a
(Err c) >>= k = Err c

-- the value, with the entry unchanged
abbrev pub gives : ScalarData → PreviousData → Result Outcome Code
gives v p = Ok (record { value = Some v; next = p })

-- the value, which the entry then holds
-- FAST 1.1: Template Definition, Dictionaries and Previous Values.
abbrev pub keeps : Kind → ScalarData → Result Outcome Code
keeps kind v = Ok (record { value = Some v; next = assigned kind v })

-- absent, with the next contents of the entry
abbrev pub gives_none : PreviousData → Result Outcome Code
gives_none p = Ok (record { value = None; next = p })

-- A previous value of another type than the field's is a fault.
-- FAST 1.1: Error Codes, D4.
abbrev pub of_kind : Kind → Kind → ScalarData → Result ScalarData Code
of_kind kind found v = if same_kind kind found then Ok v else Err D4

-- A Unicode string must be UTF-8.
-- FAST 1.1: Error Codes, R2.
abbrev pub checked_text : Kind → List ℕ → Result ScalarData Code
checked_text Unicode v = if is_utf8 v then Ok (value_of_text Unicode v) else Err R2
checked_text kind v = Ok (value_of_text kind v)

-- the number, if it lies in the range; else the fault
abbrev pub ranged : Range → Code → ℤ → Result ℤ Code
ranged range c x = if int_le range.low x && int_le x range.high then Ok x else Err c

-- the integers of an integer type
abbrev pub range_in : Family → Range
range_in (integers range) = range
range_in decimals = exponent_range
range_in texts = exponent_range

-- the range of an integer type
-- FAST 1.1: Template Definition, Primitive Field Types.
abbrev pub range_of : Kind → Range
range_of kind = range_in (family kind)

-- Nothing is sent, and the entry holds no value of use: the initial value; without one an optional field is absent.
-- FAST 1.1: Template Definition, Initial Value; Error Codes, D5.
abbrev pub from_initial : Kind → Bool → Code → Option ScalarData → Result Outcome Code
from_initial kind optional c (Some v) = keeps kind v
from_initial kind true c None = gives_none empty
from_initial kind false c None = Err c

-- one more; after the greatest comes the least
-- FAST 1.1: Template Definition, Increment Operator.
abbrev pub incremented : Range → ℤ → ℤ
incremented range x = if int_lt x range.high then x +ℤ pos 1 else range.low

-- the value under copy, increment and tail, from an assigned previous value
-- FAST 1.1: Template Definition, Copy, Increment and Tail Operators.
abbrev pub next_value : Operator → Kind → ScalarData → ScalarData
next_value Increment kind v = value_of_integer kind (incremented (range_of kind) (integer_of v))
next_value operator kind v = v

-- Copy, increment and tail if nothing is sent.
-- FAST 1.1: Template Definition, Copy, Increment and Tail Operators; Error Codes, D5 and D6.
abbrev pub unsent : FieldData → PreviousData → Result Outcome Code
unsent f (assigned kind v) = of_kind f.kind kind v >>= (λ w. keeps f.kind (next_value f.operator f.kind w))
unsent f undefined = from_initial f.kind f.optional D5 f.initial
unsent f empty = from_initial f.kind f.optional D6 None

-- True if NULL leaves an empty entry, as it does under the operators that read their value from it if nothing is sent.
-- FAST 1.1: Template Definition, Copy, Increment and Tail Operators.
abbrev pub null_empties : Operator → Bool
null_empties Copy = true
null_empties Increment = true
null_empties Tail = true
null_empties operator = false

-- A constant, and a default if nothing is sent, have the initial value; without one a default is absent.
-- FAST 1.1: Template Definition, Constant and Default Operators.
abbrev pub fixed : Option ScalarData → PreviousData → Result Outcome Code
fixed (Some v) p = gives v p
fixed None p = gives_none p

-- the value to which a string's tail or delta is joined, or a number's delta added, under an undefined entry and without an initial value
-- FAST 1.1: Template Definition, Delta and Tail Operators.
abbrev pub zero_in : Kind → Family → ScalarData
zero_in kind (integers range) = value_of_integer kind (pos 0)
zero_in kind decimals = Dec (pos 0) (pos 0)
zero_in kind texts = value_of_text kind []

-- the base of a delta under an undefined entry
-- FAST 1.1: Template Definition, Delta Operator.
abbrev pub start_value : FieldData → ScalarData
start_value f = unwrap_or f.initial (zero_in f.kind (family f.kind))

-- the base of a delta, and of a tail
-- FAST 1.1: Template Definition, Delta Operator; Error Codes, D6.
abbrev pub delta_base : FieldData → PreviousData → Result ScalarData Code
delta_base f (assigned kind v) = of_kind f.kind kind v
delta_base f undefined = Ok (start_value f)
delta_base f empty = Err D6

-- the base of a tail
-- FAST 1.1: Template Definition, Tail Operator.
abbrev pub tail_base : FieldData → PreviousData → Result ScalarData Code
tail_base f (assigned kind v) = of_kind f.kind kind v
tail_base f undefined = Ok (start_value f)
tail_base f empty = Ok (start_value f)

-- A tail replaces the base's last items, one for one. If the base has too few of them, the tail is all of the value.
-- FAST 1.1: Template Definition, Tail Operator.
abbrev pub with_tail : List ℕ → List ℕ → List ℕ
with_tail base part = if nat_le (length part) (length base) then take (length base - length part) base ++ part else part

-- The bytes that a string delta keeps of its base, and the side of them on which the part goes.
-- FAST 1.1: Template Definition, Delta Operator.
pub data Kept : Type 0 where
  append_to : List ℕ → Kept
  prepend_to : List ℕ → Kept

-- A length of k removes k items from the back; one of -k - 1 removes k from the front. There must be that many.
-- FAST 1.1: Template Definition, Delta Operator; Error Codes, D7.
abbrev pub kept_of : List ℕ → ℤ → Result Kept Code
kept_of base (pos k) = if nat_le k (length base) then Ok (append_to (take (length base - k) base)) else Err D7
kept_of base (negsuc k) = if nat_le k (length base) then Ok (prepend_to (drop k base)) else Err D7

-- the length of the bytes kept
-- FAST 1.1: Template Definition, Delta Operator.
abbrev pub kept_length : Kept → ℕ
kept_length (append_to v) = length v
kept_length (prepend_to v) = length v

-- the part on its side of the bytes kept
-- FAST 1.1: Template Definition, Delta Operator.
abbrev pub joined : Kept → List ℕ → List ℕ
joined (append_to v) part = v ++ part
joined (prepend_to v) part = part ++ v

-- the steps of a delta: an integer's sum, a decimal's exponent and its mantissa, the bytes kept of a string, the string
-- FAST 1.1: Template Definition, Delta Operator; Error Codes, D2.
abbrev pub integer_step : FieldData → PreviousData → ℤ → Result Outcome Code
integer_step f p k = delta_base f p >>= (λ base. ranged (range_of f.kind) D2 (integer_of base +ℤ k) >>= (λ x. keeps f.kind (value_of_integer f.kind x)))

-- a decimal's exponent after its delta
-- FAST 1.1: Template Definition, Delta Operator; Error Codes, R1.
abbrev pub exponent_step : FieldData → PreviousData → ℤ → Result ℤ Code
exponent_step f p k = delta_base f p >>= (λ base. ranged exponent_range R1 (exponent_of base +ℤ k))

-- a decimal after its mantissa delta
-- FAST 1.1: Template Definition, Delta Operator; Error Codes, R1.
abbrev pub mantissa_step : FieldData → PreviousData → ℤ → ℤ → Result Outcome Code
mantissa_step f p e k = delta_base f p >>= (λ base. ranged (signed_range 63) R1 (mantissa_of base +ℤ k) >>= (λ m. keeps f.kind (Dec e m)))

-- the bytes that a subtraction length keeps of the base
-- FAST 1.1: Template Definition, Delta Operator; Error Codes, D7.
abbrev pub subtraction_step : FieldData → PreviousData → ℤ → Result Kept Code
subtraction_step f p k = delta_base f p >>= (λ base. kept_of (text_of base) k)

-- a string after the part of its delta
-- FAST 1.1: Template Definition, Delta Operator; Error Codes, R2.
abbrev pub text_step : FieldData → Kept → List ℕ → Result Outcome Code
text_step f kept part = checked_text f.kind (joined kept part) >>= keeps f.kind

-- The content of the stream for a field: nothing, NULL, a value (for a tail, the tail), or a delta: of an integer, of a decimal, of a
-- string with the length that it subtracts.
-- FAST 1.1: Transfer Encoding, Field Instructions.
pub data Sent : Type 0 where
  nothing : Sent
  null : Sent
  value : ScalarData → Sent
  integer_delta : ℤ → Sent
  decimal_delta : ℤ → ℤ → Sent
  text_delta : ℤ → List ℕ → Sent

-- The value that is sent, as a value of the field: a string must be UTF-8 if it is Unicode.
abbrev pub checked_in : Family → Kind → ScalarData → Result ScalarData Code
checked_in texts kind v = checked_text kind (text_of v)
checked_in (integers range) kind v = Ok v
checked_in decimals kind v = Ok v

-- the value, if it is well formed in its family
abbrev pub checked : FieldData → ScalarData → Result ScalarData Code
checked f v = checked_in (family f.kind) f.kind v

-- The outcome of the content sent for a field, by its operator. NULL is absent: under copy, increment and tail it makes the entry empty,
-- under delta it leaves the entry unchanged.
-- FAST 1.1: Template Definition, Default Operator.
abbrev pub sent_plain : FieldData → PreviousData → Sent → Result Outcome Code
sent_plain f p (value v) = checked f v >>= (λ w. gives w p)
sent_plain f p other = gives_none p

-- a value that was sent under copy or increment
-- FAST 1.1: Template Definition, Copy and Increment Operators.
abbrev pub sent_kept : FieldData → Sent → Result Outcome Code
sent_kept f (value v) = checked f v >>= keeps f.kind
sent_kept f other = gives_none empty

-- a tail that was sent
-- FAST 1.1: Template Definition, Tail Operator.
abbrev pub sent_tail : FieldData → PreviousData → Sent → Result Outcome Code
sent_tail f p (value v) = tail_base f p >>= (λ base. checked_text f.kind (with_tail (text_of base) (text_of v)) >>= keeps f.kind)
sent_tail f p other = gives_none empty

-- a delta that was sent
-- FAST 1.1: Template Definition, Delta Operator.
abbrev pub sent_delta : FieldData → PreviousData → Sent → Result Outcome Code
sent_delta f p (integer_delta k) = integer_step f p k
sent_delta f p (decimal_delta k j) = exponent_step f p k >>= (λ e. mantissa_step f p e j)
sent_delta f p (text_delta k part) = subtraction_step f p k >>= (λ kept. text_step f kept part)
sent_delta f p other = gives_none p

-- The table: operator, presence bit (which counts as set if the instruction uses none), and the content of the stream.
-- FAST 1.1: Template Definition, Field Operators.
abbrev pub decide_by : Operator → Bool → FieldData → PreviousData → Sent → Result Outcome Code
decide_by no_operator bit f p item = sent_plain f p item
decide_by Constant true f p item = fixed f.initial p
decide_by Constant false f p item = gives_none p
decide_by Default true f p item = sent_plain f p item
decide_by Default false f p item = fixed f.initial p
decide_by Copy true f p item = sent_kept f item
decide_by Copy false f p item = unsent f p
decide_by Increment true f p item = sent_kept f item
decide_by Increment false f p item = unsent f p
decide_by Delta bit f p item = sent_delta f p item
decide_by Tail true f p item = sent_tail f p item
decide_by Tail false f p item = unsent f p

-- the value and the next contents of the entry, or the fault, by previous value, bit and item
-- FAST 1.1: Template Definition, Field Operators.
abbrev pub decide : FieldData → PreviousData → Bool → Sent → Result Outcome Code
decide f p bit item = decide_by f.operator bit f p item

-- The items that can be in the stream for a field: NULL if it is optional, and else a value or a delta of its type. There is no item if
-- nothing is sent.
abbrev pub IsValueIn : Family → Kind → ScalarData → Type 0
IsValueIn (integers range) kind v = (x : ℤ) × IsWithin range x × (v ≡ value_of_integer kind x)
IsValueIn decimals kind v = (e m : ℤ) × IsWithin exponent_range e × IsWithin (signed_range 63) m × (v ≡ Dec e m)
IsValueIn texts kind v = (t : List ℕ) × (v ≡ value_of_text kind t)

-- a value as it is, or NULL if the field is optional
abbrev pub IsPlainItem : FieldData → Sent → Type 0
IsPlainItem f null = f.optional ≡ true
IsPlainItem f (value v) = IsValueIn (family f.kind) f.kind v
IsPlainItem f other = ⊥

-- a delta of the family, or NULL if the field is optional
abbrev pub IsDeltaIn : Family → Bool → Sent → Type 0
IsDeltaIn k optional null = optional ≡ true
IsDeltaIn (integers range) optional (integer_delta k) = Unit {0}
IsDeltaIn decimals optional (decimal_delta k j) = Unit {0}
IsDeltaIn texts optional (text_delta k part) = Unit {0}
IsDeltaIn k optional other = ⊥

-- the item can be in the stream under the operator
abbrev pub IsItemBy : Operator → Bool → FieldData → Sent → Type 0
IsItemBy no_operator bit f item = IsPlainItem f item
IsItemBy Constant bit f item = item ≡ nothing
IsItemBy Delta bit f item = IsDeltaIn (family f.kind) f.optional item
IsItemBy operator true f item = IsPlainItem f item
IsItemBy operator false f item = item ≡ nothing

-- the item can be in the stream for the field
-- FAST 1.1: Transfer Encoding, Field Instructions.
abbrev pub IsItemOf : FieldData → Bool → Sent → Type 0
IsItemOf f bit item = IsItemBy f.operator bit f item

-- Under the previous value p, the bit and the content of the stream give the value, or absence, and the next previous value.
-- FAST 1.1: Template Definition, Field Operators.
abbrev pub Op : FieldData → PreviousData → Bool → Sent → Option ScalarData → PreviousData → Type 0
Op f p bit item v next = IsItemOf f bit item × (decide f p bit item ≡ Ok (record { value = v; next = next }))
