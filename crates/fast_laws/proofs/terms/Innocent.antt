-- No field is at fault for a limit on elements.
use Rattle.std.specs.Prelude.{◌≡◌, ℕ, ◌-◌, ◌&&◌, Bool, true, false, if◌then◌else◌, nat_abs, nat_le, int_le, length, take, drop, ◌+ℤ◌, List}
use Rattle.std.specs.Prelude.{Option, Some, None, Result, Ok, Err, ℤ, pos, negsuc}
use Rattle.std.proofs.Common.{refl}
use Rattle.std.specs.Str.{is_utf8}
use Rattle.fast_wire.specs.meaning.Integers.{Range, signed_range, exponent_range, delta_range}
use Rattle.fast_value.specs.declared.codes.Code.{Code}
use Rattle.fast_value.specs.declared.codes.Code.TheVariants.{D2, D4, D5, D6, D7, L1, R1, R2}
use Rattle.fast_value.specs.declared.kinds.Kind.{Kind}
use Rattle.fast_value.specs.declared.kinds.Kind.TheVariants.{UInt32, Int32, UInt64, Int64, Decimal, Ascii, Unicode, Bytes}
use Rattle.fast_value.specs.meaning.Kinds.{ScalarData, Dec, Family, integers, decimals, texts, family, same_kind, value_of_text}
use Rattle.fast_value.specs.meaning.Kinds.{value_of_integer, integer_of, exponent_of, mantissa_of, text_of}
use Rattle.fast_value.specs.meaning.Limits.{Bounds}
use Rattle.fast_tree.specs.declared.operators.Operator.{Operator}
use Rattle.fast_tree.specs.declared.operators.Operator.TheVariants.{None as no_operator, Constant, Default, Copy, Increment, Delta, Tail}
use Rattle.fast_tree.specs.meaning.Tree.{FieldData}
use Rattle.fast_dict.specs.meaning.Dictionary.{PreviousData, undefined, empty, assigned}
use Rattle.fast_dict.specs.meaning.Operators.{Sent, nothing, null, value, integer_delta, decimal_delta, text_delta, Kept, append_to}
use Rattle.fast_dict.specs.meaning.Operators.{prepend_to, kept_length, keeps, of_kind, checked_text, checked_in, ranged, range_of}
use Rattle.fast_dict.specs.meaning.Operators.{from_initial, unsent, next_value, fixed, delta_base, tail_base, kept_of, joined, with_tail}
use Rattle.fast_dict.specs.meaning.Operators.{integer_step, exponent_step, mantissa_step, subtraction_step, text_step, sent_plain}
use Rattle.fast_dict.specs.meaning.Operators.{sent_kept, sent_tail, sent_delta, decide_by, decide}
use Rattle.fast_dict.specs.meaning.Operators
use Rattle.fast_stream.specs.meaning.Grammar.{Grammar, give, fault, hand, integer, ascii_text, raw, presence_map, narrow, ◌>>=◌, of_result}
use Rattle.fast_stream.specs.meaning.Fields.{sized, text, sent_text, decimal_from, item_in, integer_change, mantissa_change, decimal_change}
use Rattle.fast_stream.specs.meaning.Fields.{part_change, text_change, change_in}
use Rattle.fast_stream.specs.meaning.Messages.{map_bits}
use Rattle.fast_laws.specs.meaning.Raising.{is_count_code}

-- a result, or another fault
abbrev pub IsOtherResult : {A : Type 0} → Result A Code → Type 0
IsOtherResult (Ok a) = Unit {0}
IsOtherResult (Err c) = is_count_code c ≡ false

abbrev then_result : {A B : Type 0} → Result A Code → (A → Result B Code) → Result B Code
then_result r k = Operators.◌>>=◌ r k

other_then : {A B : Type 0} (r : Result A Code) (k : A → Result B Code) → IsOtherResult r → ((a : A) → IsOtherResult (k a)) → IsOtherResult (then_result r k)
other_then (Ok a) k h i = i a
other_then (Err c) k h i = h

other_if : {A : Type 0} (b : Bool) (a : A) (c : Code) → is_count_code c ≡ false → IsOtherResult (if b then Ok a else Err c)
other_if true a c h = tt
other_if false a c h = h

-- the steps of the operators
other_kind : (kind found : Kind) (v : ScalarData) → IsOtherResult (of_kind kind found v)
other_kind kind found v = other_if (same_kind kind found) v D4 refl

other_text : (kind : Kind) (v : List ℕ) → IsOtherResult (checked_text kind v)
other_text Unicode v = other_if (is_utf8 v) (value_of_text Unicode v) R2 refl
other_text UInt32 v = tt
other_text Int32 v = tt
other_text UInt64 v = tt
other_text Int64 v = tt
other_text Decimal v = tt
other_text Ascii v = tt
other_text Bytes v = tt

pub other_ranged : (range : Range) (c : Code) (x : ℤ) → is_count_code c ≡ false → IsOtherResult (ranged range c x)
other_ranged range c x h = other_if (int_le range.low x && int_le x range.high) x c h

other_initial : (kind : Kind) (optional : Bool) (c : Code) (i : Option ScalarData) → is_count_code c ≡ false → IsOtherResult (from_initial kind optional c i)
other_initial kind optional c (Some v) h = tt
other_initial kind true c None h = tt
other_initial kind false c None h = h

other_unsent : (f : FieldData) (p : PreviousData) → IsOtherResult (unsent f p)
other_unsent f (assigned kind v) = other_then (of_kind f.kind kind v) (λ w. keeps f.kind (next_value f.operator f.kind w)) (other_kind f.kind kind v) (λ w. tt)
other_unsent f undefined = other_initial f.kind f.optional D5 f.initial refl
other_unsent f empty = other_initial f.kind f.optional D6 None refl

other_fixed : (i : Option ScalarData) (p : PreviousData) → IsOtherResult (fixed i p)
other_fixed (Some v) p = tt
other_fixed None p = tt

other_base : (f : FieldData) (p : PreviousData) → IsOtherResult (delta_base f p)
other_base f (assigned kind v) = other_kind f.kind kind v
other_base f undefined = tt
other_base f empty = refl

other_tail_base : (f : FieldData) (p : PreviousData) → IsOtherResult (tail_base f p)
other_tail_base f (assigned kind v) = other_kind f.kind kind v
other_tail_base f undefined = tt
other_tail_base f empty = tt

other_kept : (base : List ℕ) (k : ℤ) → IsOtherResult (kept_of base k)
other_kept base (pos k) = other_if (nat_le k (length base)) (append_to (take (length base - k) base)) D7 refl
other_kept base (negsuc k) = other_if (nat_le k (length base)) (prepend_to (drop k base)) D7 refl

other_integer : (f : FieldData) (p : PreviousData) (k : ℤ) → IsOtherResult (integer_step f p k)
other_integer f p k =
    other_then (delta_base f p) (λ base. then_result (ranged (range_of f.kind) D2 (integer_of base +ℤ k))
    (λ x. keeps f.kind (value_of_integer f.kind x))) (other_base f p)
    (λ base. other_then (ranged (range_of f.kind) D2 (integer_of base +ℤ k)) (λ x. keeps f.kind (value_of_integer f.kind x))
    (other_ranged (range_of f.kind) D2 (integer_of base +ℤ k) refl) (λ x. tt))

other_exponent : (f : FieldData) (p : PreviousData) (k : ℤ) → IsOtherResult (exponent_step f p k)
other_exponent f p k = other_then (delta_base f p) (λ base. ranged exponent_range R1 (exponent_of base +ℤ k)) (other_base f p)
    (λ base. other_ranged exponent_range R1 (exponent_of base +ℤ k) refl)

other_mantissa : (f : FieldData) (p : PreviousData) (e j : ℤ) → IsOtherResult (mantissa_step f p e j)
other_mantissa f p e j =
    other_then (delta_base f p) (λ base. then_result (ranged (signed_range 63) R1 (mantissa_of base +ℤ j)) (λ m. keeps f.kind (Dec e m))) (other_base f p)
    (λ base. other_then (ranged (signed_range 63) R1 (mantissa_of base +ℤ j)) (λ m. keeps f.kind (Dec e m))
    (other_ranged (signed_range 63) R1 (mantissa_of base +ℤ j) refl) (λ m. tt))

other_subtraction : (f : FieldData) (p : PreviousData) (k : ℤ) → IsOtherResult (subtraction_step f p k)
other_subtraction f p k = other_then (delta_base f p) (λ base. kept_of (text_of base) k) (other_base f p) (λ base. other_kept (text_of base) k)

other_text_step : (f : FieldData) (kept : Kept) (part : List ℕ) → IsOtherResult (text_step f kept part)
other_text_step f kept part = other_then (checked_text f.kind (joined kept part)) (keeps f.kind) (other_text f.kind (joined kept part)) (λ v. tt)

other_checked : (k : Family) (kind : Kind) (v : ScalarData) → IsOtherResult (checked_in k kind v)
other_checked (integers range) kind v = tt
other_checked decimals kind v = tt
other_checked texts kind v = other_text kind (text_of v)

other_plain : (f : FieldData) (p : PreviousData) (x : Sent) → IsOtherResult (sent_plain f p x)
other_plain f p (value v) = other_then (checked_in (family f.kind) f.kind v) (λ w. Ok (record {
  value = Some w;
  next = p;
})) (other_checked (family f.kind) f.kind v) (λ w. tt)
other_plain f p nothing = tt
other_plain f p null = tt
other_plain f p (integer_delta k) = tt
other_plain f p (decimal_delta k j) = tt
other_plain f p (text_delta k part) = tt

other_sent_kept : (f : FieldData) (x : Sent) → IsOtherResult (sent_kept f x)
other_sent_kept f (value v) = other_then (checked_in (family f.kind) f.kind v) (keeps f.kind) (other_checked (family f.kind) f.kind v) (λ w. tt)
other_sent_kept f nothing = tt
other_sent_kept f null = tt
other_sent_kept f (integer_delta k) = tt
other_sent_kept f (decimal_delta k j) = tt
other_sent_kept f (text_delta k part) = tt

other_tail : (f : FieldData) (p : PreviousData) (x : Sent) → IsOtherResult (sent_tail f p x)
other_tail f p (value v) =
    other_then (tail_base f p) (λ base. then_result (checked_text f.kind (with_tail (text_of base) (text_of v))) (keeps f.kind)) (other_tail_base f p)
    (λ base. other_then (checked_text f.kind (with_tail (text_of base) (text_of v))) (keeps f.kind)
    (other_text f.kind (with_tail (text_of base) (text_of v))) (λ w. tt))
other_tail f p nothing = tt
other_tail f p null = tt
other_tail f p (integer_delta k) = tt
other_tail f p (decimal_delta k j) = tt
other_tail f p (text_delta k part) = tt

other_delta : (f : FieldData) (p : PreviousData) (x : Sent) → IsOtherResult (sent_delta f p x)
other_delta f p (integer_delta k) = other_integer f p k
other_delta f p (decimal_delta k j) = other_then (exponent_step f p k) (λ e. mantissa_step f p e j) (other_exponent f p k) (λ e. other_mantissa f p e j)
other_delta f p (text_delta k part) = other_then (subtraction_step f p k) (λ kept. text_step f kept part) (other_subtraction f p k)
    (λ kept. other_text_step f kept part)
other_delta f p nothing = tt
other_delta f p null = tt
other_delta f p (value v) = tt

other_by : (o : Operator) (bit : Bool) (f : FieldData) (p : PreviousData) (x : Sent) → IsOtherResult (decide_by o bit f p x)
other_by no_operator bit f p x = other_plain f p x
other_by Constant true f p x = other_fixed f.initial p
other_by Constant false f p x = tt
other_by Default true f p x = other_plain f p x
other_by Default false f p x = other_fixed f.initial p
other_by Copy true f p x = other_sent_kept f x
other_by Copy false f p x = other_unsent f p
other_by Increment true f p x = other_sent_kept f x
other_by Increment false f p x = other_unsent f p
other_by Delta bit f p x = other_delta f p x
other_by Tail true f p x = other_tail f p x
other_by Tail false f p x = other_unsent f p

pub other_decided : (f : FieldData) (p : PreviousData) (bit : Bool) (x : Sent) → IsOtherResult (decide f p bit x)
other_decided f p bit x = other_by f.operator bit f p x

-- The term hands over no event, and its faults are others.
abbrev pub IsInnocent : {A : Type 0} → Grammar A → Type 0
IsInnocent (give a) = Unit {0}
IsInnocent (fault c) = is_count_code c ≡ false
IsInnocent (hand e g) = ⊥
IsInnocent (integer range nullable c g) = (is_count_code c ≡ false) × ((x : Option ℤ) → IsInnocent (g x))
IsInnocent (ascii_text nullable room g) = (x : Option (List ℕ)) → IsInnocent (g x)
IsInnocent (raw n g) = (x : List ℕ) → IsInnocent (g x)
IsInnocent (presence_map g) = (x : List ℕ) → IsInnocent (g x)
IsInnocent (narrow n m g) = IsInnocent g

innocent_bind : {A B : Type 0} (g : Grammar A) (k : A → Grammar B) → IsInnocent g → ((a : A) → IsInnocent (k a)) → IsInnocent (g >>= k)
innocent_bind (give a) k h j = j a
innocent_bind (fault c) k h j = h
innocent_bind (hand e g) k h j = absurd h
innocent_bind (integer range nullable c g) k h j = (h.0, λ x. innocent_bind (g x) k (h.1 x) j)
innocent_bind (ascii_text nullable room g) k h j = λ x. innocent_bind (g x) k (h x) j
innocent_bind (raw n g) k h j = λ x. innocent_bind (g x) k (h x) j
innocent_bind (presence_map g) k h j = λ x. innocent_bind (g x) k (h x) j
innocent_bind (narrow n m g) k h j = innocent_bind g k h j

pub innocent_result : {A : Type 0} (r : Result A Code) → IsOtherResult r → IsInnocent (of_result r)
innocent_result (Ok a) h = tt
innocent_result (Err c) h = h

innocent_sized : (room : ℕ) (n : Option ℤ) → IsInnocent (sized room n)
innocent_sized room None = tt
innocent_sized room (Some n) = innocent_bind (of_result (if nat_le (nat_abs n) room then Ok (nat_abs n) else Err L1))
    (λ size. raw size (λ v. give (Some v))) (innocent_result (if nat_le (nat_abs n) room then Ok (nat_abs n) else Err L1)
    (other_if (nat_le (nat_abs n) room) (nat_abs n) L1 refl)) (λ size v. tt)

innocent_text : (kind : Kind) (nullable : Bool) (room : ℕ) → IsInnocent (text kind nullable room)
innocent_text Ascii nullable room = λ x. tt
innocent_text UInt32 nullable room = (refl, innocent_sized room)
innocent_text Int32 nullable room = (refl, innocent_sized room)
innocent_text UInt64 nullable room = (refl, innocent_sized room)
innocent_text Int64 nullable room = (refl, innocent_sized room)
innocent_text Decimal nullable room = (refl, innocent_sized room)
innocent_text Unicode nullable room = (refl, innocent_sized room)
innocent_text Bytes nullable room = (refl, innocent_sized room)

innocent_decimal : (e : Option ℤ) → IsInnocent (decimal_from e)
innocent_decimal None = tt
innocent_decimal (Some e) = (refl, λ m. tt)

pub innocent_item : (k : Family) (l : Bounds) (f : FieldData) → IsInnocent (item_in k l f)
innocent_item (integers range) l f = (refl, λ x. tt)
innocent_item decimals l f = (refl, innocent_decimal)
innocent_item texts l f = innocent_bind (text f.kind f.optional l.max_text) (λ v. give (sent_text f.kind v))
    (innocent_text f.kind f.optional l.max_text) (λ v. tt)

innocent_integer_change : (f : FieldData) (p : PreviousData) (k : Option ℤ) → IsInnocent (integer_change f p k)
innocent_integer_change f p None = tt
innocent_integer_change f p (Some k) = innocent_result (integer_step f p k) (other_integer f p k)

innocent_mantissa_change : (f : FieldData) (p : PreviousData) (e : ℤ) (j : Option ℤ) → IsInnocent (mantissa_change f p e j)
innocent_mantissa_change f p e None = tt
innocent_mantissa_change f p e (Some j) = innocent_result (mantissa_step f p e j) (other_mantissa f p e j)

innocent_decimal_change : (f : FieldData) (p : PreviousData) (k : Option ℤ) → IsInnocent (decimal_change f p k)
innocent_decimal_change f p None = tt
innocent_decimal_change f p (Some k) = innocent_bind (of_result (exponent_step f p k))
    (λ e. integer delta_range false D2 (mantissa_change f p e)) (innocent_result (exponent_step f p k) (other_exponent f p k))
    (λ e. (refl, innocent_mantissa_change f p e))

innocent_part_change : (f : FieldData) (p : PreviousData) (kept : Kept) (part : Option (List ℕ)) → IsInnocent (part_change f p kept part)
innocent_part_change f p kept None = tt
innocent_part_change f p kept (Some part) = innocent_result (text_step f kept part) (other_text_step f kept part)

pub innocent_text_change : (l : Bounds) (f : FieldData) (p : PreviousData) (k : Option ℤ) → IsInnocent (text_change l f p k)
innocent_text_change l f p None = tt
innocent_text_change l f p (Some k) = innocent_bind (of_result (subtraction_step f p k))
    (λ kept. text f.kind false (l.max_text - kept_length kept) >>= part_change f p kept)
    (innocent_result (subtraction_step f p k) (other_subtraction f p k))
    (λ kept. innocent_bind (text f.kind false (l.max_text - kept_length kept)) (part_change f p kept)
    (innocent_text f.kind false (l.max_text - kept_length kept)) (innocent_part_change f p kept))

pub innocent_change : (k : Family) (l : Bounds) (f : FieldData) (p : PreviousData) → IsInnocent (change_in k l f p)
innocent_change (integers range) l f p = (refl, innocent_integer_change f p)
innocent_change decimals l f p = (refl, innocent_decimal_change f p)
innocent_change texts l f p = (refl, innocent_text_change l f p)

pub innocent_map : (n : ℕ) (has : Bool) → IsInnocent (map_bits n has)
innocent_map n false = tt
innocent_map n true = λ m. tt
