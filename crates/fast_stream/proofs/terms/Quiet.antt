-- What hands over no event: the phrases of units, and all terms up to a field.
use Rattle.std.specs.Prelude.{◌≡◌, ℕ, ◌-◌, Bool, true, false, if◌then◌else◌, nat_abs, nat_le, List, [], Option, Some, None, Result, Ok, Err, ℤ}
use Rattle.fast_wire.specs.meaning.Integers.{Range}
use Rattle.fast_value.specs.declared.kinds.Kind.{Kind}
use Rattle.fast_value.specs.declared.kinds.Kind.TheVariants.{Ascii}
use Rattle.fast_value.specs.meaning.Kinds.{Family, integers, decimals, texts, family}
use Rattle.fast_value.specs.meaning.Limits.{Bounds}
use Rattle.fast_value.specs.declared.codes.Code.{Code}
use Rattle.fast_value.specs.declared.codes.Code.TheVariants.{L1}
use Rattle.fast_tree.specs.declared.operators.Operator.{Operator}
use Rattle.fast_tree.specs.declared.operators.Operator.TheVariants.{None as no_operator, Constant, Delta}
use Rattle.fast_tree.specs.meaning.Tree.{FieldData}
use Rattle.fast_dict.specs.meaning.Dictionary.{PreviousData}
use Rattle.fast_dict.specs.meaning.Operators.{gives_none, nothing, decide, integer_step, exponent_step, mantissa_step, Kept, kept_length}
use Rattle.fast_dict.specs.meaning.Operators.{subtraction_step, text_step}
use Rattle.fast_stream.specs.meaning.Events.{EventData}
use Rattle.fast_stream.specs.meaning.Phrases.{Reached, whole, cut, wrong, Phrase, gives, settles}
use Rattle.fast_stream.specs.meaning.Units
use Rattle.fast_stream.specs.meaning.Grammar.{Grammar, give, fault, hand, integer, ascii_text, raw, presence_map, narrow, ◌>>=◌, of_result}
use Rattle.fast_stream.specs.meaning.Fields.{sized, text, sent_text, decimal_from, item_in, integer_change, mantissa_change, decimal_change}
use Rattle.fast_stream.specs.meaning.Fields.{part_change, text_change, change_in, sent, field_by, field_term}
use Rattle.fast_stream.specs.meaning.Messages.{map_bits}

-- A phrase hands over no event, whatever it comes to.
pub record Silent {A : Type 0} (p : Phrase A) : Type 0 where
  pub silent : (w : List ℕ) (es : List EventData) (x : Reached A) → p w es x → es ≡ []

pub silent-gives : {A : Type 0} (a : A) → Silent (gives a)
unfolding gives
silent-gives {A} a = record { silent = by }
  where
    by : (w : List ℕ) (es : List EventData) (x : Reached A) → gives a w es x → es ≡ []
    by w es (whole b) h = h.1
    by w es cut h = absurd h
    by w es (wrong c) h = absurd h

pub silent-settles : {A : Type 0} (r : Result A Code) → Silent (settles r)
unfolding settles gives
silent-settles (Ok a) = silent-gives a
silent-settles {A} (Err d) = record { silent = by }
  where
    by : (w : List ℕ) (es : List EventData) (x : Reached A) → settles {A = A} (Err d) w es x → es ≡ []
    by w es (whole b) h = absurd h
    by w es cut h = absurd h
    by w es (wrong c) h = h.1

pub silent-integer : (strict : Bool) (range : Range) (nullable : Bool) (outside : Code) → Silent (Units.integer strict range nullable outside)
silent-integer strict range nullable outside = record { silent = by }
  where
    by : (w : List ℕ) (es : List EventData) (x : Reached (Option ℤ)) → Units.integer strict range nullable outside w es x → es ≡ []
    by w es (whole a) h = h.1
    by w es cut h = h.2
    by w es (wrong c) h = h.1

pub silent-map : (strict : Bool) → Silent (Units.presence_map strict)
silent-map strict = record { silent = by }
  where
    by : (w : List ℕ) (es : List EventData) (x : Reached (List ℕ)) → Units.presence_map strict w es x → es ≡ []
    by w es (whole a) h = h.2
    by w es cut h = h.2
    by w es (wrong c) h = h.1

pub silent-raw : (n : ℕ) → Silent (Units.raw n)
silent-raw n = record { silent = by }
  where
    by : (w : List ℕ) (es : List EventData) (x : Reached (List ℕ)) → Units.raw n w es x → es ≡ []
    by w es (whole a) h = h.2
    by w es cut h = h.1
    by w es (wrong c) h = absurd h

pub silent-ascii : (nullable : Bool) (room : ℕ) → Silent (Units.ascii_text nullable room)
silent-ascii nullable room = record { silent = by }
  where
    by : (w : List ℕ) (es : List EventData) (x : Reached (Option (List ℕ))) → Units.ascii_text nullable room w es x → es ≡ []
    by w es (whole a) h = h.1
    by w es cut h = h.1
    by w es (wrong c) h = h.1

-- no event is in the term
abbrev pub IsQuiet : {A : Type 0} → Grammar A → Type 0
IsQuiet (give a) = Unit {0}
IsQuiet (fault c) = Unit {0}
IsQuiet (hand e g) = ⊥
IsQuiet (integer range nullable c g) = (x : Option ℤ) → IsQuiet (g x)
IsQuiet (ascii_text nullable room g) = (x : Option (List ℕ)) → IsQuiet (g x)
IsQuiet (raw n g) = (x : List ℕ) → IsQuiet (g x)
IsQuiet (presence_map g) = (x : List ℕ) → IsQuiet (g x)
IsQuiet (narrow n m g) = IsQuiet g

pub quiet-bind : {A B : Type 0} (g : Grammar A) (k : A → Grammar B) → IsQuiet g → ((a : A) → IsQuiet (k a)) → IsQuiet (g >>= k)
quiet-bind (give a) k h j = j a
quiet-bind (fault c) k h j = tt
quiet-bind (hand e g) k h j = absurd h
quiet-bind (integer range nullable c g) k h j = λ x. quiet-bind (g x) k (h x) j
quiet-bind (ascii_text nullable room g) k h j = λ x. quiet-bind (g x) k (h x) j
quiet-bind (raw n g) k h j = λ x. quiet-bind (g x) k (h x) j
quiet-bind (presence_map g) k h j = λ x. quiet-bind (g x) k (h x) j
quiet-bind (narrow n m g) k h j = quiet-bind g k h j

pub quiet-result : {A : Type 0} (r : Result A Code) → IsQuiet (of_result r)
quiet-result (Ok a) = tt
quiet-result (Err c) = tt

-- The terms of a field, from the innermost on.
quiet-sized : (room : ℕ) (n : Option ℤ) → IsQuiet (sized room n)
quiet-sized room None = tt
quiet-sized room (Some n) = quiet-bind (of_result (if nat_le (nat_abs n) room then Ok (nat_abs n) else Err L1))
    (λ size. raw size (λ v. give (Some v))) (quiet-result (if nat_le (nat_abs n) room then Ok (nat_abs n) else Err L1)) (λ size v. tt)

quiet-text : (kind : Kind) (nullable : Bool) (room : ℕ) → IsQuiet (text kind nullable room)
quiet-text Ascii nullable room = λ x. tt
quiet-text kind nullable room = quiet-sized room

quiet-decimal : (e : Option ℤ) → IsQuiet (decimal_from e)
quiet-decimal None = tt
quiet-decimal (Some e) = λ m. tt

quiet-item : (family : Family) (l : Bounds) (f : FieldData) → IsQuiet (item_in family l f)
quiet-item (integers range) l f = λ x. tt
quiet-item decimals l f = quiet-decimal
quiet-item texts l f = quiet-bind (text f.kind f.optional l.max_text) (λ v. give (sent_text f.kind v)) (quiet-text f.kind f.optional l.max_text) (λ v. tt)

quiet-integer_change : (f : FieldData) (p : PreviousData) (k : Option ℤ) → IsQuiet (integer_change f p k)
quiet-integer_change f p None = quiet-result (gives_none p)
quiet-integer_change f p (Some k) = quiet-result (integer_step f p k)

quiet-mantissa_change : (f : FieldData) (p : PreviousData) (e : ℤ) (j : Option ℤ) → IsQuiet (mantissa_change f p e j)
quiet-mantissa_change f p e None = quiet-result (gives_none p)
quiet-mantissa_change f p e (Some j) = quiet-result (mantissa_step f p e j)

quiet-decimal_change : (f : FieldData) (p : PreviousData) (k : Option ℤ) → IsQuiet (decimal_change f p k)
quiet-decimal_change f p None = quiet-result (gives_none p)
quiet-decimal_change f p (Some k) = quiet-bind (of_result (exponent_step f p k)) _ (quiet-result (exponent_step f p k)) (quiet-mantissa_change f p)

quiet-part_change : (f : FieldData) (p : PreviousData) (kept : Kept) (part : Option (List ℕ)) → IsQuiet (part_change f p kept part)
quiet-part_change f p kept None = quiet-result (gives_none p)
quiet-part_change f p kept (Some part) = quiet-result (text_step f kept part)

quiet-text_change : (l : Bounds) (f : FieldData) (p : PreviousData) (k : Option ℤ) → IsQuiet (text_change l f p k)
quiet-text_change l f p None = quiet-result (gives_none p)
quiet-text_change l f p (Some k) = quiet-bind (of_result (subtraction_step f p k))
    (λ kept. text f.kind false (l.max_text - kept_length kept) >>= part_change f p kept) (quiet-result (subtraction_step f p k))
    (λ kept. quiet-bind (text f.kind false (l.max_text - kept_length kept)) (part_change f p kept)
    (quiet-text f.kind false (l.max_text - kept_length kept)) (quiet-part_change f p kept))

quiet-change : (family : Family) (l : Bounds) (f : FieldData) (p : PreviousData) → IsQuiet (change_in family l f p)
quiet-change (integers range) l f p = quiet-integer_change f p
quiet-change decimals l f p = quiet-decimal_change f p
quiet-change texts l f p = quiet-text_change l f p

quiet-sent : (l : Bounds) (f : FieldData) (p : PreviousData) → IsQuiet (sent l f p)
quiet-sent l f p = quiet-bind (item_in (family f.kind) l f) (λ x. of_result (decide f p true x)) (quiet-item (family f.kind) l f)
    (λ x. quiet-result (decide f p true x))

quiet-by : (operator : Operator) (bit : Bool) (l : Bounds) (f : FieldData) (p : PreviousData) → IsQuiet (field_by operator bit l f p)
quiet-by no_operator bit l f p = quiet-sent l f p
quiet-by Delta bit l f p = quiet-change (family f.kind) l f p
quiet-by Constant bit l f p = quiet-result (decide f p bit nothing)
quiet-by operator true l f p = quiet-sent l f p
quiet-by operator false l f p = quiet-result (decide f p false nothing)

pub quiet-field : (l : Bounds) (f : FieldData) (p : PreviousData) (bit : Bool) → IsQuiet (field_term l f p bit)
unfolding field_term
quiet-field l f p bit = quiet-by f.operator bit l f p

pub quiet-map_bits : (n : ℕ) (has : Bool) → IsQuiet (map_bits n has)
quiet-map_bits n false = tt
quiet-map_bits n true = λ m. tt
