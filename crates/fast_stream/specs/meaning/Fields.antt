-- A field as a term: its bytes under its operator and its previous value.
use Rattle.std.specs.Prelude.{◌≡◌, ℕ, ◌-◌, Bool, true, false, nat_le, nat_abs, if◌then◌else◌, List, [], ℤ, Option, Some, None, Ok, Err}
use Rattle.fast_wire.specs.meaning.Integers.{unsigned_range, signed_range, exponent_range, delta_range}
use Rattle.fast_value.specs.declared.kinds.Kind.{Kind}
use Rattle.fast_value.specs.declared.kinds.Kind.TheVariants.{Ascii}
use Rattle.fast_value.specs.meaning.Kinds.{ScalarData, Dec, Family, integers, decimals, texts, family, value_of_integer, value_of_text}
use Rattle.fast_value.specs.declared.settings.Limits.{Limits}
use Rattle.fast_value.specs.meaning.Limits.{Bounds, bounds}
use Rattle.fast_value.specs.declared.codes.Code.TheVariants.{D2, D7, L1, R1}
use Rattle.fast_tree.specs.declared.operators.Operator.{Operator}
use Rattle.fast_tree.specs.declared.operators.Operator.TheVariants.{None as no_operator, Constant, Delta}
use Rattle.fast_tree.specs.meaning.Tree.{FieldData}
use Rattle.fast_dict.specs.meaning.Dictionary.{Dictionary, PreviousData, previous_at, write_at}
use Rattle.fast_dict.specs.meaning.Operators.{Outcome, gives_none, Sent, nothing, null, value, decide, integer_step, exponent_step}
use Rattle.fast_dict.specs.meaning.Operators.{mantissa_step, Kept, kept_length, subtraction_step, text_step}
use Rattle.fast_stream.specs.meaning.Phrases.{whole, Phrase}
use Rattle.fast_stream.specs.meaning.Grammar.{Grammar, give, integer, ascii_text, raw, ◌>>=◌, of_result, phrase_of}

-- a vector's bytes once its size is known
-- FAST 1.1: Transfer Encoding, Byte Vectors.
abbrev pub sized : ℕ → Option ℤ → Grammar (Option (List ℕ))
sized room None = give None
sized room (Some n) = of_result (if nat_le (nat_abs n) room then Ok (nat_abs n) else Err L1) >>= (λ size. raw size (λ v. give (Some v)))

-- A string of a string type, or a part of one: as ASCII, or as a vector, which has its size in front.
-- FAST 1.1: Transfer Encoding, ASCII Strings, Unicode Strings and Byte Vectors.
abbrev pub text : Kind → Bool → ℕ → Grammar (Option (List ℕ))
text Ascii nullable room = ascii_text nullable room give
text kind nullable room = integer (unsigned_range 32) nullable D2 (sized room)

-- an integer, or NULL, as an item of an integer type
-- FAST 1.1: Transfer Encoding, Nullable Types.
abbrev pub sent_integer : Kind → Option ℤ → Sent
sent_integer kind None = null
sent_integer kind (Some x) = value (value_of_integer kind x)

-- a string, or NULL, as an item of a string type
-- FAST 1.1: Transfer Encoding, Nullable Types.
abbrev pub sent_text : Kind → Option (List ℕ) → Sent
sent_text kind None = null
sent_text kind (Some v) = value (value_of_text kind v)

-- the mantissa of a decimal whose exponent is not NULL
-- FAST 1.1: Transfer Encoding, Scaled Numbers.
abbrev pub sent_decimal : ℤ → Option ℤ → Sent
sent_decimal e None = null
sent_decimal e (Some m) = value (Dec e m)

-- a decimal after its exponent
-- FAST 1.1: Transfer Encoding, Scaled Numbers; Error Codes, R1.
abbrev pub decimal_from : Option ℤ → Grammar Sent
decimal_from None = give null
decimal_from (Some e) = integer (signed_range 63) false R1 (λ m. give (sent_decimal e m))

-- an item of each family
-- FAST 1.1: Transfer Encoding, Field Instructions.
abbrev pub item_in : Family → Bounds → FieldData → Grammar Sent
item_in (integers range) l f = integer range f.optional D2 (λ x. give (sent_integer f.kind x))
item_in decimals l f = integer exponent_range f.optional R1 decimal_from
item_in texts l f = text f.kind f.optional l.max_text >>= (λ v. give (sent_text f.kind v))

-- a value of the field's type, or NULL
-- FAST 1.1: Transfer Encoding, Field Instructions.
abbrev pub item : Bounds → FieldData → Grammar Sent
item l f = item_in (family f.kind) l f

-- An integer after its delta. NULL is absent, and leaves the previous value unchanged, as in all deltas.
-- FAST 1.1: Template Definition, Delta Operator.
abbrev pub integer_change : FieldData → PreviousData → Option ℤ → Grammar Outcome
integer_change f p None = of_result (gives_none p)
integer_change f p (Some k) = of_result (integer_step f p k)

-- a decimal after its mantissa delta
-- FAST 1.1: Template Definition, Delta Operator.
abbrev pub mantissa_change : FieldData → PreviousData → ℤ → Option ℤ → Grammar Outcome
mantissa_change f p e None = of_result (gives_none p)
mantissa_change f p e (Some j) = of_result (mantissa_step f p e j)

-- the mantissa delta after the exponent delta
-- FAST 1.1: Template Definition, Delta Operator.
abbrev pub decimal_change : FieldData → PreviousData → Option ℤ → Grammar Outcome
decimal_change f p None = of_result (gives_none p)
decimal_change f p (Some k) =
    of_result (exponent_step f p k) >>= (λ e.
    integer delta_range false D2 (mantissa_change f p e))

-- a string after the part of its delta
-- FAST 1.1: Template Definition, Delta Operator.
abbrev pub part_change : FieldData → PreviousData → Kept → Option (List ℕ) → Grammar Outcome
part_change f p kept None = of_result (gives_none p)
part_change f p kept (Some part) = of_result (text_step f kept part)

-- the part after the subtraction length
-- FAST 1.1: Template Definition, Delta Operator.
abbrev pub text_change : Bounds → FieldData → PreviousData → Option ℤ → Grammar Outcome
text_change l f p None = of_result (gives_none p)
text_change l f p (Some k) =
    of_result (subtraction_step f p k) >>= (λ kept.
    text f.kind false (l.max_text - kept_length kept) >>= part_change f p kept)

-- a delta in each family
-- FAST 1.1: Template Definition, Delta Operator.
abbrev pub change_in : Family → Bounds → FieldData → PreviousData → Grammar Outcome
change_in (integers range) l f p = integer delta_range f.optional D2 (integer_change f p)
change_in decimals l f p = integer delta_range f.optional D2 (decimal_change f p)
change_in texts l f p = integer (signed_range 31) f.optional D7 (text_change l f p)

-- the delta of the field
-- FAST 1.1: Template Definition, Delta Operator.
abbrev pub change : Bounds → FieldData → PreviousData → Grammar Outcome
change l f p = change_in (family f.kind) l f p

-- a field that is in the stream
-- FAST 1.1: Template Definition, Field Operators.
abbrev pub sent : Bounds → FieldData → PreviousData → Grammar Outcome
sent l f p = item l f >>= (λ x. of_result (decide f p true x))

-- a field of which nothing is sent
-- FAST 1.1: Template Definition, Field Operators.
abbrev pub not_sent : FieldData → PreviousData → Bool → Grammar Outcome
not_sent f p bit = of_result (decide f p bit nothing)

-- the field under its operator, which is one of these
-- FAST 1.1: Template Definition, Field Operators.
abbrev pub field_by : Operator → Bool → Bounds → FieldData → PreviousData → Grammar Outcome
field_by no_operator bit l f p = sent l f p
field_by Delta bit l f p = change l f p
field_by Constant bit l f p = not_sent f p bit
field_by operator true l f p = sent l f p
field_by operator false l f p = not_sent f p false

-- The field under its previous value and its presence bit (which counts as set if it uses none).
-- FAST 1.1: Transfer Encoding, Field Instructions.
unfoldable pub field_term : Bounds → FieldData → PreviousData → Bool → Grammar Outcome
field_term l f p bit = field_by f.operator bit l f p

-- the field as a phrase
abbrev pub field_phrase : Limits → FieldData → PreviousData → Bool → Phrase Outcome
field_phrase l f p bit = phrase_of l.strict (field_term (bounds l) f p bit)

-- The bytes encode the value, or absence, of the field; of the dictionary its entry alone changes.
-- FAST 1.1: Transfer Encoding, Field Instructions.
abbrev pub SpellsField : Limits → FieldData → Dictionary → Bool → Option ScalarData → List ℕ → Dictionary → Type 0
SpellsField l f d bit v w d' = (next : PreviousData) × field_phrase l f (previous_at f.entry d) bit w [] (whole (record {
  value = v;
  next = next;
})) × (d' ≡ write_at f.entry next d)
