-- Fields that stand in the stream, and fields of which nothing is sent, in front of what follows.
use Rattle.std.proofs.Common.{refl, sym, ap, ◌∙◌, subst}
use Rattle.std.specs.Prelude.{◌≡◌, ◌≢◌, ℕ, Bool, true, List, ℤ, Option, Ok, Err}
use Rattle.fast_wire.specs.meaning.Integers.{Range, unsigned_range, signed_range, exponent_range, delta_range}
use Rattle.fast_value.specs.declared.kinds.Kind.{Kind}
use Rattle.fast_value.specs.declared.kinds.Kind.TheVariants.{UInt32, Int32, UInt64, Int64, Decimal, Ascii, Unicode, Bytes}
use Rattle.fast_value.specs.meaning.Kinds.{Family, integers, decimals, texts, family}
use Rattle.fast_value.specs.meaning.Limits.{Bounds}
use Rattle.fast_value.specs.declared.codes.Code.{Code}
use Rattle.fast_value.specs.declared.codes.Code.TheVariants.{D2, D7, R1}
use Rattle.fast_tree.specs.declared.operators.Operator.{Operator}
use Rattle.fast_tree.specs.declared.operators.Operator.TheVariants.{None as no_operator, Constant, Default, Copy, Increment, Delta, Tail}
use Rattle.fast_tree.specs.meaning.Tree.{FieldData}
use Rattle.fast_dict.specs.meaning.Dictionary.{PreviousData, previous_at}
use Rattle.fast_dict.specs.meaning.Operators.{Outcome, nothing, decide}
use Rattle.fast_stream.specs.device.Readers.{Stop, bind}
use Rattle.fast_stream.specs.meaning.Grammar.{Grammar, give, integer, ascii_text, ◌>>=◌, of_result}
use Rattle.fast_stream.specs.device.GrammarReaders.{integer_reader, ascii_text_reader, reader_of}
use Rattle.fast_stream.specs.meaning.Fields.{text, sized, sent_integer, sent_text, decimal_from, integer_change, decimal_change}
use Rattle.fast_stream.specs.meaning.Fields.{text_change, item_in, item, change_in, sent, field_by, field_term}
use Rattle.fast_stream.specs.meaning.Messages.{State, Found, field_in, found}
use Rattle.fast_units.specs.device.Taking.{Waits}
use Rattle.fast_units.specs.device.UnitFronts.{IsSent}
use Rattle.fast_machine.specs.device.Positions.{bit_of}
use Rattle.fast_stream.proofs.readers.Grammars.{bind-assoc, reader-then}
use Rattle.fast_units.proofs.Turning.{waits_on}

-- A term that begins with an integer or a text waits, whatever follows it.
pub integer_waits : {A : Type 0} (s : Bool) (range : Range) (nullable : Bool) (c : Code) (g : Option ℤ → Grammar A)
    → Waits (reader_of s (integer range nullable c g))
unfolding integer_reader
integer_waits s range nullable c g = (_, refl)

ascii_waits : {A : Type 0} (s nullable : Bool) (room : ℕ) (g : Option (List ℕ) → Grammar A) → Waits (reader_of s (ascii_text nullable room g))
unfolding ascii_text_reader
ascii_waits s nullable room g = (_, refl)

pub text_waits : (s : Bool) (kind : Kind) (nullable : Bool) (room : ℕ) → Waits (reader_of s (text kind nullable room))
text_waits s Ascii nullable room = ascii_waits s nullable room give
text_waits s UInt32 nullable room = integer_waits s (unsigned_range 32) nullable D2 (sized room)
text_waits s Int32 nullable room = integer_waits s (unsigned_range 32) nullable D2 (sized room)
text_waits s UInt64 nullable room = integer_waits s (unsigned_range 32) nullable D2 (sized room)
text_waits s Int64 nullable room = integer_waits s (unsigned_range 32) nullable D2 (sized room)
text_waits s Decimal nullable room = integer_waits s (unsigned_range 32) nullable D2 (sized room)
text_waits s Unicode nullable room = integer_waits s (unsigned_range 32) nullable D2 (sized room)
text_waits s Bytes nullable room = integer_waits s (unsigned_range 32) nullable D2 (sized room)

-- Waiting, in front of what follows.
pub term_waits : {A B : Type 0} (s : Bool) (g : Grammar A) (k : A → Grammar B) → Waits (reader_of s g) → Waits (reader_of s (g >>= k))
term_waits s g k h = subst Waits (sym (reader-then s g k)) (waits_on (reader_of s g) (λ x. reader_of s (k x)) h)

item_waits : (s : Bool) (fam : Family) (l : Bounds) (f : FieldData) → Waits (reader_of s (item_in fam l f))
item_waits s (integers range) l f = integer_waits s range f.optional D2 (λ x. give (sent_integer f.kind x))
item_waits s decimals l f = integer_waits s exponent_range f.optional R1 decimal_from
item_waits s texts l f = term_waits s (text f.kind f.optional l.max_text) (λ v. give (sent_text f.kind v)) (text_waits s f.kind f.optional l.max_text)

change_waits : (s : Bool) (fam : Family) (l : Bounds) (f : FieldData) (p : PreviousData) → Waits (reader_of s (change_in fam l f p))
change_waits s (integers range) l f p = integer_waits s delta_range f.optional D2 (integer_change f p)
change_waits s decimals l f p = integer_waits s delta_range f.optional D2 (decimal_change f p)
change_waits s texts l f p = integer_waits s (signed_range 31) f.optional D7 (text_change l f p)

sent_waits : (s : Bool) (l : Bounds) (f : FieldData) (p : PreviousData) → Waits (reader_of s (sent l f p))
sent_waits s l f p = term_waits s (item l f) (λ x. of_result (decide f p true x)) (item_waits s (family f.kind) l f)

by_waits : (s : Bool) (o : Operator) (l : Bounds) (f : FieldData) (p : PreviousData) → o ≢ Constant → Waits (reader_of s (field_by o true l f p))
by_waits s no_operator l f p h = sent_waits s l f p
by_waits s Constant l f p h = absurd (h refl)
by_waits s Default l f p h = sent_waits s l f p
by_waits s Copy l f p h = sent_waits s l f p
by_waits s Increment l f p h = sent_waits s l f p
by_waits s Delta l f p h = change_waits s (family f.kind) l f p
by_waits s Tail l f p h = sent_waits s l f p

-- A field that stands in the stream waits for a byte.
pub field_waits : (s : Bool) (l : Bounds) (f : FieldData) (p : PreviousData) → f.operator ≢ Constant → Waits (reader_of s (field_term l f p true))
unfolding field_term
field_waits s l f p h = by_waits s f.operator l f p h

-- the previous value of a field
abbrev pub before : FieldData → State → PreviousData
before f st = previous_at f.entry st.context.dictionary

-- A field in front of what follows it.
pub field_then : {A : Type 0} (s : Bool) (l : Bounds) (f : FieldData) (st : State) (k : Found → Grammar A)
    → reader_of s (field_in l f st >>= k) ≡ bind (reader_of s (field_term l f (before f st) (bit_of f st))) (λ o. reader_of s (k (found f st o)))
field_then s l f st k =
    let g = field_term l f (before f st) (bit_of f st) in
    reader-then s (g >>= (λ o. give (found f st o))) k
    ∙ ap (λ r. bind r (λ x. reader_of s (k x))) (reader-then s g (λ o. give (found f st o)))
    ∙ bind-assoc (reader_of s g) (λ o. reader_of s (give (found f st o))) (λ x. reader_of s (k x))

-- A field that stands in the stream, in front of what follows it.
pub field_sent : {A : Type 0} (s : Bool) (l : Bounds) (f : FieldData) (st : State) (k : Found → Grammar A) → IsSent f (bit_of f st)
    → reader_of s (field_in l f st >>= k) ≡ bind (reader_of s (field_term l f (before f st) true)) (λ o. reader_of s (k (found f st o)))
field_sent s l f st k h = field_then s l f st k ∙ ap (λ g. bind (reader_of s g) (λ o. reader_of s (k (found f st o)))) (h.as_sent l (before f st))

-- It waits for a byte.
pub field_sent_waits : {A : Type 0} (s : Bool) (l : Bounds) (f : FieldData) (st : State) (k : Found → Grammar A) → IsSent f (bit_of f st)
    → Waits (reader_of s (field_in l f st >>= k))
field_sent_waits s l f st k h = subst Waits (sym (field_sent s l f st k h))
    (waits_on (reader_of s (field_term l f (before f st) true)) (λ o. reader_of s (k (found f st o)))
    (field_waits s l f (before f st) h.varies))

-- A field of which nothing is sent, and what is decided for it.
pub field_unsent : {A : Type 0} (s : Bool) (l : Bounds) (f : FieldData) (st : State) (k : Found → Grammar A) (o : Outcome)
    → field_term l f (before f st) (bit_of f st) ≡ of_result (decide f (before f st) (bit_of f st) nothing)
    → decide f (before f st) (bit_of f st) nothing ≡ Ok o
    → reader_of s (field_in l f st >>= k) ≡ reader_of s (k (found f st o))
field_unsent s l f st k o e i =
    field_then s l f st k ∙ ap (λ g. bind (reader_of s g) (λ x. reader_of s (k (found f st x)))) (e ∙ ap of_result i)

pub field_at_fault : {A : Type 0} (s : Bool) (l : Bounds) (f : FieldData) (st : State) (k : Found → Grammar A) (c : Code)
    → field_term l f (before f st) (bit_of f st) ≡ of_result (decide f (before f st) (bit_of f st) nothing)
    → decide f (before f st) (bit_of f st) nothing ≡ Err c
    → reader_of s (field_in l f st >>= k) ≡ Stop c
field_at_fault s l f st k c e i =
    field_then s l f st k ∙ ap (λ g. bind (reader_of s g) (λ x. reader_of s (k (found f st x)))) (e ∙ ap of_result i)
