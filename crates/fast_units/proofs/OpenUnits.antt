-- Readers that wait: of the unit that they read some bytes have come, and it is cut.
use Rattle.std.proofs.Common.{refl, ap}
use Rattle.std.specs.Prelude.{◌≡◌, ◌≢◌, ℕ, ◌-◌, ◌<◌, Bool, true, false, List, [], length, ℤ, Option, Some}
use Rattle.fast_wire.specs.meaning.Entities.{HaveNoStop}
use Rattle.fast_wire.specs.meaning.Integers.{Range, unsigned_range, signed_range, exponent_range, delta_range}
use Rattle.fast_wire.specs.meaning.Maps.{map_limit}
use Rattle.fast_value.specs.declared.kinds.Kind.{Kind}
use Rattle.fast_value.specs.declared.kinds.Kind.TheVariants.{UInt32, Int32, UInt64, Int64, Decimal, Ascii, Unicode, Bytes}
use Rattle.fast_value.specs.declared.codes.Code.{Code}
use Rattle.fast_value.specs.declared.codes.Code.TheVariants.{D2, D7, R1}
use Rattle.fast_value.specs.meaning.Kinds.{Family, integers, decimals, texts, family}
use Rattle.fast_value.specs.meaning.Limits.{Bounds}
use Rattle.fast_tree.specs.declared.operators.Operator.{Operator}
use Rattle.fast_tree.specs.declared.operators.Operator.TheVariants.{None as no_operator, Constant, Default, Copy, Increment, Delta, Tail}
use Rattle.fast_tree.specs.meaning.Tree.{FieldData}
use Rattle.fast_dict.specs.meaning.Dictionary.{PreviousData}
use Rattle.fast_dict.specs.meaning.Operators.{decide, kept_length, subtraction_step}
use Rattle.fast_stream.specs.meaning.Phrases.{cut}
use Rattle.fast_stream.specs.meaning.Units.{ascii_text as ascii_phrase}
use Rattle.fast_stream.specs.meaning.Grammar.{Grammar, give, integer, ascii_text, raw, presence_map, of_result}
use Rattle.fast_stream.specs.device.GrammarReaders.{integer_reader, ascii_text_reader, raw_reader, presence_map_reader, reader_of}
use Rattle.fast_stream.specs.meaning.Fields.{text, sized, sent_integer, sent_text, sent_decimal, decimal_from, integer_change}
use Rattle.fast_stream.specs.meaning.Fields.{mantissa_change, decimal_change, part_change, text_change, item_in, item, change_in, sent}
use Rattle.fast_stream.specs.meaning.Fields.{field_by, field_term}
use Rattle.fast_stream.specs.device.Machine.{behind_kept, behind_part_size, stage_term}
use Rattle.fast_units.specs.device.Stages.{term_behind, IsStageOf}
use Rattle.fast_units.specs.device.UnitFronts.{IsAsciiFirst, IsNumberStage, IsBytesStage}
use Rattle.fast_units.specs.device.NextUnits.{IsOpen}
use Rattle.fast_units.specs.device.Taking.{Stays}
use Rattle.fast_units.specs.declared.stages.Stage.{Stage}
use Rattle.fast_units.specs.declared.stages.Stage.TheVariants.{Mantissa, MantissaDelta, Vector, Part, PartVector}
use Rattle.fast_stream.proofs.readers.Integers.{reads-integer, reads-map}
use Rattle.fast_stream.proofs.readers.TextReaders.{reads-raw, reads-ascii}
use Rattle.fast_units.proofs.NextUnits.{runs_cut}
use Rattle.fast_units.proofs.Turning.{stays_as, term_stays, result_done}

pub integer_open : {A : Type 0} (s : Bool) (range : Range) (nullable : Bool) (c : Code) (g : Option ℤ → Grammar A) (w : List ℕ) → IsOpen w
    → Stays (reader_of s (integer range nullable c g)) w
integer_open s range nullable c g w h = runs_cut (integer_reader s range nullable c) (λ x. reader_of s (g x)) w
    ((reads-integer s range nullable c).takes w [] cut (h.no_stop, h.short, refl))

pub ascii_open : {A : Type 0} (s nullable : Bool) (room : ℕ) (g : Option (List ℕ) → Grammar A) (w : List ℕ)
    → ascii_phrase nullable room w [] cut → Stays (reader_of s (ascii_text nullable room g)) w
ascii_open s nullable room g w h = runs_cut (ascii_text_reader nullable room) (λ x. reader_of s (g x)) w ((reads-ascii nullable room).takes w [] cut h)

pub raw_open : {A : Type 0} (s : Bool) (n : ℕ) (g : List ℕ → Grammar A) (w : List ℕ) → length w < n → Stays (reader_of s (raw n g)) w
raw_open s n g w h = runs_cut (raw_reader n []) (λ x. reader_of s (g x)) w ((reads-raw n).takes w [] cut (h, refl))

pub map_open : {A : Type 0} (s : Bool) (g : List ℕ → Grammar A) (w : List ℕ) → HaveNoStop w → length w < map_limit → Stays (reader_of s (presence_map g)) w
map_open s g w h short = runs_cut (presence_map_reader s) (λ x. reader_of s (g x)) w ((reads-map s).takes w [] cut (h, short, refl))

-- The size of a vector.
vector_open : (s : Bool) (kind : Kind) (nullable : Bool) (room : ℕ) (w : List ℕ) → kind ≢ Ascii → IsOpen w → Stays (reader_of s (text kind nullable room)) w
vector_open s Ascii nullable room w other h = absurd (other refl)
vector_open s UInt32 nullable room w other h = integer_open s (unsigned_range 32) nullable D2 (sized room) w h
vector_open s Int32 nullable room w other h = integer_open s (unsigned_range 32) nullable D2 (sized room) w h
vector_open s UInt64 nullable room w other h = integer_open s (unsigned_range 32) nullable D2 (sized room) w h
vector_open s Int64 nullable room w other h = integer_open s (unsigned_range 32) nullable D2 (sized room) w h
vector_open s Decimal nullable room w other h = integer_open s (unsigned_range 32) nullable D2 (sized room) w h
vector_open s Unicode nullable room w other h = integer_open s (unsigned_range 32) nullable D2 (sized room) w h
vector_open s Bytes nullable room w other h = integer_open s (unsigned_range 32) nullable D2 (sized room) w h

text_open : (s : Bool) (kind : Kind) (nullable : Bool) (room : ℕ) (w : List ℕ) → kind ≡ Ascii → ascii_phrase nullable room w [] cut
    → Stays (reader_of s (text kind nullable room)) w
text_open s kind nullable room w e h = stays_as (ap (λ (k : Kind). reader_of s (text k nullable room)) e) (ascii_open s nullable room give w h)

item_open : (s : Bool) (fam : Family) (l : Bounds) (f : FieldData) (w : List ℕ) → f.kind ≢ Ascii → IsOpen w → Stays (reader_of s (item_in fam l f)) w
item_open s (integers range) l f w other h = integer_open s range f.optional D2 (λ x. give (sent_integer f.kind x)) w h
item_open s decimals l f w other h = integer_open s exponent_range f.optional R1 decimal_from w h
item_open s texts l f w other h = term_stays s (text f.kind f.optional l.max_text) (λ v. give (sent_text f.kind v))
    (vector_open s f.kind f.optional l.max_text w other h)

change_open : (s : Bool) (fam : Family) (l : Bounds) (f : FieldData) (p : PreviousData) (w : List ℕ) → IsOpen w → Stays (reader_of s (change_in fam l f p)) w
change_open s (integers range) l f p w h = integer_open s delta_range f.optional D2 (integer_change f p) w h
change_open s decimals l f p w h = integer_open s delta_range f.optional D2 (decimal_change f p) w h
change_open s texts l f p w h = integer_open s (signed_range 31) f.optional D7 (text_change l f p) w h

sent_open : (s : Bool) (l : Bounds) (f : FieldData) (p : PreviousData) (w : List ℕ) → f.kind ≢ Ascii → IsOpen w → Stays (reader_of s (sent l f p)) w
sent_open s l f p w other h = term_stays s (item l f) (λ x. of_result (decide f p true x)) (item_open s (family f.kind) l f w other h)

by_open : (s : Bool) (o : Operator) (l : Bounds) (f : FieldData) (p : PreviousData) (w : List ℕ) → (o ≢ Delta → f.kind ≢ Ascii)
    → o ≢ Constant → IsOpen w → Stays (reader_of s (field_by o true l f p)) w
by_open s no_operator l f p w other h i = sent_open s l f p w (other (λ e. absurd (cc e))) i
by_open s Constant l f p w other h i = absurd (h refl)
by_open s Default l f p w other h i = sent_open s l f p w (other (λ e. absurd (cc e))) i
by_open s Copy l f p w other h i = sent_open s l f p w (other (λ e. absurd (cc e))) i
by_open s Increment l f p w other h i = sent_open s l f p w (other (λ e. absurd (cc e))) i
by_open s Delta l f p w other h i = change_open s (family f.kind) l f p w i
by_open s Tail l f p w other h i = sent_open s l f p w (other (λ e. absurd (cc e))) i

-- A field that begins with an integer.
pub field_open : (s : Bool) (l : Bounds) (f : FieldData) (p : PreviousData) (w : List ℕ) → ¬ (IsAsciiFirst f) → f.operator ≢ Constant
    → IsOpen w → Stays (reader_of s (field_term l f p true)) w
unfolding field_term
field_open s l f p w other h i = by_open s f.operator l f p w (λ no_delta ascii. other (ascii, no_delta)) h i

by_text : (s : Bool) (o : Operator) (l : Bounds) (f : FieldData) (p : PreviousData) (w : List ℕ) → f.kind ≡ Ascii → o ≢ Delta
    → o ≢ Constant → ascii_phrase f.optional l.max_text w [] cut → Stays (reader_of s (sent l f p)) w
by_text s o l f p w e h i j =
    term_stays s (item l f) (λ x. of_result (decide f p true x))
    (stays_as (ap (λ (k : Kind). reader_of s (item_in (family k) l f)) e)
    (term_stays s (text f.kind f.optional l.max_text) (λ v. give (sent_text f.kind v))
    (text_open s f.kind f.optional l.max_text w e j)))

by_ascii : (s : Bool) (o : Operator) (l : Bounds) (f : FieldData) (p : PreviousData) (w : List ℕ) → f.kind ≡ Ascii → o ≢ Delta
    → o ≢ Constant → ascii_phrase f.optional l.max_text w [] cut → Stays (reader_of s (field_by o true l f p)) w
by_ascii s no_operator l f p w e h i j = by_text s no_operator l f p w e h i j
by_ascii s Constant l f p w e h i j = absurd (i refl)
by_ascii s Default l f p w e h i j = by_text s Default l f p w e h i j
by_ascii s Copy l f p w e h i j = by_text s Copy l f p w e h i j
by_ascii s Increment l f p w e h i j = by_text s Increment l f p w e h i j
by_ascii s Delta l f p w e h i j = absurd (h refl)
by_ascii s Tail l f p w e h i j = by_text s Tail l f p w e h i j

-- A field that is an ASCII text.
pub ascii_field_open : (s : Bool) (l : Bounds) (f : FieldData) (p : PreviousData) (w : List ℕ) → IsAsciiFirst f → f.operator ≢ Constant
    → ascii_phrase f.optional l.max_text w [] cut → Stays (reader_of s (field_term l f p true)) w
unfolding field_term
ascii_field_open s l f p w h i j = by_ascii s f.operator l f p w h.0 h.1 i j

-- A later unit of a field that is an integer.
pub number_open : (s : Bool) (l : Bounds) (f : FieldData) (p : PreviousData) (stage : Stage) (w : List ℕ) → IsStageOf l f p stage
    → IsNumberStage f stage → IsOpen w → Stays (reader_of s (term_behind l f p stage)) w
unfolding stage_term
number_open s l f p (Mantissa e) w h i j = integer_open s (signed_range 63) false R1 (λ m. of_result (decide f p true (sent_decimal e m))) w j
number_open s l f p (MantissaDelta e) w h i j = integer_open s delta_range false D2 (mantissa_change f p e) w j
number_open s l f p (Vector n) w h i j = absurd i
number_open s l f p (Part k) w (fam, delta, (kept, e)) i j =
    stays_as (result_done s (subtraction_step f p k) (λ x. stage_term l f p (behind_kept x)) e)
    (term_stays s (text f.kind false (l.max_text - kept_length kept)) (part_change f p kept) (vector_open s f.kind false (l.max_text - kept_length kept) w i j))
number_open s l f p (PartVector k n) w h i j = absurd i

-- A later unit of a field that is a text or a run of bytes.
pub bytes_open : (s : Bool) (l : Bounds) (f : FieldData) (p : PreviousData) (stage : Stage) (w : List ℕ) → IsStageOf l f p stage
    → IsBytesStage l f p stage w → Stays (reader_of s (term_behind l f p stage)) w
unfolding stage_term
bytes_open s l f p (Mantissa e) w h i = absurd i
bytes_open s l f p (MantissaDelta e) w h i = absurd i
bytes_open s l f p (Vector n) w h i = raw_open s n (λ v. of_result (decide f p true (sent_text f.kind (Some v)))) w i
bytes_open s l f p (Part k) w h (ascii, (kept, e, goes_on)) =
    stays_as (result_done s (subtraction_step f p k) (λ x. stage_term l f p (behind_kept x)) e)
    (term_stays s (text f.kind false (l.max_text - kept_length kept)) (part_change f p kept)
    (text_open s f.kind false (l.max_text - kept_length kept) w ascii goes_on))
bytes_open s l f p (PartVector k n) w (fam, other, delta, some, (kept, e, fits)) i =
    stays_as (result_done s (subtraction_step f p k) (λ x. stage_term l f p (behind_part_size x n)) e)
    (raw_open s n (λ v. part_change f p kept (Some v)) w i)
