-- Decimals whose units both stand whole in the piece.
use Rattle.std.proofs.Common.{refl, sym, ap, ◌∙◌, subst, arith, inl, inr}
use Rattle.std.specs.Prelude.{◌≡◌, ◌≢◌, ◌⊎◌, ℕ, ◌+◌, ◌-◌, ◌<◌, ◌≤◌, Bool, true, false, if◌then◌else◌, List, ◌++◌, length, take, drop, ℤ}
use Rattle.std.specs.Prelude.{◌+ℤ◌, Option, Some, None, IfSome, Ok, Err}
use Rattle.std.proofs.lemmas.List.{take_rest, length-drop}
use Rattle.std.proofs.Math.Seq.{take-add}
use Rattle.fast_fronts.specs.device.Fronts.{IsFirstInt}
use Rattle.fast_fronts.specs.declared.fronts.First.TheVariants as First
use Rattle.fast_wire.specs.meaning.Integers.{Range, IsWithin, signed_range, exponent_range, delta_range}
use Rattle.fast_value.specs.declared.codes.Code.{Code}
use Rattle.fast_value.specs.declared.codes.Code.TheVariants.{D2, R1}
use Rattle.fast_value.specs.declared.kinds.Kind.TheVariants.{Decimal}
use Rattle.fast_value.specs.meaning.Kinds.{Dec, family, texts}
use Rattle.fast_value.specs.meaning.Limits.{Bounds}
use Rattle.fast_tree.specs.declared.operators.Operator.{Operator}
use Rattle.fast_tree.specs.declared.operators.Operator.TheVariants as Op
use Rattle.fast_tree.specs.meaning.Tree.{FieldData}
use Rattle.fast_dict.specs.meaning.Dictionary.{Dictionary, PreviousData, empty, assigned, previous_at, write_at}
use Rattle.fast_dict.specs.meaning.Operators.{decide, delta_base, of_kind, ranged, exponent_step, mantissa_step, keeps, gives_none}
use Rattle.fast_dict.specs.meaning.Stores.{Terms}
use Rattle.fast_stream.specs.meaning.Grammar.{Grammar, give, integer, ◌>>=◌, of_result}
use Rattle.fast_stream.specs.meaning.Fields.{decimal_from, decimal_change, mantissa_change, field_term}
use Rattle.fast_stream.specs.device.Readers.{Reader}
use Rattle.fast_stream.specs.device.GrammarReaders.{reader_of}
use Rattle.fast_stream.proofs.readers.Integers.{decides-within}
use Rattle.fast_units.specs.device.Taking.{Turns, IsUnit}
use Rattle.fast_units.specs.device.Settling.{Serves, IsLastUnit}
use Rattle.fast_units.specs.device.Deciding.{number_data, sent_number, source_of, IsDecided}
use Rattle.fast_items.specs.device.FieldsAs.{IsFieldAs}
use Rattle.fast_units.specs.declared.fields.Number.{Number}
use Rattle.fast_units.specs.declared.source.ValueSource.TheVariants as From
use Rattle.fast_units.specs.declared.progress.Progress.TheVariants.{Whole}
use Rattle.fast_units.proofs.Deciding.{value_decided, null_decided, none_decided, no_entry, item_value}
use Rattle.fast_units.proofs.ShortIntegers.{keeps_none}
use Rattle.fast_units.proofs.Turning.{turns_as, turns_run, term_turns, result_done}
use Rattle.fast_units.proofs.NextUnits.{first_whole}
use Rattle.fast_units.proofs.LastUnits.{Begins, exponent_field, exponent_delta_field, last_unit}

-- A number that lies in the range.
pub ranged_within : (range : Range) (c : Code) (x : ℤ) → IsWithin range x → ranged range c x ≡ Ok x
ranged_within range c x h = ap (λ b. if b then Ok x else Err c) ((decides-within range x).1 h)

-- A delta that lies in the range of exponents, or NULL, is spelled like an exponent.
pub first_exponent : (strict nullable : Bool) (rest : List ℕ) (x : Option ℤ) (n : ℕ)
    → IsFirstInt (λ y. y) strict delta_range nullable (First.Whole x n) rest → IfSome x (IsWithin exponent_range)
    → IsFirstInt (λ y. y) strict exponent_range nullable (First.Whole x n) rest
first_exponent strict nullable rest x n h fits = (
  h.0,
  record {
    form = record { entity = h.1.form.entity; short = h.1.form.short; shortest = h.1.form.shortest };
    meaning = h.1.meaning;
    fits = fits;
  },
)

-- Two integers that stand whole one behind the other are taken one behind the other.
pub two_units : {A : Type 0} (s : Bool) (r : Reader A) (one two : Range) (nullable : Bool) (c d : Code) (k m : Option ℤ → Grammar A)
    (rest : List ℕ) (x y : Option ℤ) (a b : ℕ)
    → r ≡ reader_of s (integer one nullable c give >>= k) → reader_of s (k x) ≡ reader_of s (integer two false d give >>= m)
    → IsFirstInt (λ z. z) s one nullable (First.Whole x a) rest → IsFirstInt (λ z. z) s two false (First.Whole y b) (take (length rest - a) (drop a rest))
    → (0 < a + b) × (a + b ≤ length rest) × Turns r (take (a + b) rest) (reader_of s (m y))
two_units s r one two nullable c d k m rest x y a b here next first second =
    let left : List ℕ = take (length rest - a) (drop a rest) in
    let (some, within, t) = first_whole (λ z. z) s one nullable c rest x a first in
    let (more, inside, u) = first_whole (λ z. z) s two false d left y b second in
    let all : take a rest ++ take b left ≡ take (a + b) rest = ap (λ w. take a rest ++ take b w) (take_rest rest a) ∙ sym (take-add a b rest) in
    let size : length left ≡ length rest - a = ap length (take_rest rest a) ∙ length-drop a rest in (
      omega (arith, some),
      omega (arith, within, inside, size),
      subst (λ (w : List ℕ). Turns r w (reader_of s (m y))) all
          (turns_run (turns_as here refl (term_turns s (integer one nullable c give) k t)) (turns_as next refl (term_turns s (integer two false d give) m u))),
    )

-- A field of decimals, by its kind.
pub no_texts : (f : FieldData) → f.kind ≡ Decimal → family f.kind ≢ texts
no_texts f e i = absurd (cc (e, i))

-- A decimal, or NULL, that is whole in the piece is its field.
pub decimal_unit : (s b : Bool) (l : Bounds) (f : FieldData) (rest : List ℕ) (old new : Dictionary) (scratch : List ℕ) (item : Option Number) (n : ℕ)
    → f.kind ≡ Decimal → f.optional ≡ b → f.operator ≢ Op.Delta → f.operator ≢ Op.Constant
    → IsUnit (reader_of s (integer exponent_range b R1 decimal_from)) sent_number rest (Whole item n)
    → IsDecided (decide f (previous_at f.entry old) true (sent_number item)) f old new (Ok (source_of item))
    → IsLastUnit (reader_of s (field_term l f (previous_at f.entry old) true)) f rest old new scratch (Whole (source_of item) n)
decimal_unit s b l f rest old new scratch item n kind optional no_delta no_constant unit decided =
    let p = previous_at f.entry old in
    let here : Begins (reader_of s (field_term l f p true)) s (integer exponent_range b R1 decimal_from) (λ y. of_result (decide f p true y)) = record {
      same = (exponent_field s l f p (ap family kind) no_delta no_constant).same
          ∙ ap (λ o. reader_of s (integer exponent_range o R1 decimal_from >>= (λ y. of_result (decide f p true y)))) optional;
    } in
    last_unit here f rest old new scratch (sent_number item) n (decide f p true (sent_number item)) (Ok (source_of item)) refl decided unit

-- It is kept nowhere where the operator keeps no value.
pub plain_unit : {e : ℕ} {t : Terms} (s b : Bool) (o : Operator) (at : ℕ) (l : Bounds) (f : FieldData) (rest : List ℕ) (old : Dictionary)
    (scratch : List ℕ) (item : Option Number) (n : ℕ)
    → IsFieldAs f Decimal b o at → Serves e t f → (o ≡ Op.None) ⊎ (o ≡ Op.Default)
    → IsUnit (reader_of s (integer exponent_range b R1 decimal_from)) sent_number rest (Whole item n)
    → IsLastUnit (reader_of s (field_term l f (previous_at f.entry old) true)) f rest old old scratch (Whole (source_of item) n)
plain_unit s b o at l f rest old scratch item n is serves plain unit =
    decimal_unit s b l f rest old old scratch item n is.kind is.optional no_delta no_constant unit (decided item)
  where
    other : (p : Operator) → p ≢ Op.None → p ≢ Op.Default → f.operator ≢ p
    other p i j h = by plain
      where
        same : o ≡ p
        same = sym is.operator ∙ h

        by : (o ≡ Op.None) ⊎ (o ≡ Op.Default) → ⊥
        by (inl e) = i (sym same ∙ e)
        by (inr e) = j (sym same ∙ e)

    no_delta : f.operator ≢ Op.Delta
    no_delta = other Op.Delta (λ e. absurd (cc e)) (λ e. absurd (cc e))

    no_constant : f.operator ≢ Op.Constant
    no_constant = other Op.Constant (λ e. absurd (cc e)) (λ e. absurd (cc e))

    same : (q : PreviousData) → old ≡ write_at f.entry q old
    same q = sym (ap (λ e. write_at e q old) (no_entry f serves (keeps_none o f.operator (sym is.operator) plain)))

    decided : (x : Option Number) → IsDecided (decide f (previous_at f.entry old) true (sent_number x)) f old old (Ok (source_of x))
    decided None = null_decided f serves (no_texts f is.kind) old old no_delta no_constant (same empty)
    decided (Some x) = value_decided f serves (no_texts f is.kind) old old (number_data x) (source_of (Some x)) no_delta no_constant
        (same (assigned f.kind (number_data x))) (item_value (Some x) f)

-- What a delta is added to, where the entry holds a decimal.
module _ (f : FieldData) (p : PreviousData) (e m : ℤ) (kind : f.kind ≡ Decimal) (held : p ≡ assigned Decimal (Dec e m)) where
  base_held : delta_base f p ≡ Ok (Dec e m)
  base_held = ap (delta_base f) held ∙ ap (λ k. of_kind k Decimal (Dec e m)) kind

  pub exponent_stepped : (k x : ℤ) → ranged exponent_range R1 (e +ℤ k) ≡ Ok x → exponent_step f p k ≡ Ok x
  exponent_stepped k x h = rw base_held h

  pub mantissa_stepped : (x j y : ℤ) → ranged (signed_range 63) R1 (m +ℤ j) ≡ Ok y → mantissa_step f p x j ≡ keeps f.kind (Dec x y)
  mantissa_stepped x j y h = rw (base_held, h) refl

-- A decimal under delta begins with the delta of its exponent.
delta_here : (s b : Bool) (l : Bounds) (f : FieldData) (p : PreviousData) → f.kind ≡ Decimal → f.optional ≡ b → f.operator ≡ Op.Delta
    → Begins (reader_of s (field_term l f p true)) s (integer delta_range b D2 give) (decimal_change f p)
delta_here s b l f p kind optional delta = record {
  same = (exponent_delta_field s l f p (ap family kind) delta).same ∙ ap (λ o. reader_of s (integer delta_range o D2 give >>= decimal_change f p)) optional;
}

-- NULL in the place of a delta leaves the entry as it is.
pub null_unit : (s b : Bool) (l : Bounds) (f : FieldData) (rest : List ℕ) (old : Dictionary) (scratch : List ℕ) (x : Option ℤ) (n : ℕ)
    → f.kind ≡ Decimal → f.optional ≡ b → f.operator ≡ Op.Delta → x ≡ None → IsFirstInt (λ z. z) s delta_range b (First.Whole x n) rest
    → IsLastUnit (reader_of s (field_term l f (previous_at f.entry old) true)) f rest old old scratch (Whole From.Absent n)
null_unit s b l f rest old scratch x n kind optional delta none first =
    let p = previous_at f.entry old in
    last_unit (delta_here s b l f p kind optional delta)
    f rest old old scratch x n (gives_none p) (Ok From.Absent) (ap (decimal_change f p) none) (none_decided f old)
    (first_whole (λ z. z) s delta_range b D2 rest x n first)

-- The deltas of both units are added to the decimal that the entry holds.
pub changed_unit : (s b : Bool) (l : Bounds) (f : FieldData) (rest : List ℕ) (old new : Dictionary) (scratch : List ℕ) (e m k j x y : ℤ)
    (d : Option ℤ) (a n : ℕ)
    → f.kind ≡ Decimal → f.optional ≡ b → f.operator ≡ Op.Delta → previous_at f.entry old ≡ assigned Decimal (Dec e m)
    → d ≡ Some k → IsFirstInt (λ z. z) s delta_range b (First.Whole d a) rest → ranged exponent_range R1 (e +ℤ k) ≡ Ok x
    → IsFirstInt (λ z. z) s delta_range false (First.Whole (Some j) n) (take (length rest - a) (drop a rest)) → ranged (signed_range 63) R1 (m +ℤ j) ≡ Ok y
    → new ≡ write_at f.entry (assigned f.kind (Dec x y)) old
    → IsLastUnit (reader_of s (field_term l f (previous_at f.entry old) true)) f rest old new scratch (Whole (From.Decimal x y) (a + n))
changed_unit s b l f rest old new scratch e m k j x y d a n kind optional delta held some first exponent second mantissa kept =
    let p = previous_at f.entry old in
    let next : reader_of s (decimal_change f p d) ≡ reader_of s (integer delta_range false D2 give >>= mantissa_change f p x) =
    ap (λ z. reader_of s (decimal_change f p z)) some ∙ result_done s (exponent_step f p k)
    (λ z. integer delta_range false D2 (mantissa_change f p z)) (exponent_stepped f p e m kind held k x exponent) in
    let (has, within, t) = two_units s (reader_of s (field_term l f p true)) delta_range delta_range b D2 D2 (decimal_change f p)
    (mantissa_change f p x) rest d (Some j) a n
    ((delta_here s b l f p kind optional delta).same) next first second in (
      has,
      within,
      record {
        outcome = record { value = Some (Dec x y); next = assigned f.kind (Dec x y) };
        turns = turns_as refl (sym (ap (λ q. reader_of s (of_result q)) (mantissa_stepped f p e m kind held x j y mantissa))) t;
        settled = record { value = refl; dictionary = kept };
      },
    )
