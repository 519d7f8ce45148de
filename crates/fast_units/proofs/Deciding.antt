-- What is decided for a field, case by case.
use Rattle.std.proofs.Common.{refl, sym, ap, ◌∙◌, subst}
use Rattle.std.specs.Prelude.{◌≡◌, ◌≢◌, ℕ, zero, suc, Bool, true, false, List, [], ◌∷◌, slice_index_or, slice_set, is_some, ℤ}
use Rattle.std.specs.Prelude.{◌+ℤ◌, if◌then◌else◌, Option, Some, None, option_map, Result, Ok, Err}
use Rattle.fast_value.specs.declared.kinds.Kind.{Kind}
use Rattle.fast_value.specs.declared.kinds.Kind.TheVariants.{UInt32, Int32, UInt64, Int64, Decimal, Ascii, Unicode, Bytes}
use Rattle.fast_value.specs.declared.codes.Code.{Code}
use Rattle.fast_value.specs.declared.codes.Code.TheVariants.{D2, D4}
use Rattle.fast_value.specs.meaning.Kinds.{ScalarData, Family, integers, decimals, texts, family, integer_of, value_of_integer, same_kind}
use Rattle.fast_tree.specs.declared.operators.Operator.{Operator}
use Rattle.fast_tree.specs.declared.operators.Operator.TheVariants as Op
use Rattle.fast_tree.specs.meaning.Tree.{FieldData}
use Rattle.fast_dict.specs.meaning.Dictionary.{Dictionary, PreviousData, undefined, empty, assigned, previous_at, value_in, write_at}
use Rattle.fast_dict.specs.meaning.Operators.{Outcome, delta_base, integer_step, ranged, range_of, checked, checked_in, null}
use Rattle.fast_dict.specs.meaning.Operators.{value, gives, gives_none, decide, decide_by, nothing, fixed, ◌>>=◌, keeps, from_initial}
use Rattle.fast_dict.specs.meaning.Operators.{unsent, next_value}
use Rattle.fast_units.specs.declared.source.ValueSource.{ValueSource}
use Rattle.fast_units.specs.declared.source.ValueSource.TheVariants as From
use Rattle.fast_tree.specs.meaning.Entries.{keeps_value}
use Rattle.fast_dict.specs.meaning.Stores.{Terms}
use Rattle.fast_units.specs.device.Settling.{Serves, value_at, IsSettled}
use Rattle.fast_value.specs.meaning.Limits.{Bounds}
use Rattle.fast_stream.specs.meaning.Grammar.{of_result}
use Rattle.fast_stream.specs.meaning.Fields.{not_sent, field_by, field_term}
use Rattle.fast_units.specs.device.Deciding.{needs_bytes, number_data, source_of, base_integer, IsDecided}
use Rattle.fast_units.specs.declared.fields.Number.{Number}
use Rattle.fast_units.specs.declared.fields.Number.TheVariants as As

-- by another name of what is decided
pub decided_as : (f : FieldData) (old new : Dictionary) (a : Result ValueSource Code) {r r' : Result Outcome Code} → r ≡ r'
    → IsDecided r' f old new a → IsDecided r f old new a
decided_as f old new a {r} {r'} e h = subst (λ x. IsDecided x f old new a) (sym e) h

-- A number at hand is the value where it stands, and NULL is none.
pub item_value : (item : Option Number) (f : FieldData) (d : Dictionary) (scratch piece : List ℕ)
    → value_at (source_of item) f d scratch piece ≡ option_map number_data item
item_value None f d scratch piece = refl
item_value (Some (As.Unsigned n)) f d scratch piece = refl
item_value (Some (As.Signed x)) f d scratch piece = refl
item_value (Some (As.Decimal e m)) f d scratch piece = refl

-- Where a number stands whatever the field, it is at hand.
pub source_at : (n : Number) (source : ValueSource) → ((f : FieldData) (d : Dictionary) (scratch piece : List ℕ)
    → value_at source f d scratch piece ≡ Some (number_data n)) → source ≡ source_of (Some n)
source_at n source h = by n source (h (record { kind = Ascii; optional = false; operator = Op.None; initial = None; entry = None }) [] [] [])
  where
    by : (n : Number) (source : ValueSource) → value_at source (record {
      kind = Ascii;
      optional = false;
      operator = Op.None;
      initial = None;
      entry = None;
    }) [] [] [] ≡ Some (number_data n) → source ≡ source_of (Some n)
    by (As.Unsigned n) (From.Unsigned m) e = cc e
    by (As.Signed x) (From.Signed y) e = cc e
    by (As.Decimal e m) (From.Decimal i j) h = cc h
    by n source e = absurd (cc e)

-- To write what is there changes nothing.
set_same : (d : Dictionary) (e : ℕ) → slice_set d e (slice_index_or d e undefined) ≡ d
set_same [] e = refl
set_same (p ∷ d) zero = refl
set_same (p ∷ d) (suc e) = ap (λ q. p ∷ q) (set_same d e)

pub write_same : (at : Option ℕ) (p : PreviousData) (d : Dictionary) → previous_at at d ≡ p → write_at at p d ≡ d
write_same None p d h = refl
write_same (Some e) p d h = rw (← h) (set_same d e)

pub same_one : (k : Kind) → same_kind k k ≡ true
same_one UInt32 = refl
same_one Int32 = refl
same_one UInt64 = refl
same_one Int64 = refl
same_one Decimal = refl
same_one Ascii = refl
same_one Unicode = refl
same_one Bytes = refl

-- another operator than increment keeps the value
pub next_same : (op : Operator) (kind : Kind) (v : ScalarData) → op ≢ Op.Increment → next_value op kind v ≡ v
next_same Op.None kind v h = refl
next_same Op.Constant kind v h = refl
next_same Op.Default kind v h = refl
next_same Op.Copy kind v h = refl
next_same Op.Increment kind v h = absurd (h refl)
next_same Op.Delta kind v h = refl
next_same Op.Tail kind v h = refl

module _ (f : FieldData) (old new : Dictionary) where
  -- absent, and the entry is empty
  pub absent_decided : (c : Code) → f.optional ≡ true → new ≡ write_at f.entry empty old
      → IsDecided (from_initial f.kind f.optional c None) f old new (Ok From.Absent)
  absent_decided c h d = (
    record {
      value = None;
      next = empty;
    },
    ap (λ b. from_initial f.kind b c None) h,
    λ scratch piece. record { value = refl; dictionary = d },
  )

  -- The previous value, of the field's type: what comes next, which the entry then holds.
  pub next_decided : (kind : Kind) (v : ScalarData) (source : ValueSource) → previous_at f.entry old ≡ assigned kind v → kind ≡ f.kind
      → new ≡ write_at f.entry (assigned f.kind (next_value f.operator f.kind v)) old
      → ((scratch piece : List ℕ) → Some (next_value f.operator f.kind v) ≡ value_at source f new scratch piece)
      → IsDecided (unsent f (previous_at f.entry old)) f old new (Ok source)
  next_decided kind v source p k d at =
      let next : ScalarData = next_value f.operator f.kind v in (
        record { value = Some next; next = assigned f.kind next },
        ap (unsent f) (p ∙ ap (λ x. assigned x v) k) ∙ ap (λ b. (if b then Ok v else Err D4) >>=
            (λ w. keeps f.kind (next_value f.operator f.kind w))) (same_one f.kind),
        λ scratch piece. record { value = at scratch piece; dictionary = d },
      )

-- the previous value itself, which stands at the entry
pub copy_decided : (f : FieldData) (d : Dictionary) (kind : Kind) (v : ScalarData) → f.operator ≢ Op.Increment
    → previous_at f.entry d ≡ assigned kind v → kind ≡ f.kind
    → IsDecided (unsent f (previous_at f.entry d)) f d d (Ok From.Entry)
copy_decided f d kind v o p k =
    let same : next_value f.operator f.kind v ≡ v = next_same f.operator f.kind v o in
    next_decided f d d kind v From.Entry p k
    (sym (write_same f.entry (assigned f.kind (next_value f.operator f.kind v)) d (p ∙ ap (λ x. assigned x v) k ∙ ap (assigned f.kind) (sym same))))
    (λ scratch piece. ap Some same ∙ ap value_in (sym p))

-- the same where it is a number of the field's own kind, which stands anywhere
pub own_decided : (f : FieldData) (d : Dictionary) (v : ScalarData) (source : ValueSource) → f.operator ≢ Op.Increment
    → previous_at f.entry d ≡ assigned f.kind v
    → ((e : Dictionary) (scratch piece : List ℕ) → value_at source f e scratch piece ≡ Some v) → IsDecided (unsent f (previous_at f.entry d)) f d d (Ok source)
own_decided f d v source o p at =
    let same : next_value f.operator f.kind v ≡ v = next_same f.operator f.kind v o in
    next_decided f d d f.kind v source p refl
    (sym (write_same f.entry (assigned f.kind (next_value f.operator f.kind v)) d (p ∙ ap (assigned f.kind) (sym same))))
    (λ scratch piece. ap Some same ∙ sym (at d scratch piece))

-- A field stands in the stream as under a presence bit that is set, or it is decided with nothing sent.
stands_by : (op : Operator) (bit : Bool) (l : Bounds) (f : FieldData) (p : PreviousData) → needs_bytes op bit ≡ true
    → field_by op bit l f p ≡ field_by op true l f p
stands_by Op.None bit l f p h = refl
stands_by Op.Delta bit l f p h = refl
stands_by Op.Constant bit l f p h = absurd (cc h)
stands_by Op.Default bit l f p h = ap (λ b. field_by Op.Default b l f p) h
stands_by Op.Copy bit l f p h = ap (λ b. field_by Op.Copy b l f p) h
stands_by Op.Increment bit l f p h = ap (λ b. field_by Op.Increment b l f p) h
stands_by Op.Tail bit l f p h = ap (λ b. field_by Op.Tail b l f p) h

fails_by : (op : Operator) (bit : Bool) (l : Bounds) (f : FieldData) (p : PreviousData) → needs_bytes op bit ≡ false → field_by op bit l f p ≡ not_sent f p bit
fails_by Op.None bit l f p h = absurd (cc h)
fails_by Op.Delta bit l f p h = absurd (cc h)
fails_by Op.Constant bit l f p h = refl
fails_by Op.Default bit l f p h = rw h refl
fails_by Op.Copy bit l f p h = rw h refl
fails_by Op.Increment bit l f p h = rw h refl
fails_by Op.Tail bit l f p h = rw h refl

pub stands_sent : (f : FieldData) (bit : Bool) (l : Bounds) (p : PreviousData) → needs_bytes f.operator bit ≡ true
    → field_term l f p bit ≡ field_term l f p true
unfolding field_term
stands_sent f bit l p h = stands_by f.operator bit l f p h

pub stands_unsent : (f : FieldData) (bit : Bool) (l : Bounds) (p : PreviousData) → needs_bytes f.operator bit ≡ false
    → field_term l f p bit ≡ of_result (decide f p bit nothing)
unfolding field_term
stands_unsent f bit l p h = fails_by f.operator bit l f p h

pub needs_some : (op : Operator) (bit : Bool) → needs_bytes op bit ≡ true → op ≢ Op.Constant
needs_some op bit h e = absurd (let k : false ≡ true = ap (λ o. needs_bytes o bit) (sym e) ∙ h in cc k)

-- An operator that keeps no value has no entry.
pub no_entry : {n : ℕ} {t : Terms} (f : FieldData) → Serves n t f → keeps_value f.operator ≡ false → f.entry ≡ None
no_entry f h k = by f.entry (sym h.kept ∙ k)
  where
    by : (e : Option ℕ) → is_some e ≡ false → e ≡ None
    by None i = refl
    by (Some e) i = absurd (cc i)

-- Nothing is sent of a constant, or under default.
pub fixed_decided : (f : FieldData) (d : Dictionary) → f.entry ≡ None → IsDecided (fixed f.initial (previous_at f.entry d)) f d d (Ok From.Initial)
fixed_decided f d e = by f.initial refl
  where
    by : (v : Option ScalarData) → f.initial ≡ v → IsDecided (fixed f.initial (previous_at f.entry d)) f d d (Ok From.Initial)
    by v h = (
      record { value = v; next = previous_at f.entry d },
      ap (λ x. fixed x (previous_at f.entry d)) h ∙ given v,
      λ scratch piece. record { value = sym h; dictionary = sym (write_same f.entry (previous_at f.entry d) d refl) },
    )
      where
        given : (v : Option ScalarData) → fixed v (previous_at f.entry d) ≡ Ok (record { value = v; next = previous_at f.entry d })
        given None = refl
        given (Some v) = refl

module _ (f : FieldData) (d : Dictionary) (bit : Bool) (none : f.entry ≡ None) where
  pub constant_decided : f.operator ≡ Op.Constant → bit ≡ true → IsDecided (decide f (previous_at f.entry d) bit nothing) f d d (Ok From.Initial)
  constant_decided o b = decided_as f d d (Ok From.Initial)
      (ap (λ x. decide_by x bit f (previous_at f.entry d) nothing) o
      ∙ ap (λ x. decide_by Op.Constant x f (previous_at f.entry d) nothing) b) (fixed_decided f d none)

  pub constant_absent : f.operator ≡ Op.Constant → bit ≡ false → IsDecided (decide f (previous_at f.entry d) bit nothing) f d d (Ok From.Absent)
  constant_absent o b = (
    record { value = None; next = previous_at f.entry d },
    ap (λ x. decide_by x bit f (previous_at f.entry d) nothing) o ∙ ap (λ x. decide_by Op.Constant x f (previous_at f.entry d) nothing) b,
    λ scratch piece. record { value = refl; dictionary = sym (write_same f.entry (previous_at f.entry d) d refl) },
  )

  pub default_decided : f.operator ≡ Op.Default → bit ≡ false → IsDecided (decide f (previous_at f.entry d) bit nothing) f d d (Ok From.Initial)
  default_decided o b = decided_as f d d (Ok From.Initial)
      (ap (λ x. decide_by x bit f (previous_at f.entry d) nothing) o
      ∙ ap (λ x. decide_by Op.Default x f (previous_at f.entry d) nothing) b) (fixed_decided f d none)

pub unsent_copied : (f : FieldData) (p : PreviousData) (bit : Bool) → f.operator ≡ Op.Copy → bit ≡ false → decide f p bit nothing ≡ unsent f p
unsent_copied f p bit o b = ap (λ x. decide_by x bit f p nothing) o ∙ ap (λ x. decide_by Op.Copy x f p nothing) b

pub unsent_increased : (f : FieldData) (p : PreviousData) (bit : Bool) → f.operator ≡ Op.Increment → bit ≡ false → decide f p bit nothing ≡ unsent f p
unsent_increased f p bit o b = ap (λ x. decide_by x bit f p nothing) o ∙ ap (λ x. decide_by Op.Increment x f p nothing) b

-- A number that is kept: it stands at the entry, and at its source.
pub keep_decided : (f : FieldData) (old new : Dictionary) (v : ScalarData) (source : ValueSource) → new ≡ write_at f.entry (assigned f.kind v) old
    → ((d : Dictionary) (scratch piece : List ℕ) → value_at source f d scratch piece ≡ Some v) → IsDecided (keeps f.kind v) f old new (Ok source)
keep_decided f old new v source d at = (
  record {
    value = Some v;
    next = assigned f.kind v;
  },
  refl,
  λ scratch piece. record { value = sym (at new scratch piece); dictionary = d },
)

-- absent, and the entry as it was
pub none_decided : (f : FieldData) (d : Dictionary) → IsDecided (gives_none (previous_at f.entry d)) f d d (Ok From.Absent)
none_decided f d = (
  record {
    value = None;
    next = previous_at f.entry d;
  },
  refl,
  λ scratch piece. record { value = refl; dictionary = sym (write_same f.entry (previous_at f.entry d) d refl) },
)

-- A number is well formed as it is sent.
number_checked : (f : FieldData) (v : ScalarData) → family f.kind ≢ texts → checked f v ≡ Ok v
number_checked f v h = by (family f.kind) h
  where
    by : (k : Family) → k ≢ texts → checked_in k f.kind v ≡ Ok v
    by (integers range) i = refl
    by decimals i = refl
    by texts i = absurd (i refl)

-- A number, or NULL, that is sent under no delta: it is at the entry, if there is one.
module _ {n : ℕ} {t : Terms} (f : FieldData) (serves : Serves n t f) (numbers : family f.kind ≢ texts) (old new : Dictionary) where
  -- an operator that keeps no value leaves the dictionary as it is, whatever would be written
  left : (o : Operator) (p q : PreviousData) → f.operator ≡ o → keeps_value o ≡ false → new ≡ write_at f.entry q old → new ≡ write_at f.entry p old
  left o p q e k d = d ∙ ap (λ at. write_at at q old) none ∙ sym (ap (λ at. write_at at p old) none)
    where
      none : f.entry ≡ None
      none = no_entry f serves (ap keeps_value e ∙ k)

  pub value_decided : (v : ScalarData) (source : ValueSource) → f.operator ≢ Op.Delta → f.operator ≢ Op.Constant
      → new ≡ write_at f.entry (assigned f.kind v) old
      → ((d : Dictionary) (scratch piece : List ℕ) → value_at source f d scratch piece ≡ Some v)
      → IsDecided (decide f (previous_at f.entry old) true (value v)) f old new (Ok source)
  value_decided v source no_delta no_constant d at = by f.operator refl
    where
      p : PreviousData
      p = previous_at f.entry old

      outcome : PreviousData → Outcome
      outcome q = record { value = Some v; next = q }

      stands : (q : PreviousData) → new ≡ write_at f.entry q old → (scratch piece : List ℕ) → IsSettled (outcome q) f source old new scratch piece
      stands q e scratch piece = record { value = sym (at new scratch piece); dictionary = e }

      given : (o : Operator) → f.operator ≡ o → keeps_value o ≡ false → decide_by o true f p (value v) ≡ (checked f v >>= (λ w. gives w p))
          → IsDecided (decide f p true (value v)) f old new (Ok source)
      given o e k c = (
        outcome p,
        ap (λ x. decide_by x true f p (value v)) e ∙ c
            ∙ ap (λ r. r >>= (λ w. gives w p)) (number_checked f v numbers),
        stands p (left o p (assigned f.kind v) e k d),
      )

      kept : (o : Operator) → f.operator ≡ o → decide_by o true f p (value v) ≡ (checked f v >>= keeps f.kind)
          → IsDecided (decide f p true (value v)) f old new (Ok source)
      kept o e c = (
        outcome (assigned f.kind v),
        ap (λ x. decide_by x true f p (value v)) e ∙ c
            ∙ ap (λ r. r >>= keeps f.kind) (number_checked f v numbers),
        stands (assigned f.kind v) d,
      )

      by : (o : Operator) → f.operator ≡ o → IsDecided (decide f p true (value v)) f old new (Ok source)
      by Op.None e = given Op.None e refl refl
      by Op.Constant e = absurd (no_constant e)
      by Op.Default e = given Op.Default e refl refl
      by Op.Copy e = kept Op.Copy e refl
      by Op.Increment e = kept Op.Increment e refl
      by Op.Delta e = absurd (no_delta e)
      by Op.Tail e = absurd (numbers (serves.tail e))

  pub null_decided : f.operator ≢ Op.Delta → f.operator ≢ Op.Constant → new ≡ write_at f.entry empty old
      → IsDecided (decide f (previous_at f.entry old) true null) f old new (Ok From.Absent)
  null_decided no_delta no_constant d = by f.operator refl
    where
      p : PreviousData
      p = previous_at f.entry old

      given : (q : PreviousData) (o : Operator) → f.operator ≡ o → decide_by o true f p null ≡ gives_none q → new ≡ write_at f.entry q old
          → IsDecided (decide f p true null) f old new (Ok From.Absent)
      given q o e c i = (record { value = None; next = q }, ap (λ x. decide_by x true f p null) e ∙ c, λ scratch piece. record { value = refl; dictionary = i })

      by : (o : Operator) → f.operator ≡ o → IsDecided (decide f p true null) f old new (Ok From.Absent)
      by Op.None e = given p Op.None e refl (left Op.None p empty e refl d)
      by Op.Constant e = absurd (no_constant e)
      by Op.Default e = given p Op.Default e refl (left Op.Default p empty e refl d)
      by Op.Copy e = given empty Op.Copy e refl d
      by Op.Increment e = given empty Op.Increment e refl d
      by Op.Delta e = absurd (no_delta e)
      by Op.Tail e = absurd (numbers (serves.tail e))

-- The integer of a previous value of the field's own kind, and the steps behind the integer that a delta is added to.
pub base_own : (f : FieldData) (p : PreviousData) (v : ScalarData) → p ≡ assigned f.kind v → base_integer f p ≡ Ok (integer_of v)
base_own f p v h = ap (base_integer f) h ∙ ap (λ b. (if b then Ok v else Err D4) >>= (λ w. Ok (integer_of w))) (same_one f.kind)

pub base_stepped : (f : FieldData) (p : PreviousData) (k : ℤ)
    → integer_step f p k ≡ (base_integer f p >>= (λ x. ranged (range_of f.kind) D2 (x +ℤ k) >>=
    (λ y. keeps f.kind (value_of_integer f.kind y))))
base_stepped f p k = by (delta_base f p)
  where
    by : (r : Result ScalarData Code) → (r >>= (λ v. ranged (range_of f.kind) D2 (integer_of v +ℤ k) >>= (λ y. keeps f.kind (value_of_integer f.kind y))))
        ≡ ((r >>= (λ v. Ok (integer_of v))) >>= (λ x. ranged (range_of f.kind) D2 (x +ℤ k) >>= (λ y. keeps f.kind (value_of_integer f.kind y))))
    by (Ok v) = refl
    by (Err c) = refl
