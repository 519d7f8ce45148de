-- What operators make of values that are right is right.
use Rattle.std.proofs.Common.{◌≡◌, ℕ, zero, suc, ◌<◌, ◌≤◌, List, [], ◌∷◌, length, refl, ap, sym, subst, ◌∙◌, arith}
use Rattle.std.specs.Prelude.{Bool, true, false, All, int_lt, if◌then◌else◌, ℤ, pos, negsuc, ◌+ℤ◌, Option, Some, None, Result, Ok, Err}
use Rattle.std.specs.Prelude.{IfSome, unwrap_or, slice_set}
use Rattle.std.specs.Str.{is_utf8}
use Rattle.std.proofs.lemmas.Str.{IsUtf8-from_is_utf8, IsUtf8-nil}
use Rattle.std.proofs.lemmas.Int.{ints}
use Rattle.fast_wire.specs.meaning.Texts.{SpellsAscii}
use Rattle.fast_value.specs.declared.kinds.Kind.{Kind}
use Rattle.fast_value.specs.declared.kinds.Kind.TheVariants.{UInt32, Int32, UInt64, Int64, Decimal, Ascii, Unicode, Bytes}
use Rattle.fast_value.specs.declared.codes.Code.{Code}
use Rattle.fast_value.specs.declared.codes.Code.TheVariants.{D4, D5, D6, R2}
use Rattle.fast_value.specs.declared.settings.Limits.{Limits}
use Rattle.fast_value.specs.meaning.Kinds.{Range, IsWithin, unsigned_range, signed_range, exponent_range, ScalarData, U, I, Dec, AsciiText}
use Rattle.fast_value.specs.meaning.Kinds.{UnicodeText, ByteVector, Family, integers, decimals, texts, family, value_of_integer}
use Rattle.fast_value.specs.meaning.Kinds.{value_of_text, integer_of, text_of, IsOfKind, same_kind}
use Rattle.fast_tree.specs.declared.operators.Operator.{Operator}
use Rattle.fast_tree.specs.declared.operators.Operator.TheVariants.{None as no_operator, Constant, Default, Copy, Increment, Delta, Tail}
use Rattle.fast_tree.specs.meaning.Tree.{FieldData}
use Rattle.fast_notation.specs.meaning.Uses.{suits}
use Rattle.fast_dict.specs.meaning.Dictionary.{Dictionary, PreviousData, undefined, empty, assigned, previous_at, write_at}
use Rattle.fast_dict.specs.meaning.Operators.{◌>>=◌, Outcome, of_kind, checked_in, checked_text, range_in, range_of, from_initial}
use Rattle.fast_dict.specs.meaning.Operators.{incremented, next_value, unsent, zero_in, start_value, delta_base, tail_base, IsValueIn}
use Rattle.fast_spelling.specs.meaning.Again.{IsSoundEntry, IsSound}
use Rattle.fast_spelling.specs.meaning.Encoding.{ShortestText, ShortestValue}
use Rattle.fast_spelling.specs.device.Fields.{next_by}
use Rattle.fast_spelling.specs.meaning.Suiting.{IsRight}
use Rattle.fast_spelling.proofs.rules.OneItem.{one_ok, text_kept}

-- A value of the field's kind within the limits, or absence where it may be.
abbrev pub IsSoundValue : Limits → FieldData → Option ScalarData → Type 0
IsSoundValue l f None = f.optional ≡ true
IsSoundValue l f (Some v) = IsOfKind l f.kind v

pub same_ok : {A : Type 0} (a b : A) → ◌≡◌ {A = Result A Code} (Ok a) (Ok b) → a ≡ b
same_ok a b e = one_ok (Ok a) a b refl e

-- the first of two steps, and the second
pub steps : {A B : Type 0} (r : Result A Code) (k : A → Result B Code) (b : B) → r >>= k ≡ Ok b → (a : A) × (r ≡ Ok a) × (k a ≡ Ok b)
steps (Ok a) k b e = (a, refl, e)
steps (Err c) k b e = absurd (let z : ◌≡◌ {A = Result _ Code} (Err c) (Ok b) = e in cc)

pub kind_is : (a b : Kind) → same_kind a b ≡ true → a ≡ b
kind_is UInt32 UInt32 e = refl
kind_is Int32 Int32 e = refl
kind_is UInt64 UInt64 e = refl
kind_is Int64 Int64 e = refl
kind_is Decimal Decimal e = refl
kind_is Ascii Ascii e = refl
kind_is Unicode Unicode e = refl
kind_is Bytes Bytes e = refl
kind_is a b e = absurd (cc e)

module _ (l : Limits) where
  pub right_of : (kind : Kind) (v : ScalarData) → IsOfKind l kind v → IsRight kind v
  right_of UInt32 (U n) h = (0, h)
  right_of UInt64 (U n) h = (0, h)
  right_of Int32 (I x) h = (0, h)
  right_of Int64 (I x) h = (0, h)
  right_of Decimal (Dec e m) h = (0, h)
  right_of Ascii (AsciiText t) h = (l.max_text, h)
  right_of Unicode (UnicodeText t) h = (l.max_text, h)
  right_of Bytes (ByteVector t) h = (l.max_text, h)
  right_of kind v h = absurd h

  pub short_of : (kind : Kind) (v : ScalarData) → IsOfKind l kind v → length (text_of v) ≤ l.max_text
  short_of UInt32 (U n) h = omega arith
  short_of UInt64 (U n) h = omega arith
  short_of Int32 (I x) h = omega arith
  short_of Int64 (I x) h = omega arith
  short_of Decimal (Dec e m) h = omega arith
  short_of Ascii (AsciiText t) h = h.0
  short_of Unicode (UnicodeText t) h = h.0
  short_of Bytes (ByteVector t) h = h
  short_of kind v h = absurd h

  pub ascii_of : (kind : Kind) (v : ScalarData) → IsOfKind l kind v → kind ≡ Ascii → All (λ c. c < 128) (text_of v)
  ascii_of kind v h e = by v (subst (λ (k : Kind). IsOfKind l k v) e h)
    where
      by : (v : ScalarData) → IsOfKind l Ascii v → All (λ c. c < 128) (text_of v)
      by (AsciiText t) h = h.1
      by v h = absurd h

  -- texts
  pub text_right : (kind : Kind) → family kind ≡ texts → (t : List ℕ) (v : ScalarData) → checked_text kind t ≡ Ok v → length t ≤ l.max_text
      → (kind ≡ Ascii → All (λ c. c < 128) t) → IsOfKind l kind v × (v ≡ value_of_text kind t)
  text_right UInt32 q t v e h a = absurd (cc q)
  text_right Int32 q t v e h a = absurd (cc q)
  text_right UInt64 q t v e h a = absurd (cc q)
  text_right Int64 q t v e h a = absurd (cc q)
  text_right Decimal q t v e h a = absurd (cc q)
  text_right Ascii q t v e h a = let k = same_ok (AsciiText t) v e in (subst (IsOfKind l Ascii) k (h, a refl), sym k)
  text_right Bytes q t v e h a = let k = same_ok (ByteVector t) v e in (subst (IsOfKind l Bytes) k h, sym k)
  text_right Unicode q t v e h a = by (is_utf8 t) refl e
    where
      by : (b : Bool) → is_utf8 t ≡ b → (if b then Ok (UnicodeText t) else Err R2) ≡ Ok v → IsOfKind l Unicode v × (v ≡ UnicodeText t)
      by true u g = let k = same_ok (UnicodeText t) v g in (subst (IsOfKind l Unicode) k (h, IsUtf8-from_is_utf8 t u), sym k)
      by false u g = absurd (cc g)

  ascii_read : (nullable : Bool) (room : ℕ) (t w : List ℕ) → SpellsAscii nullable room (Some t) w → (length t ≤ room) × All (λ c. c < 128) t
  ascii_read nullable room [] w h = (omega arith, λ k d i. absurd (omega (arith, i)))
  ascii_read nullable room (c ∷ t) w h = (h.2, h.1)

  pub text_spelled : (kind : Kind) (nullable : Bool) (room : ℕ) (t w : List ℕ) → ShortestText kind nullable room (Some t) w
      → (length t ≤ room) × (kind ≡ Ascii → All (λ c. c < 128) t)
  text_spelled Ascii nullable room t w h = let k = ascii_read nullable room t w h in (k.0, λ e. k.1)
  text_spelled UInt32 nullable room t w h = (h.3, λ e. absurd (cc e))
  text_spelled Int32 nullable room t w h = (h.3, λ e. absurd (cc e))
  text_spelled UInt64 nullable room t w h = (h.3, λ e. absurd (cc e))
  text_spelled Int64 nullable room t w h = (h.3, λ e. absurd (cc e))
  text_spelled Decimal nullable room t w h = (h.3, λ e. absurd (cc e))
  text_spelled Unicode nullable room t w h = (h.3, λ e. absurd (cc e))
  text_spelled Bytes nullable room t w h = (h.3, λ e. absurd (cc e))

  -- integers
  pub integer_right : (kind : Kind) (range : Range) → family kind ≡ integers range → (x : ℤ) → IsWithin range x → IsOfKind l kind (value_of_integer kind x)
  integer_right UInt32 range q x h = let r : unsigned_range 32 ≡ range = cc q in by x (subst (λ (z : Range). IsWithin z x) (sym r) h)
    where
      by : (x : ℤ) → IsWithin (unsigned_range 32) x → IsOfKind l UInt32 (value_of_integer UInt32 x)
      by (pos n) h = omega (arith, ints, h)
      by (negsuc n) h = absurd (omega (arith, ints, h))
  integer_right UInt64 range q x h = let r : unsigned_range 64 ≡ range = cc q in by x (subst (λ (z : Range). IsWithin z x) (sym r) h)
    where
      by : (x : ℤ) → IsWithin (unsigned_range 64) x → IsOfKind l UInt64 (value_of_integer UInt64 x)
      by (pos n) h = omega (arith, ints, h)
      by (negsuc n) h = absurd (omega (arith, ints, h))
  integer_right Int32 range q x h = let r : signed_range 31 ≡ range = cc q in subst (λ (z : Range). IsWithin z x) (sym r) h
  integer_right Int64 range q x h = let r : signed_range 63 ≡ range = cc q in subst (λ (z : Range). IsWithin z x) (sym r) h
  integer_right Decimal range q x h = absurd (cc q)
  integer_right Ascii range q x h = absurd (cc q)
  integer_right Unicode range q x h = absurd (cc q)
  integer_right Bytes range q x h = absurd (cc q)

  pub integer_within : (kind : Kind) (range : Range) → family kind ≡ integers range → (v : ScalarData) → IsOfKind l kind v → IsWithin range (integer_of v)
  integer_within UInt32 range q (U n) h = let r : unsigned_range 32 ≡ range = cc q in
      subst (λ (z : Range). IsWithin z (pos n)) r (omega (arith, ints), omega (arith, ints, h))
  integer_within UInt64 range q (U n) h = let r : unsigned_range 64 ≡ range = cc q in
      subst (λ (z : Range). IsWithin z (pos n)) r (omega (arith, ints), omega (arith, ints, h))
  integer_within Int32 range q (I x) h = let r : signed_range 31 ≡ range = cc q in subst (λ (z : Range). IsWithin z x) r h
  integer_within Int64 range q (I x) h = let r : signed_range 63 ≡ range = cc q in subst (λ (z : Range). IsWithin z x) r h
  integer_within Decimal range q v h = absurd (cc q)
  integer_within Ascii range q v h = absurd (cc q)
  integer_within Unicode range q v h = absurd (cc q)
  integer_within Bytes range q v h = absurd (cc q)
  integer_within kind range q v h = absurd h

  pub decimal_right : (kind : Kind) → family kind ≡ decimals → (e m : ℤ) → IsWithin exponent_range e → IsWithin (signed_range 63) m → IsOfKind l kind (Dec e m)
  decimal_right Decimal q e m h i = (h, i)
  decimal_right UInt32 q e m h i = absurd (cc q)
  decimal_right Int32 q e m h i = absurd (cc q)
  decimal_right UInt64 q e m h i = absurd (cc q)
  decimal_right Int64 q e m h i = absurd (cc q)
  decimal_right Ascii q e m h i = absurd (cc q)
  decimal_right Unicode q e m h i = absurd (cc q)
  decimal_right Bytes q e m h i = absurd (cc q)

  -- A value that stands in the stream as it is.
  pub plain_right : (k : Family) (f : FieldData) → family f.kind ≡ k → (x y : ScalarData) (w : List ℕ) → IsValueIn k f.kind x
      → ShortestValue l f k x w → checked_in k f.kind x ≡ Ok y → IsOfKind l f.kind y × (y ≡ x)
  plain_right (integers range) f q x y w (n, h, e) s c =
      let k = same_ok x y c in
      (subst (IsOfKind l f.kind) (sym e ∙ k) (integer_right f.kind range q n h), sym k)
  plain_right decimals f q x y w (e, m, h, i, g) s c =
      let k = same_ok x y c in
      (subst (IsOfKind l f.kind) (sym g ∙ k) (decimal_right f.kind q e m h i), sym k)
  plain_right texts f q x y w (t', _) (t, e, s) c =
      let c' : checked_text f.kind t ≡ Ok y = subst (λ (z : List ℕ). checked_text f.kind z ≡ Ok y) (ap text_of e ∙ text_kept f.kind t) c in
      let i = text_spelled f.kind f.optional l.max_text t w s in
      let r = text_right f.kind q t y c' i.0 i.1 in
      (r.0, r.1 ∙ sym e)

  -- previous values and initial ones
  kind_right : (kind found : Kind) (v w : ScalarData) → of_kind kind found v ≡ Ok w → IsOfKind l found v → IsOfKind l kind w
  kind_right kind found v w e h = by (same_kind kind found) refl e
    where
      by : (b : Bool) → same_kind kind found ≡ b → (if b then Ok v else Err D4) ≡ Ok w → IsOfKind l kind w
      by true s g = subst (λ (k : Kind). IsOfKind l k w) (sym (kind_is kind found s)) (subst (IsOfKind l found) (same_ok v w g) h)
      by false s g = absurd (cc g)

  zero_right : (kind : Kind) → IsOfKind l kind (zero_in kind (family kind))
  zero_right UInt32 = omega arith
  zero_right Int32 = (omega (arith, ints), omega (arith, ints))
  zero_right UInt64 = omega arith
  zero_right Int64 = (omega (arith, ints), omega (arith, ints))
  zero_right Decimal = ((omega (arith, ints), omega (arith, ints)), (omega (arith, ints), omega (arith, ints)))
  zero_right Ascii = (omega arith, λ k d i. absurd (omega (arith, i)))
  zero_right Unicode = (omega arith, IsUtf8-nil)
  zero_right Bytes = omega arith

  start_right : (i : Option ScalarData) (kind : Kind) → IfSome i (IsOfKind l kind) → IsOfKind l kind (unwrap_or i (zero_in kind (family kind)))
  start_right None kind h = zero_right kind
  start_right (Some v) kind h = h

  pub delta_base_right : (f : FieldData) (p : PreviousData) (base : ScalarData) → IsSoundEntry l p → IfSome f.initial (IsOfKind l f.kind)
      → delta_base f p ≡ Ok base → IsOfKind l f.kind base
  delta_base_right f undefined base h i e = subst (IsOfKind l f.kind) (same_ok (start_value f) base e) (start_right f.initial f.kind i)
  delta_base_right f empty base h i e = absurd (cc e)
  delta_base_right f (assigned kind v) base h i e = kind_right f.kind kind v base e h

  pub tail_base_right : (f : FieldData) (p : PreviousData) (base : ScalarData) → IsSoundEntry l p → IfSome f.initial (IsOfKind l f.kind)
      → tail_base f p ≡ Ok base → IsOfKind l f.kind base
  tail_base_right f undefined base h i e = subst (IsOfKind l f.kind) (same_ok (start_value f) base e) (start_right f.initial f.kind i)
  tail_base_right f empty base h i e = subst (IsOfKind l f.kind) (same_ok (start_value f) base e) (start_right f.initial f.kind i)
  tail_base_right f (assigned kind v) base h i e = kind_right f.kind kind v base e h

  -- Nothing is sent.
  abbrev SoundBy : Kind → Bool → Option ScalarData → Type 0
  SoundBy kind optional None = optional ≡ true
  SoundBy kind optional (Some v) = IsOfKind l kind v

  initial_right : (i : Option ScalarData) (kind : Kind) (b : Bool) (c : Code) (o : Outcome) → IfSome i (IsOfKind l kind)
      → from_initial kind b c i ≡ Ok o → SoundBy kind b o.value
  initial_right (Some v) kind b c o h e = subst (λ (z : Outcome). SoundBy kind b z.value) (same_ok _ o e) h
  initial_right None kind true c o h e = subst (λ (z : Outcome). SoundBy kind true z.value) (same_ok _ o e) refl
  initial_right None kind false c o h e = absurd (cc e)

  incremented_within : (range : Range) (x : ℤ) → IsWithin range x → IsWithin range (incremented range x)
  incremented_within range x h = by (int_lt x range.high) refl
    where
      by : (b : Bool) → int_lt x range.high ≡ b → IsWithin range (if b then x +ℤ pos 1 else range.low)
      by true e = (omega (arith, ints, h), omega (arith, ints, h, e))
      by false e = (omega (arith, ints), omega (arith, ints, h))

  next_right : (o : Operator) (kind : Kind) (v : ScalarData) → suits o (family kind) ≡ true → IsOfKind l kind v → IsOfKind l kind (next_value o kind v)
  next_right Increment kind v s h = by (family kind) refl s
    where
      by : (k : Family) → family kind ≡ k → suits Increment k ≡ true → IsOfKind l kind (next_value Increment kind v)
      by (integers range) q s =
          let r : range_of kind ≡ range = ap range_in q in
          integer_right kind range q (incremented (range_of kind) (integer_of v))
          (subst (λ (z : Range). IsWithin range (incremented z (integer_of v))) (sym r)
          (incremented_within range (integer_of v) (integer_within kind range q v h)))
      by decimals q s = absurd (cc s)
      by texts q s = absurd (cc s)
  next_right no_operator kind v s h = h
  next_right Constant kind v s h = h
  next_right Default kind v s h = h
  next_right Copy kind v s h = h
  next_right Delta kind v s h = h
  next_right Tail kind v s h = h

  pub unsent_right : (f : FieldData) (p : PreviousData) (o : Outcome) → suits f.operator (family f.kind) ≡ true → IsSoundEntry l p
      → IfSome f.initial (IsOfKind l f.kind) → unsent f p ≡ Ok o → IsSoundValue l f o.value
  unsent_right f undefined o s h i e = told f.optional o (initial_right f.initial f.kind f.optional D5 o i e) refl
    where
      told : (b : Bool) (o : Outcome) → SoundBy f.kind b o.value → f.optional ≡ b → IsSoundValue l f o.value
      told b o h e = by o.value h
        where
          by : (v : Option ScalarData) → SoundBy f.kind b v → IsSoundValue l f v
          by None h = e ∙ h
          by (Some v) h = h
  unsent_right f empty o s h i e = told f.optional o (initial_right None f.kind f.optional D6 o tt e) refl
    where
      told : (b : Bool) (o : Outcome) → SoundBy f.kind b o.value → f.optional ≡ b → IsSoundValue l f o.value
      told b o h e = by o.value h
        where
          by : (v : Option ScalarData) → SoundBy f.kind b v → IsSoundValue l f v
          by None h = e ∙ h
          by (Some v) h = h
  unsent_right f (assigned kind v) o s h i e =
      let (w, g, k) = steps (of_kind f.kind kind v) _ o e in
      subst (λ (z : Outcome). IsSoundValue l f z.value) (same_ok _ o k) (next_right f.operator f.kind w s (kind_right f.kind kind v w g h))

  -- dictionaries
  pub next_sound : (o : Operator) (f : FieldData) (p : PreviousData) (v : Option ScalarData) → IsSoundEntry l p → IsSoundValue l f v
      → IsSoundEntry l (next_by o f.kind p v)
  next_sound no_operator f p v h i = h
  next_sound Constant f p v h i = h
  next_sound Default f p v h i = h
  next_sound Delta f p None h i = h
  next_sound Copy f p None h i = tt
  next_sound Increment f p None h i = tt
  next_sound Tail f p None h i = tt
  next_sound o f p (Some v) h i = i

  sound_set : (d : Dictionary) (n : ℕ) (p : PreviousData) → IsSound l d → IsSoundEntry l p → IsSound l (slice_set d n p)
  sound_set [] n p h i k = h k
  sound_set (q ∷ d) zero p h i zero = i
  sound_set (q ∷ d) zero p h i (suc k) = h (suc k)
  sound_set (q ∷ d) (suc n) p h i zero = h 0
  sound_set (q ∷ d) (suc n) p h i (suc k) = sound_set d n p (λ j. h (suc j)) i k

  pub sound_write : (at : Option ℕ) (p : PreviousData) (d : Dictionary) → IsSound l d → IsSoundEntry l p → IsSound l (write_at at p d)
  sound_write None p d h i = h
  sound_write (Some e) p d h i = sound_set d e p h i

  pub sound_previous : (at : Option ℕ) (d : Dictionary) → IsSound l d → IsSoundEntry l (previous_at at d)
  sound_previous None d h = tt
  sound_previous (Some e) d h = h e
