-- The cases of the rule that one comparison tells.
use Rattle.std.proofs.Common.{◌≡◌, ℕ, ◌≤◌, [], ◌∷◌, length, refl, ap, sym, subst, ◌∙◌, arith, List}
use Rattle.std.specs.Prelude.{Bool, true, false, if◌then◌else◌, ◌-ℤ◌, Option, Some, None, Result, Ok, Err}
use Rattle.std.proofs.lemmas.List.{set-get_or}
use Rattle.fast_value.specs.declared.kinds.Kind.{Kind}
use Rattle.fast_value.specs.declared.kinds.Kind.TheVariants.{UInt32, Int32, UInt64, Int64, Decimal, Ascii, Unicode, Bytes}
use Rattle.fast_value.specs.declared.settings.Limits.{Limits}
use Rattle.fast_value.specs.declared.codes.Code.{Code}
use Rattle.fast_value.specs.declared.codes.Code.TheVariants.{D4}
use Rattle.fast_value.specs.meaning.Kinds.{ScalarData, U, I, Dec, AsciiText, UnicodeText, ByteVector, text_of, Family, texts, family}
use Rattle.fast_value.specs.meaning.Kinds.{value_of_integer, value_of_text, integer_of, exponent_of, mantissa_of, same_kind}
use Rattle.fast_tree.specs.declared.operators.Operator.{Operator}
use Rattle.fast_tree.specs.declared.operators.Operator.TheVariants.{None as no_operator, Constant, Default, Copy, Increment, Delta, Tail}
use Rattle.fast_tree.specs.meaning.Tree.{FieldData, operator_uses_bit, uses_bit}
use Rattle.fast_dict.specs.meaning.Dictionary.{Dictionary, PreviousData, undefined, assigned, previous_at, write_at}
use Rattle.fast_dict.specs.meaning.Operators.{◌>>=◌, Outcome, Sent, nothing, value, integer_delta, decimal_delta, keeps}
use Rattle.fast_dict.specs.meaning.Operators.{fixed, incremented, range_of, next_value, unsent, delta_base, tail_base, decide_by, IsItemBy}
use Rattle.fast_dict.specs.meaning.Rule.{GoesUnsent, IsDelta, IsTail, IsTextDelta, SentBy, Rule}
use Rattle.fast_spelling.specs.device.Drafts.{IsSendable, IsSendableValue}
use Rattle.fast_spelling.specs.meaning.Encoding.{EncodesField}
use Rattle.fast_spelling.specs.device.Fields.{IsSuited, IsNarrow, next_by, next_of}
use Rattle.fast_spelling.specs.meaning.Suiting.{IsRight}
use Rattle.fast_spelling.specs.device.Usual.{IsNumber, IsDecimal, IsText, IsOfNumbers}
use Rattle.fast_spelling.proofs.rules.OneItem.{one_ok}
use Rattle.fast_spelling.proofs.rules.FieldsWritten.{field_done}
use Rattle.fast_spelling.proofs.rules.Sendable.{IsBase, rule_sendable}

same_is : (k : Kind) → same_kind k k ≡ true
same_is UInt32 = refl
same_is Int32 = refl
same_is UInt64 = refl
same_is Int64 = refl
same_is Decimal = refl
same_is Ascii = refl
same_is Unicode = refl
same_is Bytes = refl

-- what a clear bit gives under an assigned value of the field's type
unsent_at : (f : FieldData) (p : PreviousData) (u : ScalarData) → p ≡ assigned f.kind u → unsent f p ≡ keeps f.kind (next_value f.operator f.kind u)
unsent_at f p u is = ap (unsent f) is ∙ ap (λ (b : Bool). (if b then Ok u else Err D4) >>=
    (λ w. keeps f.kind (next_value f.operator f.kind w))) (same_is f.kind)

delta_at : (f : FieldData) (p : PreviousData) (u : ScalarData) → p ≡ assigned f.kind u → delta_base f p ≡ Ok u
delta_at f p u is = ap (delta_base f) is ∙ ap (λ (b : Bool). if b then Ok u else Err D4) (same_is f.kind)

-- with the bit clear the operator gives the value
abbrev Clears : FieldData → PreviousData → ScalarData → PreviousData → Operator → Type 0
Clears f p v next o = (operator_uses_bit o f.optional ≡ true) × IsItemBy o false f nothing × (decide_by o false f p nothing ≡ Ok (record {
  value = Some v;
  next = next;
}))

clear : (f : FieldData) (p next : PreviousData) (v : ScalarData) (o : Operator) → f.operator ≡ o → Clears f p v next o → Rule f p (Some v) false nothing
clear f p next v o is c =
    let k = subst (Clears f p v next) (sym is) c in
    ((next, k.0, (k.1, k.2)), refl)

-- with the bit clear the operator gives something else, and the value is sent
set : (f : FieldData) (p next : PreviousData) (v : ScalarData) (u : Option ScalarData) (o : Operator) → f.operator ≡ o
    → decide_by o false f p nothing ≡ Ok (record {
      value = u;
      next = next;
    }) → ¬ (u ≡ Some v) → SentBy o f p (Some v) (value v)
    → Rule f p (Some v) true (value v)
set f p next v u o is e differs sent = (not, subst (λ (z : Operator). SentBy z f p (Some v) (value v)) (sym is) sent)
  where
    not : ¬ (GoesUnsent f p (Some v))
    not (m, _, (_, g)) =
        let h : decide_by o false f p nothing ≡ Ok (record {
          value = Some v;
          next = m;
        }) = subst (λ (z : Operator). decide_by z false f p nothing ≡ Ok (record { value = Some v; next = m })) is g in
        differs (ap (λ (z : Outcome). z.value) (one_ok (decide_by o false f p nothing) (record {
          value = u;
          next = next;
        }) (record { value = Some v; next = m }) e h))

some_is : (u v : ScalarData) → Some u ≡ Some v → u ≡ v
some_is u v e = cc

-- no operator: the value is sent
pub plain_ruled : (f : FieldData) (p : PreviousData) (v : ScalarData) → f.operator ≡ no_operator → Rule f p (Some v) true (value v)
plain_ruled f p v is = (not, subst (λ (z : Operator). SentBy z f p (Some v) (value v)) (sym is) refl)
  where
    not : ¬ (GoesUnsent f p (Some v))
    not (m, b, _) =
        let clash : false ≡ true = subst (λ (z : Operator). operator_uses_bit z f.optional ≡ true) is b in
        absurd (cc clash)

-- copy: the value that the entry holds is not sent, any other is
copied : (f : FieldData) (p : PreviousData) (u : ScalarData) → f.operator ≡ Copy → p ≡ assigned f.kind u → unsent f p ≡ keeps f.kind u
copied f p u is held = unsent_at f p u held ∙ ap (λ (o : Operator). keeps f.kind (next_value o f.kind u)) is

pub copy_same : (f : FieldData) (p : PreviousData) (v : ScalarData) → f.operator ≡ Copy → p ≡ assigned f.kind v → Rule f p (Some v) false nothing
copy_same f p v is held = clear f p (assigned f.kind v) v Copy is (refl, refl, copied f p v is held)

pub copy_other : (f : FieldData) (p : PreviousData) (u v : ScalarData) → f.operator ≡ Copy → p ≡ assigned f.kind u → ¬ (u ≡ v)
    → Rule f p (Some v) true (value v)
copy_other f p u v is held differs = set f p (assigned f.kind u) v (Some u) Copy is (copied f p u is held) (λ e. differs (some_is u v e)) refl

-- increment: one more than the value that the entry holds is not sent, any other is
abbrev step : FieldData → ScalarData → ScalarData
step f u = value_of_integer f.kind (incremented (range_of f.kind) (integer_of u))

stepped : (f : FieldData) (p : PreviousData) (u : ScalarData) → f.operator ≡ Increment → p ≡ assigned f.kind u → unsent f p ≡ keeps f.kind (step f u)
stepped f p u is held = unsent_at f p u held ∙ ap (λ (o : Operator). keeps f.kind (next_value o f.kind u)) is

pub step_same : (f : FieldData) (p : PreviousData) (u v : ScalarData) → f.operator ≡ Increment → p ≡ assigned f.kind u → step f u ≡ v
    → Rule f p (Some v) false nothing
step_same f p u v is held same = subst (λ (z : ScalarData). Rule f p (Some z) false nothing) same
    (clear f p (assigned f.kind (step f u)) (step f u) Increment is (refl, refl, stepped f p u is held))

pub step_other : (f : FieldData) (p : PreviousData) (u v : ScalarData) → f.operator ≡ Increment → p ≡ assigned f.kind u → ¬ (step f u ≡ v)
    → Rule f p (Some v) true (value v)
step_other f p u v is held differs = set f p (assigned f.kind (step f u)) v (Some (step f u)) Increment is (stepped f p u is held)
    (λ e. differs (some_is (step f u) v e)) refl

-- default: the initial value is not sent, any other is
pub default_gives : (f : FieldData) (p : PreviousData) (i : Option ScalarData) → f.initial ≡ i → fixed f.initial p ≡ Ok (record { value = i; next = p })
default_gives f p i is = ap (λ (z : Option ScalarData). fixed z p) is ∙ by i
  where
    by : (i : Option ScalarData) → fixed i p ≡ Ok (record { value = i; next = p })
    by None = refl
    by (Some v) = refl

pub default_same : (f : FieldData) (p : PreviousData) (v : ScalarData) → f.operator ≡ Default → f.initial ≡ Some v → Rule f p (Some v) false nothing
default_same f p v is held = clear f p p v Default is (refl, refl, default_gives f p (Some v) held)

pub default_other : (f : FieldData) (p : PreviousData) (v : ScalarData) → f.operator ≡ Default → ¬ (f.initial ≡ Some v) → Rule f p (Some v) true (value v)
default_other f p v is differs = set f p p v f.initial Default is (default_gives f p f.initial refl) differs refl

-- delta: the difference is sent
integer_delta_is : (kind : Kind) (b v : ScalarData) → IsRight kind v → IsNumber v → IsDelta (family kind) b v (integer_delta (integer_of v -ℤ integer_of b))
integer_delta_is UInt32 b v h n = refl
integer_delta_is Int32 b v h n = refl
integer_delta_is UInt64 b v h n = refl
integer_delta_is Int64 b v h n = refl
integer_delta_is Decimal b (U n) (room, h) t = absurd h
integer_delta_is Decimal b (I x) (room, h) t = absurd h
integer_delta_is Ascii b (U n) (room, h) t = absurd h
integer_delta_is Ascii b (I x) (room, h) t = absurd h
integer_delta_is Unicode b (U n) (room, h) t = absurd h
integer_delta_is Unicode b (I x) (room, h) t = absurd h
integer_delta_is Bytes b (U n) (room, h) t = absurd h
integer_delta_is Bytes b (I x) (room, h) t = absurd h
integer_delta_is kind b v h t = absurd t

pub delta_ruled : (f : FieldData) (p : PreviousData) (b v : ScalarData) → f.operator ≡ Delta → p ≡ assigned f.kind b → IsRight f.kind v
    → IsNumber v → Rule f p (Some v) true (integer_delta (integer_of v -ℤ integer_of b))
delta_ruled f p b v is held right number = (
  not,
  subst (λ (z : Operator). SentBy z f p (Some v)
      (integer_delta (integer_of v -ℤ integer_of b))) (sym is) (b, delta_at f p b held, integer_delta_is f.kind b v right number),
)
  where
    not : ¬ (GoesUnsent f p (Some v))
    not (m, u, _) =
        let clash : false ≡ true = subst (λ (z : Operator). operator_uses_bit z f.optional ≡ true) is u in
        absurd (cc clash)

-- an integer of the field's type can be written
pub number_sendable : (kind : Kind) (v : ScalarData) → IsNumber v → IsRight kind v → IsSendableValue kind v
number_sendable UInt32 (U n) t (room, h) = h
number_sendable UInt64 (U n) t (room, h) = h
number_sendable Int32 (I x) t (room, h) = h
number_sendable Int64 (I x) t (room, h) = h
number_sendable kind (U n) t (room, h) = absurd h
number_sendable kind (I x) t (room, h) = absurd h
number_sendable kind v t h = absurd t

-- a value of a type of integers is an integer
pub number_of : (kind : Kind) (v : ScalarData) → IsOfNumbers kind → IsRight kind v → IsNumber v
number_of UInt32 (U n) t h = tt
number_of UInt64 (U n) t h = tt
number_of Int32 (I x) t h = tt
number_of Int64 (I x) t h = tt
number_of UInt32 v t (room, h) = absurd h
number_of UInt64 v t (room, h) = absurd h
number_of Int32 v t (room, h) = absurd h
number_of Int64 v t (room, h) = absurd h
number_of kind v t h = absurd t

-- A value that is not sent, and that the entry holds already.
pub write_back : (e : Option ℕ) (d : Dictionary) → write_at e (previous_at e d) d ≡ d
write_back None d = refl
write_back (Some e) d = set-get_or d e undefined

passed : (l : Limits) (f : FieldData) (d : Dictionary) (v : ScalarData) → uses_bit f ≡ true → (f.operator ≡ Tail → family f.kind ≡ texts)
    → IsSuited l.max_text f (Some v) → Rule f (previous_at f.entry d) (Some v) false nothing
    → next_of f (previous_at f.entry d) (Some v) ≡ previous_at f.entry d → EncodesField l f d (Some v) (false ∷ []) [] d
passed l f d v used tail suited rule same =
    field_done l f d (previous_at f.entry d) (Some v) false nothing (false ∷ []) [] d refl tail suited rule tt refl
    (ap (λ (u : Bool). if u then false ∷ [] else []) (sym used))
    (sym (ap (λ (p : PreviousData). write_at f.entry p d) same ∙ write_back f.entry d))

pub copy_passed : (l : Limits) (f : FieldData) (d : Dictionary) (v : ScalarData) → f.operator ≡ Copy
    → (f.operator ≡ Tail → family f.kind ≡ texts) → IsSuited l.max_text f (Some v) → previous_at f.entry d ≡ assigned f.kind v
    → EncodesField l f d (Some v) (false ∷ []) [] d
copy_passed l f d v is tail suited held =
    passed l f d v (ap (λ (o : Operator). operator_uses_bit o f.optional) is) tail suited (copy_same f (previous_at f.entry d) v is held)
    (ap (λ (o : Operator). next_by o f.kind (previous_at f.entry d) (Some v)) is ∙ sym held)

pub default_passed : (l : Limits) (f : FieldData) (d : Dictionary) (v : ScalarData) → f.operator ≡ Default
    → (f.operator ≡ Tail → family f.kind ≡ texts) → IsSuited l.max_text f (Some v) → f.initial ≡ Some v
    → EncodesField l f d (Some v) (false ∷ []) [] d
default_passed l f d v is tail suited held =
    passed l f d v (ap (λ (o : Operator). operator_uses_bit o f.optional) is) tail suited (default_same f (previous_at f.entry d) v is held)
    (ap (λ (o : Operator). next_by o f.kind (previous_at f.entry d) (Some v)) is)

-- constant: the initial value is not sent
pub constant_ruled : (f : FieldData) (p : PreviousData) (v : ScalarData) → f.operator ≡ Constant → f.initial ≡ Some v → Rule f p (Some v) true nothing
constant_ruled f p v is held = (not, subst (λ (z : Operator). SentBy z f p (Some v) nothing) (sym is) (sym held, refl))
  where
    not : ¬ (GoesUnsent f p (Some v))
    not (m, _, (_, g)) =
        let h : decide_by Constant false f p nothing ≡ Ok (record {
          value = Some v;
          next = m;
        }) = subst (λ (z : Operator). decide_by z false f p nothing ≡ Ok (record { value = Some v; next = m })) is g in
        let clash : None ≡ Some v = ap (λ (z : Outcome). z.value) (one_ok (decide_by Constant false f p nothing) (record {
          value = None;
          next = p;
        }) (record { value = Some v; next = m }) refl h) in
        absurd (cc clash)

-- a value of the field's type can be written
pub value_sendable : (kind : Kind) (v : ScalarData) (m : ℕ) → m ≤ 1048576 → IsRight kind v → length (text_of v) ≤ m → IsSendableValue kind v
value_sendable UInt32 (U n) m g (room, h) i = h
value_sendable UInt64 (U n) m g (room, h) i = h
value_sendable Int32 (I x) m g (room, h) i = h
value_sendable Int64 (I x) m g (room, h) i = h
value_sendable Decimal (Dec x y) m g (room, h) i = h
value_sendable Ascii (AsciiText t) m g (room, h) i = (omega (arith, g, i), h.1)
value_sendable Unicode (UnicodeText t) m g (room, h) i = omega (arith, g, i)
value_sendable Bytes (ByteVector t) m g (room, h) i = omega (arith, g, i)
value_sendable kind v m g (room, h) i = absurd h

-- tail: what the entry holds is not sent, and of another text what its tail is
tailed : (f : FieldData) (p : PreviousData) (u : ScalarData) → f.operator ≡ Tail → p ≡ assigned f.kind u → unsent f p ≡ keeps f.kind u
tailed f p u is held = unsent_at f p u held ∙ ap (λ (o : Operator). keeps f.kind (next_value o f.kind u)) is

tail_at : (f : FieldData) (p : PreviousData) (u : ScalarData) → p ≡ assigned f.kind u → tail_base f p ≡ Ok u
tail_at f p u is = ap (tail_base f) is ∙ ap (λ (b : Bool). if b then Ok u else Err D4) (same_is f.kind)

pub tail_passed : (l : Limits) (f : FieldData) (d : Dictionary) (v : ScalarData) → f.operator ≡ Tail
    → (f.operator ≡ Tail → family f.kind ≡ texts) → IsSuited l.max_text f (Some v) → previous_at f.entry d ≡ assigned f.kind v
    → EncodesField l f d (Some v) (false ∷ []) [] d
tail_passed l f d v is tail suited held =
    passed l f d v (ap (λ (o : Operator). operator_uses_bit o f.optional) is) tail suited
    (clear f (previous_at f.entry d) (assigned f.kind v) v Tail is (refl, refl, tailed f (previous_at f.entry d) v is held))
    (ap (λ (o : Operator). next_by o f.kind (previous_at f.entry d) (Some v)) is ∙ sym held)

pub tail_other : (f : FieldData) (p : PreviousData) (u v : ScalarData) (part : List ℕ) → f.operator ≡ Tail → p ≡ assigned f.kind u
    → ¬ (u ≡ v) → IsTail (text_of u) (text_of v) part → Rule f p (Some v) true (value (value_of_text f.kind part))
tail_other f p u v part is held differs tail = (
  not,
  subst (λ (z : Operator). SentBy z f p (Some v) (value (value_of_text f.kind part)))
      (sym is) (u, part, tail_at f p u held, tail, refl),
)
  where
    not : ¬ (GoesUnsent f p (Some v))
    not (m, _, (_, g)) =
        let h : decide_by Tail false f p nothing ≡ Ok (record {
          value = Some v;
          next = m;
        }) = subst (λ (z : Operator). decide_by z false f p nothing ≡ Ok (record { value = Some v; next = m })) is g in
        differs (some_is u v (ap (λ (z : Outcome). z.value) (one_ok (decide_by Tail false f p nothing) (record {
          value = Some u;
          next = assigned f.kind u;
        }) (record { value = Some v; next = m }) (tailed f p u is held) h)))

-- the delta of a text is sent
pub text_delta_ruled : (f : FieldData) (p : PreviousData) (b v : ScalarData) (x : Sent) → f.operator ≡ Delta → p ≡ assigned f.kind b
    → family f.kind ≡ texts → IsTextDelta (text_of b) (text_of v) x → Rule f p (Some v) true x
text_delta_ruled f p b v x is held kind delta = (
  not,
  subst (λ (z : Operator). SentBy z f p (Some v) x) (sym is)
      (b, delta_at f p b held, subst (λ (w : Family). IsDelta w b v x) (sym kind) delta),
)
  where
    not : ¬ (GoesUnsent f p (Some v))
    not (m, u, _) =
        let clash : false ≡ true = subst (λ (z : Operator). operator_uses_bit z f.optional ≡ true) is u in
        absurd (cc clash)

-- the delta of a decimal is sent
decimal_delta_is : (kind : Kind) (b v : ScalarData) → IsRight kind v → IsDecimal v
    → IsDelta (family kind) b v (decimal_delta (exponent_of v -ℤ exponent_of b) (mantissa_of v -ℤ mantissa_of b))
decimal_delta_is Decimal b v h t = refl
decimal_delta_is UInt32 b (Dec e m) (room, h) t = absurd h
decimal_delta_is Int32 b (Dec e m) (room, h) t = absurd h
decimal_delta_is UInt64 b (Dec e m) (room, h) t = absurd h
decimal_delta_is Int64 b (Dec e m) (room, h) t = absurd h
decimal_delta_is Ascii b (Dec e m) (room, h) t = absurd h
decimal_delta_is Unicode b (Dec e m) (room, h) t = absurd h
decimal_delta_is Bytes b (Dec e m) (room, h) t = absurd h
decimal_delta_is kind b v h t = absurd t

pub decimal_delta_ruled : (f : FieldData) (p : PreviousData) (b v : ScalarData) → f.operator ≡ Delta → p ≡ assigned f.kind b → IsRight f.kind v → IsDecimal v
    → Rule f p (Some v) true (decimal_delta (exponent_of v -ℤ exponent_of b) (mantissa_of v -ℤ mantissa_of b))
decimal_delta_ruled f p b v is held right decimal = (
  not,
  subst (λ (z : Operator). SentBy z f p (Some v) (decimal_delta (exponent_of v -ℤ exponent_of b) (mantissa_of v -ℤ mantissa_of b)))
      (sym is) (b, delta_at f p b held, decimal_delta_is f.kind b v right decimal),
)
  where
    not : ¬ (GoesUnsent f p (Some v))
    not (m, u, _) =
        let clash : false ≡ true = subst (λ (z : Operator). operator_uses_bit z f.optional ≡ true) is u in
        absurd (cc clash)

-- the type of a text is one of texts
pub text_kind : (kind : Kind) (v : ScalarData) → IsText v → IsRight kind v → family kind ≡ texts
text_kind Ascii v t h = refl
text_kind Unicode v t h = refl
text_kind Bytes v t h = refl
text_kind UInt32 (AsciiText s) t (room, h) = absurd h
text_kind UInt32 (UnicodeText s) t (room, h) = absurd h
text_kind UInt32 (ByteVector s) t (room, h) = absurd h
text_kind Int32 (AsciiText s) t (room, h) = absurd h
text_kind Int32 (UnicodeText s) t (room, h) = absurd h
text_kind Int32 (ByteVector s) t (room, h) = absurd h
text_kind UInt64 (AsciiText s) t (room, h) = absurd h
text_kind UInt64 (UnicodeText s) t (room, h) = absurd h
text_kind UInt64 (ByteVector s) t (room, h) = absurd h
text_kind Int64 (AsciiText s) t (room, h) = absurd h
text_kind Int64 (UnicodeText s) t (room, h) = absurd h
text_kind Int64 (ByteVector s) t (room, h) = absurd h
text_kind Decimal (AsciiText s) t (room, h) = absurd h
text_kind Decimal (UnicodeText s) t (room, h) = absurd h
text_kind Decimal (ByteVector s) t (room, h) = absurd h
text_kind kind v t h = absurd t

one_base : (r : Result ScalarData Code) (u b : ScalarData) → r ≡ Ok u → r ≡ Ok b → u ≡ b
one_base r u b e h = cc

-- what is sent on a value that the entry holds can be written
pub held_sendable : (f : FieldData) (p : PreviousData) (u v : ScalarData) (bit : Bool) (x : Sent) (m : ℕ) → m ≤ 1048576
    → (f.operator ≡ Tail → family f.kind ≡ texts) → p ≡ assigned f.kind u → IsNarrow u → length (text_of u) ≤ m
    → IsSuited m f (Some v) → Rule f p (Some v) bit x → IsSendable f x
held_sendable f p u v bit x m g t held narrow short suited rule =
    rule_sendable f p (Some v) bit x m g t (λ base e. subst (IsBase m) (one_base (delta_base f p) u base (delta_at f p u held) e) (record {
      narrow = narrow;
      short = short;
    })) suited rule
