-- What the rule sends of a value gives that value.
use Rattle.std.proofs.Common.{◌≡◌, ◌≢◌, ◌⊎◌, inl, inr, ℕ, suc, ◌-◌, ◌≤◌, List, [], ◌∷◌, ◌++◌, length, reverse, take, drop, refl, ap, sym, subst, ◌∙◌, arith}
use Rattle.std.specs.Prelude.{Bool, true, false, ◌&&◌, nat_eq, nat_le, int_le, if◌then◌else◌, ℤ, pos, negsuc, ◌+ℤ◌, ◌-ℤ◌, Option, Some, None, Result, Ok, Err}
use Rattle.std.proofs.lemmas.Str.{is_utf8-from_IsUtf8}
use Rattle.std.proofs.lemmas.Int.{ints}
use Rattle.std.proofs.lemmas.Bool.{le-leb, lt-leb}
use Rattle.std.proofs.lemmas.Bool.Decides.{eqb_tells}
use Rattle.std.proofs.lemmas.List.{take-append-drop, reverse-append, length-drop, length-reverse, reverse-reverse}
use Rattle.std.proofs.Math.Seq.{drop-append_seam}
use Rattle.fast_value.specs.declared.kinds.Kind.{Kind}
use Rattle.fast_value.specs.declared.kinds.Kind.TheVariants.{UInt32, Int32, UInt64, Int64, Decimal, Ascii, Unicode, Bytes}
use Rattle.fast_value.specs.declared.codes.Code.{Code}
use Rattle.fast_value.specs.declared.codes.Code.TheVariants.{D2, D4, D5, D6, R1}
use Rattle.fast_value.specs.meaning.Kinds.{Range, IsWithin, signed_range, exponent_range, ScalarData, U, I, Dec, AsciiText, UnicodeText}
use Rattle.fast_value.specs.meaning.Kinds.{ByteVector, Family, integers, decimals, texts, family, value_of_integer, value_of_text}
use Rattle.fast_value.specs.meaning.Kinds.{integer_of, exponent_of, mantissa_of, text_of, same_kind}
use Rattle.fast_tree.specs.declared.operators.Operator.{Operator}
use Rattle.fast_tree.specs.declared.operators.Operator.TheVariants.{None as no_operator, Constant, Default, Copy, Increment, Delta, Tail}
use Rattle.fast_tree.specs.meaning.Tree.{FieldData, operator_uses_bit}
use Rattle.fast_dict.specs.meaning.Dictionary.{PreviousData, undefined, empty, assigned}
use Rattle.fast_dict.specs.meaning.Operators.{◌>>=◌, Outcome, Sent, nothing, null, value, text_delta, Kept, append_to, prepend_to, kept_of}
use Rattle.fast_dict.specs.meaning.Operators.{joined, with_tail, ranged, range_of, range_in, checked, checked_in, checked_text, keeps}
use Rattle.fast_dict.specs.meaning.Operators.{gives, from_initial, fixed, unsent, next_value, delta_base, tail_base, exponent_step}
use Rattle.fast_dict.specs.meaning.Operators.{mantissa_step, subtraction_step, text_step, decide_by, IsValueIn, IsDeltaIn, IsItemBy, Op}
use Rattle.fast_dict.specs.meaning.Rule.{common_front, common_back, IsTail, IsDelta, SentBy, Rule}
use Rattle.fast_stream.proofs.readers.Integers.{decides-within}
use Rattle.fast_spelling.specs.device.Fields.{next_by, next_of}
use Rattle.fast_spelling.specs.meaning.Suiting.{IsRight}
use Rattle.fast_spelling.proofs.rules.OneItem.{one_ok, text_kept}

-- What is known of a value that is right, by its family.
abbrev pub Fits : Family → Kind → ScalarData → Type 0
Fits (integers range) kind v = IsWithin range (integer_of v) × (value_of_integer kind (integer_of v) ≡ v)
Fits decimals kind v = IsWithin exponent_range (exponent_of v) × IsWithin (signed_range 63) (mantissa_of v) × (Dec (exponent_of v) (mantissa_of v) ≡ v)
Fits texts kind v = (checked_text kind (text_of v) ≡ Ok v) × (value_of_text kind (text_of v) ≡ v)

pub right_fits : (kind : Kind) (v : ScalarData) → IsRight kind v → Fits (family kind) kind v
right_fits UInt32 (U n) (room, h) = ((omega (arith, ints), omega (arith, ints, h)), refl)
right_fits UInt64 (U n) (room, h) = ((omega (arith, ints), omega (arith, ints, h)), refl)
right_fits Int32 (I x) (room, h) = (h, refl)
right_fits Int64 (I x) (room, h) = (h, refl)
right_fits Decimal (Dec e m) (room, h) = (h.0, h.1, refl)
right_fits Ascii (AsciiText t) (room, h) = (refl, refl)
right_fits Unicode (UnicodeText t) (room, h) = (rw (is_utf8-from_IsUtf8 t h.1) refl, refl)
right_fits Bytes (ByteVector t) (room, h) = (refl, refl)
right_fits kind v (room, h) = absurd h

-- common fronts
front_take : (b v : List ℕ) → take (common_front b v) b ≡ take (common_front b v) v
front_take [] v = refl
front_take (x ∷ b) [] = refl
front_take (x ∷ b) (y ∷ v) = on (front_take b v) (eqb_tells x y)
  where
    on : take (common_front b v) b ≡ take (common_front b v) v → ((nat_eq x y ≡ true) × (x ≡ y)) ⊎ ((nat_eq x y ≡ false) × (x ≢ y))
        → take (common_front (x ∷ b) (y ∷ v)) (x ∷ b) ≡ take (common_front (x ∷ b) (y ∷ v)) (y ∷ v)
    on h (inl t) = rw t.0 (ap (λ (z : ℕ). z ∷ take (common_front b v) b) t.1 ∙ ap (λ (z : List ℕ). y ∷ z) h)
    on h (inr t) = rw t.0 refl

pub front_base : (b v : List ℕ) → common_front b v ≤ length b
front_base [] v = omega arith
front_base (x ∷ b) [] = omega arith
front_base (x ∷ b) (y ∷ v) = on (front_base b v) (nat_eq x y)
  where
    on : common_front b v ≤ length b → (t : Bool) → (if t then suc (common_front b v) else 0) ≤ suc (length b)
    on h true = omega (arith, h)
    on h false = omega arith

pub front_text : (b v : List ℕ) → common_front b v ≤ length v
front_text [] v = omega arith
front_text (x ∷ b) [] = omega arith
front_text (x ∷ b) (y ∷ v) = on (front_text b v) (nat_eq x y)
  where
    on : common_front b v ≤ length v → (t : Bool) → (if t then suc (common_front b v) else 0) ≤ suc (length v)
    on h true = omega (arith, h)
    on h false = omega arith

-- what is kept in front, and what is sent behind it
pub front_joins : (b v : List ℕ) (f : ℕ) → f ≡ common_front b v → take (length b - (length b - f)) b ++ drop f v ≡ v
front_joins b v f e =
    let h : f ≤ length b = omega (arith, e, front_base b v) in
    let k : length b - (length b - f) ≡ f = omega (arith, h) in
    rw k (ap (λ (z : List ℕ). z ++ drop f v) (ap (λ (n : ℕ). take n b) e ∙ front_take b v ∙ ap (λ (n : ℕ). take n v) (sym e)) ∙ take-append-drop f v)

-- a text without its first items, of the text turned round
pub drop_turned : (xs : List ℕ) (s : ℕ) → s ≤ length xs → drop (length xs - s) xs ≡ reverse (take s (reverse xs))
drop_turned xs s h =
    let ys = reverse xs in
    let long : length ys ≡ length xs = length-reverse xs in
    let split : xs ≡ reverse (drop s ys) ++ reverse (take s ys) = sym (reverse-reverse xs) ∙ ap reverse (sym (take-append-drop s ys))
    ∙ reverse-append (take s ys) (drop s ys) in
    let front : length xs - s ≡ length (reverse (drop s ys)) = ap (λ (n : ℕ). n - s) (sym long) ∙ sym (length-drop s ys) ∙ sym (length-reverse (drop s ys)) in
    ap (λ (n : ℕ). drop n xs) front ∙ ap (drop (length (reverse (drop s ys)))) split ∙ drop-append_seam (reverse (drop s ys)) (reverse (take s ys))

-- what is kept at the back, and what is sent before it
pub back_joins : (b v : List ℕ) → take (length v - common_back b v) v ++ drop (length b - common_back b v) b ≡ v
back_joins b v =
    let s = common_back b v in
    let base : s ≤ length b = omega (arith, front_base (reverse b) (reverse v), length-reverse b) in
    let text : s ≤ length v = omega (arith, front_text (reverse b) (reverse v), length-reverse v) in
    let same : drop (length b - s) b ≡ drop (length v - s) v = drop_turned b s base ∙ ap reverse (front_take (reverse b) (reverse v))
    ∙ sym (drop_turned v s text) in
    ap (λ (z : List ℕ). take (length v - s) v ++ z) same ∙ take-append-drop (length v - s) v

-- the tail of a value makes the value
pub tail_joins : (b v part : List ℕ) → IsTail b v part → with_tail b part ≡ v
tail_joins b v part (inl (same, e)) =
    let f = common_front b v in
    let text : f ≤ length v = front_text b v in
    let long : length part ≡ length v - f = ap length e ∙ length-drop f v in
    let fits : length part ≤ length b = omega (arith, long, same) in
    let left : length b - length part ≡ f = omega (arith, long, same, text) in
    rw (le-leb (length part) (length b) fits, left, e) (ap (λ (z : List ℕ). z ++ drop f v) (front_take b v) ∙ take-append-drop f v)
tail_joins b v part (inr (longer, e)) =
    let no : nat_le (length v) (length b) ≡ false = lt-leb (length v) (length b) longer in
    rw (e, no) refl

-- a step and then another
pub then_ok : {A B : Type 0} (r : Result A Code) (k : A → Result B Code) (a : A) (b : B) → r ≡ Ok a → k a ≡ Ok b → r >>= k ≡ Ok b
then_ok r k a b e h = rw e h

-- a number that lies in the range is the number
ranged_in : (range : Range) (c : Code) (x : ℤ) → IsWithin range x → ranged range c x ≡ Ok x
ranged_in range c x h = on (int_le range.low x && int_le x range.high) ((decides-within range x).1 h)
  where
    on : (b : Bool) → b ≡ true → (if b then Ok x else Err c) ≡ Ok x
    on true e = refl
    on false e = absurd (cc e)

checked_right : (kind : Kind) (k : Family) (v : ScalarData) → Fits k kind v → checked_in k kind v ≡ Ok v
checked_right kind (integers range) v h = refl
checked_right kind decimals v h = refl
checked_right kind texts v h = h.0

pub value_right : (kind : Kind) (k : Family) (v : ScalarData) → Fits k kind v → IsValueIn k kind v
value_right kind (integers range) v h = (integer_of v, h.0, sym h.1)
value_right kind decimals v h = (exponent_of v, mantissa_of v, h.0, h.1, sym h.2)
value_right kind texts v h = (text_of v, sym h.1)

-- A value that fits the field, or absence where it may be.
abbrev pub IsFit : FieldData → Option ScalarData → Type 0
IsFit f None = f.optional ≡ true
IsFit f (Some v) = Fits (family f.kind) f.kind v

-- an item, and what it gives
abbrev Gives : Operator → FieldData → PreviousData → Option ScalarData → Sent → Type 0
Gives o f p v x = IsItemBy o true f x × (decide_by o true f p x ≡ Ok (record { value = v; next = next_by o f.kind p v }))

fixed_gives : (v : Option ScalarData) (p : PreviousData) → fixed v p ≡ Ok (record { value = v; next = p })
fixed_gives None p = refl
fixed_gives (Some v) p = refl

sum_back : (b v : ℤ) → b +ℤ (v -ℤ b) ≡ v
sum_back b v = omega (arith, ints)

-- a delta in each family
abbrev GivesDelta : Family → FieldData → PreviousData → ScalarData → Sent → Type 0
GivesDelta k f p v x = IsDeltaIn k f.optional x × (decide_by Delta true f p x ≡ Ok (record { value = Some v; next = assigned f.kind v }))

text_gives : (f : FieldData) (p : PreviousData) (v base : ScalarData) (k : ℤ) (part : List ℕ) (kept : Kept) → delta_base f p ≡ Ok base
    → kept_of (text_of base) k ≡ Ok kept → joined kept part ≡ text_of v → checked_text f.kind (text_of v) ≡ Ok v
    → decide_by Delta true f p (text_delta k part) ≡ Ok (record { value = Some v; next = assigned f.kind v })
text_gives f p v base k part kept e g j h =
    then_ok (subtraction_step f p k) (λ q. text_step f q part) kept _ (then_ok (delta_base f p) (λ b. kept_of (text_of b) k) base kept e g)
    (then_ok (checked_text f.kind (joined kept part)) (keeps f.kind) v _ (ap (checked_text f.kind) j ∙ h) refl)

delta_gives : (k : Family) (f : FieldData) → family f.kind ≡ k → (p : PreviousData) (v base : ScalarData) (x : Sent)
    → delta_base f p ≡ Ok base → Fits k f.kind v → IsDelta k base v x → GivesDelta k f p v x
delta_gives (integers range) f q p v base x e h g =
    let k = integer_of v -ℤ integer_of base in
    let r : ranged (range_of f.kind) D2 (integer_of base +ℤ k) ≡ Ok (integer_of v) =
    ap (ranged (range_of f.kind) D2) (sum_back (integer_of base) (integer_of v))
    ∙ subst (λ (z : Family). ranged (range_in z) D2 (integer_of v) ≡ Ok (integer_of v)) (sym q)
    (ranged_in range D2 (integer_of v) h.0) in
    subst (GivesDelta (integers range) f p v) (sym g) (
      tt,
      then_ok (delta_base f p) (λ b. ranged (range_of f.kind) D2 (integer_of b +ℤ k) >>= (λ y. keeps f.kind (value_of_integer f.kind y))) base _ e
          (then_ok (ranged (range_of f.kind) D2 (integer_of base +ℤ k)) (λ y. keeps f.kind (value_of_integer f.kind y)) (integer_of v) _ r
          (ap (keeps f.kind) h.1)),
    )
delta_gives decimals f q p v base x e h g =
    let k = exponent_of v -ℤ exponent_of base in
    let j = mantissa_of v -ℤ mantissa_of base in
    let r : ranged exponent_range R1 (exponent_of base +ℤ k) ≡ Ok (exponent_of v) =
    ap (ranged exponent_range R1) (sum_back (exponent_of base) (exponent_of v)) ∙ ranged_in exponent_range R1 (exponent_of v) h.0 in
    let s : ranged (signed_range 63) R1 (mantissa_of base +ℤ j) ≡ Ok (mantissa_of v) =
    ap (ranged (signed_range 63) R1) (sum_back (mantissa_of base) (mantissa_of v))
    ∙ ranged_in (signed_range 63) R1 (mantissa_of v) h.1 in
    subst (GivesDelta decimals f p v) (sym g) (
      tt,
      then_ok (exponent_step f p k) (λ y. mantissa_step f p y j) (exponent_of v) _
          (then_ok (delta_base f p) (λ b. ranged exponent_range R1 (exponent_of b +ℤ k)) base _ e r)
          (then_ok (delta_base f p) (λ b. ranged (signed_range 63) R1 (mantissa_of b +ℤ j) >>= (λ m. keeps f.kind (Dec (exponent_of v) m))) base _ e
          (then_ok (ranged (signed_range 63) R1 (mantissa_of base +ℤ j)) (λ m. keeps f.kind (Dec (exponent_of v) m)) (mantissa_of v) _ s
          (ap (keeps f.kind) h.2))),
    )
delta_gives texts f q p v base x e h (inl (_, g)) =
    let b = text_of base in
    let n = common_front b (text_of v) in
    let kept_is : kept_of b (pos (length b - n)) ≡ Ok (append_to (take (length b - (length b - n)) b)) =
    rw (le-leb (length b - n) (length b) (omega arith)) refl in
    subst (GivesDelta texts f p v) (sym g) (
      tt,
      text_gives f p v base (pos (length b - n)) (drop n (text_of v))
          (append_to (take (length b - (length b - n)) b)) e kept_is (front_joins b (text_of v) n refl) h.0,
    )
delta_gives texts f q p v base x e h (inr (_, g)) =
    let b = text_of base in
    let n = common_back b (text_of v) in
    let kept_is : kept_of b (negsuc (length b - n)) ≡ Ok (prepend_to (drop (length b - n) b)) = rw (le-leb (length b - n) (length b) (omega arith)) refl in
    subst (GivesDelta texts f p v) (sym g) (
      tt,
      text_gives f p v base (negsuc (length b - n)) (take (length (text_of v) - n) (text_of v))
          (prepend_to (drop (length b - n) b)) e kept_is (back_joins b (text_of v)) h.0,
    )

null_delta : (k : Family) (optional : Bool) → optional ≡ true → IsDeltaIn k optional null
null_delta (integers range) optional h = h
null_delta decimals optional h = h
null_delta texts optional h = h

tail_gives : (f : FieldData) (p : PreviousData) (v base : ScalarData) (part : List ℕ) → family f.kind ≡ texts → tail_base f p ≡ Ok base
    → IsTail (text_of base) (text_of v) part → checked_text f.kind (text_of v) ≡ Ok v
    → Gives Tail f p (Some v) (value (value_of_text f.kind part))
tail_gives f p v base part q e g h = (
  subst (λ (z : Family). IsValueIn z f.kind (value_of_text f.kind part)) (sym q) (part, refl),
  then_ok (tail_base f p) (λ b. checked_text f.kind (with_tail (text_of b) (text_of (value_of_text f.kind part))) >>= keeps f.kind) base _ e
      (then_ok (checked_text f.kind (with_tail (text_of base) (text_of (value_of_text f.kind part)))) (keeps f.kind) v _
      (ap (checked_text f.kind) (ap (with_tail (text_of base)) (text_kept f.kind part) ∙ tail_joins (text_of base) (text_of v) part g) ∙ h) refl),
)

sent_gives : (o : Operator) (f : FieldData) (p : PreviousData) (v : Option ScalarData) (x : Sent) → (o ≡ Tail → family f.kind ≡ texts)
    → IsFit f v → SentBy o f p v x → Gives o f p v x
sent_gives Constant f p v x t h (e, i) = (i, subst (λ (z : Option ScalarData). fixed z p ≡ Ok (record { value = v; next = p })) e (fixed_gives v p))
sent_gives no_operator f p None x t h e = subst (Gives no_operator f p None) (sym e) (h, refl)
sent_gives Default f p None x t h e = subst (Gives Default f p None) (sym e) (h, refl)
sent_gives Copy f p None x t h e = subst (Gives Copy f p None) (sym e) (h, refl)
sent_gives Increment f p None x t h e = subst (Gives Increment f p None) (sym e) (h, refl)
sent_gives Delta f p None x t h e = subst (Gives Delta f p None) (sym e) (null_delta (family f.kind) f.optional h, refl)
sent_gives Tail f p None x t h e = subst (Gives Tail f p None) (sym e) (h, refl)
sent_gives no_operator f p (Some v) x t h e = subst (Gives no_operator f p (Some v)) (sym e)
    (value_right f.kind (family f.kind) v h, then_ok (checked f v) (λ w. gives w p) v _ (checked_right f.kind (family f.kind) v h) refl)
sent_gives Default f p (Some v) x t h e = subst (Gives Default f p (Some v)) (sym e)
    (value_right f.kind (family f.kind) v h, then_ok (checked f v) (λ w. gives w p) v _ (checked_right f.kind (family f.kind) v h) refl)
sent_gives Copy f p (Some v) x t h e = subst (Gives Copy f p (Some v)) (sym e)
    (value_right f.kind (family f.kind) v h, then_ok (checked f v) (keeps f.kind) v _ (checked_right f.kind (family f.kind) v h) refl)
sent_gives Increment f p (Some v) x t h e = subst (Gives Increment f p (Some v)) (sym e)
    (value_right f.kind (family f.kind) v h, then_ok (checked f v) (keeps f.kind) v _ (checked_right f.kind (family f.kind) v h) refl)
sent_gives Delta f p (Some v) x t h (base, e, g) = delta_gives (family f.kind) f refl p v base x e h g
sent_gives Tail f p (Some v) x t h (base, part, e, g, i) =
    let q = t refl in
    let c : Fits texts f.kind v = subst (λ (z : Family). Fits z f.kind v) q h in
    subst (Gives Tail f p (Some v)) (sym i) (tail_gives f p v base part q e g c.0)

-- what an entry holds behind a value that is kept
abbrev kept_next : Kind → Option ScalarData → PreviousData
kept_next kind None = empty
kept_next kind (Some v) = assigned kind v

initial_next : (kind : Kind) (b : Bool) (c : Code) (i : Option ScalarData) (o : Outcome) → from_initial kind b c i ≡ Ok o → o.next ≡ kept_next kind o.value
initial_next kind b c (Some v) o e = subst (λ (z : Outcome). z.next ≡ kept_next kind z.value) (one_ok (Ok _) _ o refl e) refl
initial_next kind true c None o e = subst (λ (z : Outcome). z.next ≡ kept_next kind z.value) (one_ok (Ok _) _ o refl e) refl
initial_next kind false c None o e = absurd (cc e)

pub unsent_kept : (f : FieldData) (p : PreviousData) (o : Outcome) → unsent f p ≡ Ok o → o.next ≡ kept_next f.kind o.value
unsent_kept f undefined o e = initial_next f.kind f.optional D5 f.initial o e
unsent_kept f empty o e = initial_next f.kind f.optional D6 None o e
unsent_kept f (assigned kind v) o e = on (same_kind f.kind kind) e
  where
    on : (b : Bool) → ((if b then Ok v else Err D4) >>= (λ w. keeps f.kind (next_value f.operator f.kind w))) ≡ Ok o → o.next ≡ kept_next f.kind o.value
    on true g = subst (λ (z : Outcome). z.next ≡ kept_next f.kind z.value) (one_ok (Ok _) _ o refl g) refl
    on false g = absurd (cc g)

fixed_next : (i : Option ScalarData) (p : PreviousData) (o : Outcome) → fixed i p ≡ Ok o → o.next ≡ p
fixed_next None p o e = subst (λ (z : Outcome). z.next ≡ p) (one_ok (Ok _) _ o refl e) refl
fixed_next (Some v) p o e = subst (λ (z : Outcome). z.next ≡ p) (one_ok (Ok _) _ o refl e) refl

pub unsent_next : (o : Operator) (f : FieldData) (p : PreviousData) (v : Option ScalarData) (n : PreviousData)
    → operator_uses_bit o f.optional ≡ true → decide_by o false f p nothing ≡ Ok (record {
      value = v;
      next = n;
    }) → n ≡ next_by o f.kind p v
unsent_next no_operator f p v n u e = absurd (cc u)
unsent_next Delta f p v n u e = absurd (cc u)
unsent_next Constant f p v n u e = ap (λ (z : Outcome). z.next) (one_ok (Ok _) (record {
  value = v;
  next = n;
}) (record { value = None; next = p }) (sym (sym e)) refl)
unsent_next Default f p v n u e = fixed_next f.initial p (record { value = v; next = n }) e
unsent_next Copy f p None n u e = unsent_kept f p (record { value = None; next = n }) e
unsent_next Copy f p (Some v) n u e = unsent_kept f p (record { value = Some v; next = n }) e
unsent_next Increment f p None n u e = unsent_kept f p (record { value = None; next = n }) e
unsent_next Increment f p (Some v) n u e = unsent_kept f p (record { value = Some v; next = n }) e
unsent_next Tail f p None n u e = unsent_kept f p (record { value = None; next = n }) e
unsent_next Tail f p (Some v) n u e = unsent_kept f p (record { value = Some v; next = n }) e

-- What the rule sends gives the value, and what the entry holds behind it.
pub rule_gives : (f : FieldData) (p : PreviousData) (v : Option ScalarData) (bit : Bool) (x : Sent)
    → (f.operator ≡ Tail → family f.kind ≡ texts) → IsFit f v → Rule f p v bit x → Op f p bit x v (next_of f p v)
rule_gives f p v true x t h (must, s) = sent_gives f.operator f p v x t h s
rule_gives f p v false x t h ((n, u, o), e) =
    let same = unsent_next f.operator f p v n u o.1 in
    subst (λ (z : Sent). Op f p false z v (next_of f p v)) (sym e) (subst (λ (z : PreviousData). Op f p false nothing v z) same o)
