-- A value has one item by the rule, and an item one spelling in strict mode.
use Rattle.std.proofs.Common.{◌≡◌, inl, inr, ℕ, suc, ◌+◌, ◌*◌, ◌-◌, ◌/◌, ◌%◌, ◌<◌, ◌≤◌, List, [], ◌∷◌, ◌++◌, length, refl, ap, sym, subst, ◌∙◌, arith}
use Rattle.std.specs.Prelude.{zero, Bool, true, false, nat_eq, slice_index_or, ℤ, pos, negsuc, Option, Some, None, Result, Ok, Err}
use Rattle.fast_wire.specs.meaning.Entities.{IsEntity, HaveNoStop}
use Rattle.fast_wire.specs.meaning.Integers.{Range, unsigned_range, signed_range, exponent_range, delta_range}
use Rattle.fast_wire.specs.meaning.Texts.{SpellsAscii, SpellsVector, SpellsDec, Stopped}
use Rattle.fast_wire.specs.meaning.Maps.{bits}
use Rattle.fast_wire.proofs.numbers.Spellings.{one_spelling}
use Rattle.fast_wire.proofs.map_bits.Narrow.{map_is_shortest}
use Rattle.fast_value.specs.declared.kinds.Kind.{Kind}
use Rattle.fast_value.specs.declared.kinds.Kind.TheVariants.{UInt32, Int32, UInt64, Int64, Decimal, Ascii, Unicode, Bytes}
use Rattle.fast_value.specs.declared.settings.Limits.{Limits}
use Rattle.fast_value.specs.declared.codes.Code.{Code}
use Rattle.fast_value.specs.meaning.Kinds.{ScalarData, Dec, Family, integers, decimals, texts, family, value_of_integer, value_of_text, integer_of, text_of}
use Rattle.fast_tree.specs.declared.operators.Operator.{Operator}
use Rattle.fast_tree.specs.declared.operators.Operator.TheVariants.{None as no_operator, Constant, Default, Copy, Increment, Delta, Tail}
use Rattle.fast_tree.specs.meaning.Tree.{FieldData}
use Rattle.fast_dict.specs.meaning.Dictionary.{PreviousData}
use Rattle.fast_dict.specs.meaning.Operators.{Outcome, Sent, nothing, null, value, integer_delta, decimal_delta, text_delta, kept_length}
use Rattle.fast_dict.specs.meaning.Operators.{Op, delta_base, tail_base}
use Rattle.fast_dict.specs.meaning.Rule.{IsDelta, IsTextDelta, IsTail, SentBy, Rule}
use Rattle.fast_stream.specs.meaning.Streams.{AreBytes}
use Rattle.fast_spelling.specs.meaning.Encoding.{ShortestMap, Shortest, ShortestText, ShortestNull, ShortestNoDelta, ShortestValue}
use Rattle.fast_spelling.specs.meaning.Encoding.{ShortestNullOf, SpellsSentBy}

abbrev ok_value : {A : Type 0} → A → Result A Code → A
ok_value a (Ok b) = b
ok_value a (Err c) = a

-- two answers of one step are the same
pub one_ok : {A : Type 0} (r : Result A Code) (a b : A) → r ≡ Ok a → r ≡ Ok b → a ≡ b
one_ok r a b g h = ap (ok_value a) (sym g ∙ h)

-- the previous value behind a field
pub one_next : (f : FieldData) (p : PreviousData) (bit : Bool) (x : Sent) (v : Option ScalarData) (n m : PreviousData) → Op f p bit x v n
    → Op f p bit x v m → n ≡ m
one_next f p bit x v n m g h = ap (λ (o : Outcome). o.next) (one_ok _ (record { value = v; next = n }) (record { value = v; next = m }) g.1 h.1)

one_text_delta : (b v : List ℕ) (x y : Sent) → IsTextDelta b v x → IsTextDelta b v y → x ≡ y
one_text_delta b v x y (inl g) (inl h) = g.1 ∙ sym h.1
one_text_delta b v x y (inr g) (inr h) = g.1 ∙ sym h.1
one_text_delta b v x y (inl g) (inr h) = absurd (omega (arith, g.0, h.0))
one_text_delta b v x y (inr g) (inl h) = absurd (omega (arith, g.0, h.0))

one_delta : (k : Family) (b v : ScalarData) (x y : Sent) → IsDelta k b v x → IsDelta k b v y → x ≡ y
one_delta (integers range) b v x y g h = g ∙ sym h
one_delta decimals b v x y g h = g ∙ sym h
one_delta texts b v x y g h = one_text_delta (text_of b) (text_of v) x y g h

one_tail : (b v s t : List ℕ) → IsTail b v s → IsTail b v t → s ≡ t
one_tail b v s t (inl g) (inl h) = g.1 ∙ sym h.1
one_tail b v s t (inr g) (inr h) = g.1 ∙ sym h.1
one_tail b v s t (inl g) (inr h) = absurd (omega (arith, g.0, h.0))
one_tail b v s t (inr g) (inl h) = absurd (omega (arith, g.0, h.0))

one_sent : (o : Operator) (f : FieldData) (p : PreviousData) (v : Option ScalarData) (x y : Sent) → SentBy o f p v x → SentBy o f p v y → x ≡ y
one_sent Constant f p v x y g h = g.1 ∙ sym h.1
one_sent no_operator f p None x y g h = g ∙ sym h
one_sent Default f p None x y g h = g ∙ sym h
one_sent Copy f p None x y g h = g ∙ sym h
one_sent Increment f p None x y g h = g ∙ sym h
one_sent Delta f p None x y g h = g ∙ sym h
one_sent Tail f p None x y g h = g ∙ sym h
one_sent no_operator f p (Some v) x y g h = g ∙ sym h
one_sent Default f p (Some v) x y g h = g ∙ sym h
one_sent Copy f p (Some v) x y g h = g ∙ sym h
one_sent Increment f p (Some v) x y g h = g ∙ sym h
one_sent Delta f p (Some v) x y (b, e, g) (c, i, h) = one_delta (family f.kind) c v x y
    (subst (λ (z : ScalarData). IsDelta (family f.kind) z v x) (one_ok (delta_base f p) b c e i) g) h
one_sent Tail f p (Some v) x y (b, s, e, g, q) (c, t, i, h, r) =
    q ∙ ap (λ (z : List ℕ). value (value_of_text f.kind z))
    (one_tail (text_of c) (text_of v) s t (subst (λ (z : ScalarData). IsTail (text_of z) (text_of v) s)
    (one_ok (tail_base f p) b c e i) g) h) ∙ sym r

-- one bit, and one item
pub one_rule : (f : FieldData) (p : PreviousData) (v : Option ScalarData) (a b : Bool) (x y : Sent) → Rule f p v a x → Rule f p v b y → (a ≡ b) × (x ≡ y)
one_rule f p v true true x y g h = (refl, one_sent f.operator f p v x y g.1 h.1)
one_rule f p v false false x y g h = (refl, g.1 ∙ sym h.1)
one_rule f p v true false x y g h = absurd (g.0 h.0)
one_rule f p v false true x y g h = absurd (h.0 g.0)

-- bytes in two parts
pub left_bytes : (u v : List ℕ) → AreBytes (u ++ v) → AreBytes u
left_bytes [] v h k d i = absurd (omega (arith, i))
left_bytes (x ∷ u) v h zero d i = h zero d (omega arith)
left_bytes (x ∷ u) v h (suc k) d i = left_bytes u v (λ j e g. h (suc j) e (omega (arith, g))) k d (omega (arith, i))

pub right_bytes : (u v : List ℕ) → AreBytes (u ++ v) → AreBytes v
right_bytes [] v h = h
right_bytes (x ∷ u) v h = right_bytes u v (λ j e g. h (suc j) e (omega (arith, g)))

abbrev stop_of : List ℕ → List ℕ
stop_of [] = []
stop_of (c ∷ []) = (c + 128) ∷ []
stop_of (c ∷ d ∷ v) = c ∷ stop_of (d ∷ v)

stop_front : (front : List ℕ) (last : ℕ) → stop_of (front ++ last ∷ []) ≡ front ++ (last + 128) ∷ []
stop_front [] last = refl
stop_front (x ∷ []) last = refl
stop_front (x ∷ y ∷ front) last = ap (λ (w : List ℕ). x ∷ w) (stop_front (y ∷ front) last)

stopped : (v w : List ℕ) → Stopped v w → w ≡ stop_of v
stopped v w (front, last, e, f) = f ∙ sym (stop_front front last) ∙ ap stop_of (sym e)

one_ascii : (nullable : Bool) (r s : ℕ) (t : Option (List ℕ)) (v w : List ℕ) → SpellsAscii nullable r t v → SpellsAscii nullable s t w → v ≡ w
one_ascii nullable r s None v w g h = g.1 ∙ sym h.1
one_ascii nullable r s (Some []) v w g h = g ∙ sym h
one_ascii nullable r s (Some (c ∷ t)) v w g h = stopped (c ∷ t) v g.3 ∙ sym (stopped (c ∷ t) w h.3)

-- two parts, of which each is the same
pub two_parts : (v w u x s t : List ℕ) → v ≡ u ++ x → w ≡ s ++ t → u ≡ s → x ≡ t → v ≡ w
two_parts v w u x s t e f g h = e ∙ ap (λ (z : List ℕ). z ++ x) g ∙ ap (λ (z : List ℕ). s ++ z) h ∙ sym f

pub bytes_left : (v u x : List ℕ) → v ≡ u ++ x → AreBytes v → AreBytes u
bytes_left v u x e h = left_bytes u x (subst AreBytes e h)

pub bytes_right : (v u x : List ℕ) → v ≡ u ++ x → AreBytes v → AreBytes x
bytes_right v u x e h = right_bytes u x (subst AreBytes e h)

one_vector : (nullable : Bool) (r s : ℕ) (t : Option (List ℕ)) (v w : List ℕ) → AreBytes v → AreBytes w → SpellsVector true nullable r t v
    → SpellsVector true nullable s t w → v ≡ w
one_vector nullable r s None v w a b g h = one_spelling (unsigned_range 32) nullable None v w a b g h
one_vector nullable r s (Some t) v w a b (u, g, e, _) (x, h, f, _) =
    two_parts v w u t x t e f (one_spelling (unsigned_range 32) nullable (Some _) u x (bytes_left v u t e a) (bytes_left w x t f b) g h) refl

one_text : (kind : Kind) (nullable : Bool) (r s : ℕ) (t : Option (List ℕ)) (v w : List ℕ) → AreBytes v → AreBytes w
    → ShortestText kind nullable r t v → ShortestText kind nullable s t w → v ≡ w
one_text Ascii nullable r s t v w a b g h = one_ascii nullable r s t v w g h
one_text UInt32 nullable r s t v w a b g h = one_vector nullable r s t v w a b g h
one_text Int32 nullable r s t v w a b g h = one_vector nullable r s t v w a b g h
one_text UInt64 nullable r s t v w a b g h = one_vector nullable r s t v w a b g h
one_text Int64 nullable r s t v w a b g h = one_vector nullable r s t v w a b g h
one_text Decimal nullable r s t v w a b g h = one_vector nullable r s t v w a b g h
one_text Unicode nullable r s t v w a b g h = one_vector nullable r s t v w a b g h
one_text Bytes nullable r s t v w a b g h = one_vector nullable r s t v w a b g h

one_pair : (r s : Range) (nullable : Bool) (x y : ℤ) (v w : List ℕ) → AreBytes v → AreBytes w → SpellsDec true r s nullable (Some (x, y)) v
    → SpellsDec true r s nullable (Some (x, y)) w → v ≡ w
one_pair r s nullable x y v w a b (u, t, g, h, e) (p, q, i, j, f) =
    two_parts v w u t p q e f (one_spelling r nullable (Some x) u p (bytes_left v u t e a) (bytes_left w p q f b) g i)
    (one_spelling s false (Some y) t q (bytes_right v u t e a) (bytes_right w p q f b) h j)

-- an integer, and a text, are those of their values
pub integer_kept : (kind : Kind) (x : ℤ) → integer_of (value_of_integer kind x) ≡ x
integer_kept UInt32 (pos n) = refl
integer_kept UInt32 (negsuc n) = refl
integer_kept UInt64 (pos n) = refl
integer_kept UInt64 (negsuc n) = refl
integer_kept Int32 x = refl
integer_kept Int64 x = refl
integer_kept Decimal x = refl
integer_kept Ascii x = refl
integer_kept Unicode x = refl
integer_kept Bytes x = refl

integer_same : (kind : Kind) (x y : ℤ) → value_of_integer kind x ≡ value_of_integer kind y → x ≡ y
integer_same kind x y e = sym (integer_kept kind x) ∙ ap integer_of e ∙ integer_kept kind y

pub text_kept : (kind : Kind) (t : List ℕ) → text_of (value_of_text kind t) ≡ t
text_kept UInt32 t = refl
text_kept Int32 t = refl
text_kept UInt64 t = refl
text_kept Int64 t = refl
text_kept Decimal t = refl
text_kept Ascii t = refl
text_kept Unicode t = refl
text_kept Bytes t = refl

text_same : (kind : Kind) (t s : List ℕ) → value_of_text kind t ≡ value_of_text kind s → t ≡ s
text_same kind t s q = sym (text_kept kind t) ∙ ap text_of q ∙ text_kept kind s

module _ (l : Limits) (f : FieldData) where
  one_null : (k : Family) (v w : List ℕ) → AreBytes v → AreBytes w → ShortestNull l f k v → ShortestNull l f k w → v ≡ w
  one_null (integers range) v w a b g h = one_spelling range f.optional None v w a b g h
  one_null decimals v w a b g h = one_spelling exponent_range f.optional None v w a b g h
  one_null texts v w a b g h = one_text f.kind f.optional l.max_text l.max_text None v w a b g h

  one_no_delta : (k : Family) (v w : List ℕ) → AreBytes v → AreBytes w → ShortestNoDelta f k v → ShortestNoDelta f k w → v ≡ w
  one_no_delta (integers range) v w a b g h = one_spelling delta_range f.optional None v w a b g h
  one_no_delta decimals v w a b g h = one_spelling delta_range f.optional None v w a b g h
  one_no_delta texts v w a b g h = one_spelling (signed_range 31) f.optional None v w a b g h

  one_null_of : (o : Operator) (v w : List ℕ) → AreBytes v → AreBytes w → ShortestNullOf l f o v → ShortestNullOf l f o w → v ≡ w
  one_null_of Delta v w a b g h = one_no_delta (family f.kind) v w a b g h
  one_null_of no_operator v w a b g h = one_null (family f.kind) v w a b g h
  one_null_of Constant v w a b g h = one_null (family f.kind) v w a b g h
  one_null_of Default v w a b g h = one_null (family f.kind) v w a b g h
  one_null_of Copy v w a b g h = one_null (family f.kind) v w a b g h
  one_null_of Increment v w a b g h = one_null (family f.kind) v w a b g h
  one_null_of Tail v w a b g h = one_null (family f.kind) v w a b g h

  one_value : (k : Family) (x : ScalarData) (v w : List ℕ) → AreBytes v → AreBytes w → ShortestValue l f k x v → ShortestValue l f k x w → v ≡ w
  one_value (integers range) x v w a b (n, e, g) (m, i, h) =
      one_spelling range f.optional (Some m) v w a b (subst (λ (z : ℤ). Shortest range f.optional (Some z) v)
      (integer_same f.kind n m (sym e ∙ i)) g) h
  one_value decimals x v w a b (n, m, e, g) (p, q, i, h) =
      let same : Dec n m ≡ Dec p q = sym e ∙ i in
      let n_is : n ≡ p = cc in
      let m_is : m ≡ q = cc in
      one_pair exponent_range (signed_range 63) f.optional p q v w a b (rw (n_is, m_is) at g) h
  one_value texts x v w a b (t, e, g) (s, i, h) = one_text f.kind f.optional l.max_text l.max_text (Some s) v w a b
      (subst (λ (z : List ℕ). ShortestText f.kind f.optional l.max_text (Some z) v) (text_same f.kind t s (sym e ∙ i)) g) h

  -- the bytes of an item
  pub one_spelled : (o : Operator) (p : PreviousData) (x : Sent) (v w : List ℕ) → AreBytes v → AreBytes w → SpellsSentBy o l f p x v
      → SpellsSentBy o l f p x w → v ≡ w
  one_spelled o p nothing v w a b g h = g ∙ sym h
  one_spelled o p null v w a b g h = one_null_of o v w a b g h
  one_spelled o p (value x) v w a b g h = one_value (family f.kind) x v w a b g h
  one_spelled o p (integer_delta k) v w a b g h = one_spelling delta_range f.optional (Some k) v w a b g h
  one_spelled o p (decimal_delta k j) v w a b g h = one_pair delta_range delta_range f.optional k j v w a b g h
  one_spelled o p (text_delta k part) v w a b (n, u, x, _, g, h, e) (m, s, t, _, i, j, q) =
      two_parts v w u x s t e q (one_spelling (signed_range 31) f.optional (Some k) u s (bytes_left v u x e a) (bytes_left w s t q b) g i)
      (one_text f.kind false (l.max_text - kept_length n) (l.max_text - kept_length m) (Some part) x t (bytes_right v u x e a) (bytes_right w s t q b) h j)

-- bits that are the same, of bytes
bit_same : (x y : ℕ) → x < 2 → y < 2 → nat_eq x 1 ≡ nat_eq y 1 → x ≡ y
bit_same zero zero g h e = refl
bit_same zero (suc zero) g h e = absurd (cc e)
bit_same (suc zero) zero g h e = absurd (cc e)
bit_same (suc zero) (suc zero) g h e = refl
bit_same (suc (suc x)) y g h e = absurd (omega (arith, g))
bit_same x (suc (suc y)) g h e = absurd (omega (arith, h))

seven : (n : ℕ) → n % 128
    ≡ 64 * ((n / 64) % 2) + 32 * ((n / 32) % 2) + 16 * ((n / 16) % 2) + 8 * ((n / 8) % 2) + 4 * ((n / 4) % 2) + 2 * ((n / 2) % 2) +
    (n / 1) % 2
seven n = omega arith

seven_same : (x y : ℕ) → (x / 64) % 2 ≡ (y / 64) % 2 → (x / 32) % 2 ≡ (y / 32) % 2 → (x / 16) % 2 ≡ (y / 16) % 2
    → (x / 8) % 2 ≡ (y / 8) % 2 → (x / 4) % 2 ≡ (y / 4) % 2 → (x / 2) % 2 ≡ (y / 2) % 2 → (x / 1) % 2 ≡ (y / 1) % 2
    → x % 128 ≡ y % 128
seven_same x y a b c d e f g = seven x ∙ rw (a, b, c, d, e, f, g) (sym (seven y))

byte_same : (x y : ℕ) (v w : List ℕ) → ((i : ℕ) → slice_index_or (bits (x ∷ v)) i false ≡ slice_index_or (bits (y ∷ w)) i false) → x % 128 ≡ y % 128
byte_same x y v w same = seven_same x y
    (bit_same ((x / 64) % 2) ((y / 64) % 2) (omega arith) (omega arith) (same 0)) (bit_same ((x / 32) % 2) ((y / 32) % 2) (omega arith) (omega arith) (same 1))
    (bit_same ((x / 16) % 2) ((y / 16) % 2) (omega arith) (omega arith) (same 2)) (bit_same ((x / 8) % 2) ((y / 8) % 2) (omega arith) (omega arith) (same 3))
    (bit_same ((x / 4) % 2) ((y / 4) % 2) (omega arith) (omega arith) (same 4)) (bit_same ((x / 2) % 2) ((y / 2) % 2) (omega arith) (omega arith) (same 5))
    (bit_same ((x / 1) % 2) ((y / 1) % 2) (omega arith) (omega arith) (same 6))

-- an entity, byte by byte
abbrev Ends : List ℕ → Type 0
Ends [] = ⊥
Ends (b ∷ []) = 128 ≤ b
Ends (b ∷ c ∷ w) = (b < 128) × Ends (c ∷ w)

ends : (front : List ℕ) (last : ℕ) → HaveNoStop front → 128 ≤ last → Ends (front ++ last ∷ [])
ends [] last h i = i
ends (b ∷ []) last h i = (h zero 0 (omega arith), i)
ends (b ∷ c ∷ front) last h i = (h zero 0 (omega arith), ends (c ∷ front) last (λ j e g. h (suc j) e (omega (arith, g))) i)

entity_ends : (w : List ℕ) → IsEntity w → Ends w
entity_ends w (front, last, e, h, i) = subst Ends (sym e) (ends front last h i)

one_entity : (v w : List ℕ) → length v ≡ length w → Ends v → Ends w → AreBytes v → AreBytes w
    → ((i : ℕ) → slice_index_or (bits v) i false ≡ slice_index_or (bits w) i false) → v ≡ w
one_entity [] w e g h a b same = absurd g
one_entity (x ∷ v) [] e g h a b same = absurd h
one_entity (x ∷ []) (y ∷ []) e g h a b same =
    let p = byte_same x y [] [] same in
    let q = a zero 0 (omega arith) in
    let r = b zero 0 (omega arith) in
    let k : x ≡ y = omega (arith, p, q, r, g, h) in
    ap (λ (z : ℕ). z ∷ []) k
one_entity (x ∷ []) (y ∷ d ∷ w) e g h a b same = absurd (omega (arith, e))
one_entity (x ∷ c ∷ v) (y ∷ []) e g h a b same = absurd (omega (arith, e))
one_entity (x ∷ c ∷ v) (y ∷ d ∷ w) e g h a b same =
    let p = byte_same x y (c ∷ v) (d ∷ w) same in
    let k : x ≡ y = omega (arith, p, g.0, h.0) in
    let j = one_entity (c ∷ v) (d ∷ w) (omega (arith, e)) g.1 h.1 (λ i f l. a (suc i) f (omega (arith, l)))
    (λ i f l. b (suc i) f (omega (arith, l))) (λ i. same (suc (suc (suc (suc (suc (suc (suc i)))))))) in
    ap (λ (z : ℕ). z ∷ c ∷ v) k ∙ ap (λ (z : List ℕ). y ∷ z) j

-- the map of a segment
pub one_map : (has : Bool) (b : List Bool) (v w : List ℕ) → AreBytes v → AreBytes w → ShortestMap has b v → ShortestMap has b w → v ≡ w
one_map false b v w c d g h = g ∙ sym h
one_map true b v w c d (g, i) (h, j) =
    let there = map_is_shortest v w h g.entity (λ k. i k ∙ sym (j k)) in
    let back = map_is_shortest w v g h.entity (λ k. j k ∙ sym (i k)) in
    one_entity v w (omega (arith, there, back)) (entity_ends v g.entity) (entity_ends w h.entity) c d (λ k. i k ∙ sym (j k))
