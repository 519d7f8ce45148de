-- What the rule sends can be written, and the bytes spell it.
use Rattle.std.proofs.Common.{◌≡◌, inl, inr, ℕ, suc, ◌+◌, ◌-◌, ◌<◌, ◌≤◌, List, [], ◌∷◌, length, reverse, take, drop, refl, ap, sym, subst, arith}
use Rattle.std.specs.Prelude.{Bool, true, false, All, ℤ, pos, negsuc, ◌-ℤ◌, Option, Some, None, Ok}
use Rattle.std.proofs.lemmas.Int.{ints}
use Rattle.std.proofs.lemmas.Bool.{le-leb}
use Rattle.std.proofs.lemmas.List.{length-drop, length-take, length-reverse}
use Rattle.std.proofs.lemmas.List.Elements.{All-drop, All-take}
use Rattle.fast_wire.specs.meaning.Integers.{SpellsInt, IsInteger, value as int_value}
use Rattle.fast_value.specs.declared.kinds.Kind.{Kind}
use Rattle.fast_value.specs.declared.kinds.Kind.TheVariants.{UInt32, Int32, UInt64, Int64, Decimal, Ascii, Unicode, Bytes}
use Rattle.fast_value.specs.declared.settings.Limits.{Limits}
use Rattle.fast_value.specs.meaning.Kinds.{Range, IsWithin, unsigned_range, signed_range, exponent_range, delta_range, ScalarData, U, I}
use Rattle.fast_value.specs.meaning.Kinds.{Dec, AsciiText, UnicodeText, ByteVector, Family, integers, decimals, texts, family}
use Rattle.fast_value.specs.meaning.Kinds.{value_of_integer, value_of_text, integer_of, exponent_of, mantissa_of, text_of}
use Rattle.fast_tree.specs.declared.operators.Operator.{Operator}
use Rattle.fast_tree.specs.declared.operators.Operator.TheVariants.{None as no_operator, Constant, Default, Copy, Increment, Delta, Tail}
use Rattle.fast_tree.specs.meaning.Tree.{FieldData}
use Rattle.fast_dict.specs.meaning.Dictionary.{PreviousData}
use Rattle.fast_dict.specs.meaning.Operators.{Sent, null, value, integer_delta, decimal_delta, text_delta, Kept, append_to, prepend_to}
use Rattle.fast_dict.specs.meaning.Operators.{kept_of, kept_length, delta_base}
use Rattle.fast_dict.specs.meaning.Rule.{common_front, common_back, IsTail, IsDelta, SentBy, Rule}
use Rattle.fast_spelling.specs.device.Drafts.{IsSendable, IsSendableValue, IsSendablePart, SpellsItem, SpellsValue, SpellsPart}
use Rattle.fast_spelling.specs.meaning.Encoding.{ShortestNull, ShortestNoDelta, ShortestNullOf, ShortestText, ShortestValue, SpellsSentBy}
use Rattle.fast_spelling.specs.device.Fields.{IsSuited, IsNarrow}
use Rattle.fast_spelling.specs.meaning.Suiting.{IsRight}
use Rattle.fast_spelling.proofs.rules.OneItem.{text_kept}
use Rattle.fast_spelling.proofs.rules.Ruled.{front_base, front_text, then_ok}

-- The greatest limit on texts.
abbrev most : ℕ
most = 1048576

right_sendable : (kind : Kind) (v : ScalarData) (m : ℕ) → m ≤ most → IsRight kind v → length (text_of v) ≤ m → IsSendableValue kind v
right_sendable UInt32 (U n) m g (room, h) i = h
right_sendable UInt64 (U n) m g (room, h) i = h
right_sendable Int32 (I x) m g (room, h) i = h
right_sendable Int64 (I x) m g (room, h) i = h
right_sendable Decimal (Dec x y) m g (room, h) i = h
right_sendable Ascii (AsciiText t) m g (room, h) i = (omega (arith, g, i), h.1)
right_sendable Unicode (UnicodeText t) m g (room, h) i = omega (arith, g, i)
right_sendable Bytes (ByteVector t) m g (room, h) i = omega (arith, g, i)
right_sendable kind v m g (room, h) i = absurd h

ascii_right : (v : ScalarData) → IsRight Ascii v → All (λ c. c < 128) (text_of v)
ascii_right (AsciiText t) (room, h) = h.1
ascii_right (U n) (room, h) = absurd h
ascii_right (I x) (room, h) = absurd h
ascii_right (Dec x y) (room, h) = absurd h
ascii_right (UnicodeText t) (room, h) = absurd h
ascii_right (ByteVector t) (room, h) = absurd h

-- a part of a right text
part_sendable : (kind : Kind) (v : ScalarData) (t : List ℕ) (m : ℕ) → m ≤ most → IsRight kind v → length t ≤ m
    → (All (λ c. c < 128) (text_of v) → All (λ c. c < 128) t) → IsSendablePart kind t
part_sendable Ascii v t m g h i all = (omega (arith, g, i), all (ascii_right v h))
part_sendable UInt32 v t m g h i all = omega (arith, g, i)
part_sendable Int32 v t m g h i all = omega (arith, g, i)
part_sendable UInt64 v t m g h i all = omega (arith, g, i)
part_sendable Int64 v t m g h i all = omega (arith, g, i)
part_sendable Decimal v t m g h i all = omega (arith, g, i)
part_sendable Unicode v t m g h i all = omega (arith, g, i)
part_sendable Bytes v t m g h i all = omega (arith, g, i)

text_sendable : (kind : Kind) (t : List ℕ) → family kind ≡ texts → IsSendablePart kind t → IsSendableValue kind (value_of_text kind t)
text_sendable UInt32 t q h = absurd (cc q)
text_sendable Int32 t q h = absurd (cc q)
text_sendable UInt64 t q h = absurd (cc q)
text_sendable Int64 t q h = absurd (cc q)
text_sendable Decimal t q h = absurd (cc q)
text_sendable Ascii t q h = h
text_sendable Unicode t q h = h
text_sendable Bytes t q h = h

-- numbers
narrow_integer : (v : ScalarData) → IsNarrow v → IsWithin (signed_range 64) (integer_of v)
narrow_integer (U n) h = (omega (arith, ints), omega (arith, ints, h))
narrow_integer (I x) h = (omega (arith, ints, h), omega (arith, ints, h))
narrow_integer (Dec x y) h = (omega (arith, ints), omega (arith, ints))
narrow_integer (AsciiText t) h = (omega (arith, ints), omega (arith, ints))
narrow_integer (UnicodeText t) h = (omega (arith, ints), omega (arith, ints))
narrow_integer (ByteVector t) h = (omega (arith, ints), omega (arith, ints))

narrow_exponent : (v : ScalarData) → IsNarrow v → IsWithin (signed_range 64) (exponent_of v)
narrow_exponent (Dec x y) h = (omega (arith, ints, h), omega (arith, ints, h))
narrow_exponent (U n) h = (omega (arith, ints), omega (arith, ints))
narrow_exponent (I x) h = (omega (arith, ints), omega (arith, ints))
narrow_exponent (AsciiText t) h = (omega (arith, ints), omega (arith, ints))
narrow_exponent (UnicodeText t) h = (omega (arith, ints), omega (arith, ints))
narrow_exponent (ByteVector t) h = (omega (arith, ints), omega (arith, ints))

narrow_mantissa : (v : ScalarData) → IsNarrow v → IsWithin (signed_range 64) (mantissa_of v)
narrow_mantissa (Dec x y) h = (omega (arith, ints, h), omega (arith, ints, h))
narrow_mantissa (U n) h = (omega (arith, ints), omega (arith, ints))
narrow_mantissa (I x) h = (omega (arith, ints), omega (arith, ints))
narrow_mantissa (AsciiText t) h = (omega (arith, ints), omega (arith, ints))
narrow_mantissa (UnicodeText t) h = (omega (arith, ints), omega (arith, ints))
narrow_mantissa (ByteVector t) h = (omega (arith, ints), omega (arith, ints))

pub right_narrow : (kind : Kind) (v : ScalarData) → IsRight kind v → IsNarrow v
right_narrow UInt32 (U n) (room, h) = omega (arith, h)
right_narrow UInt64 (U n) (room, h) = h
right_narrow Int32 (I x) (room, h) = (omega (arith, ints, h), omega (arith, ints, h))
right_narrow Int64 (I x) (room, h) = h
right_narrow Decimal (Dec x y) (room, h) = ((omega (arith, ints, h), omega (arith, ints, h)), h.1)
right_narrow Ascii (AsciiText t) (room, h) = tt
right_narrow Unicode (UnicodeText t) (room, h) = tt
right_narrow Bytes (ByteVector t) (room, h) = tt
right_narrow kind v (room, h) = absurd h

difference : (a b : ℤ) → IsWithin (signed_range 64) a → IsWithin (signed_range 64) b → IsWithin (signed_range 68) (a -ℤ b)
difference a b g h = (omega (arith, ints, g, h), omega (arith, ints, g, h))

taken : (n : ℕ) → n ≤ most → IsWithin (signed_range 31) (pos n)
taken n h = (omega (arith, ints), omega (arith, ints, h))

taken_front : (n : ℕ) → n ≤ most → IsWithin (signed_range 31) (negsuc n)
taken_front n h = (omega (arith, ints, h), omega (arith, ints))

-- What is known of the base of a delta: it is short, and its numbers are narrow.
pub record IsBase (m : ℕ) (base : ScalarData) : Type 0 where
  pub narrow : IsNarrow base
  pub short : length (text_of base) ≤ m

delta_sendable : (k : Family) (f : FieldData) (v base : ScalarData) (x : Sent) (m : ℕ) → m ≤ most → IsRight f.kind v
    → length (text_of v) ≤ m → IsBase m base → IsDelta k base v x → IsSendable f x
delta_sendable (integers range) f v base x m g h i b e =
    subst (IsSendable f) (sym e) (difference (integer_of v) (integer_of base) (narrow_integer v (right_narrow f.kind v h))
    (narrow_integer base b.narrow))
delta_sendable decimals f v base x m g h i b e = subst (IsSendable f) (sym e) (
  difference (exponent_of v) (exponent_of base) (narrow_exponent v (right_narrow f.kind v h)) (narrow_exponent base b.narrow),
  difference (mantissa_of v) (mantissa_of base) (narrow_mantissa v (right_narrow f.kind v h)) (narrow_mantissa base b.narrow),
)
delta_sendable texts f v base x m g h i b (inl (_, e)) =
    let n = common_front (text_of base) (text_of v) in
    subst (IsSendable f) (sym e) (
      taken (length (text_of base) - n) (omega (arith, g, b.short)),
      part_sendable f.kind v (drop n (text_of v)) m g h (omega (arith, i, length-drop n (text_of v)))
          (All-drop (λ c. c < 128) n (text_of v)),
    )
delta_sendable texts f v base x m g h i b (inr (_, e)) =
    let n = length (text_of v) - common_back (text_of base) (text_of v) in
    subst (IsSendable f) (sym e) (
      taken_front (length (text_of base) - common_back (text_of base) (text_of v)) (omega (arith, g, b.short)),
      part_sendable f.kind v (take n (text_of v)) m g h (omega (arith, i, length-take n (text_of v)))
          (All-take (λ c. c < 128) n (text_of v)),
    )

tail_sendable : (f : FieldData) (v : ScalarData) (b part : List ℕ) (m : ℕ) → family f.kind ≡ texts → m ≤ most → IsRight f.kind v
    → length (text_of v) ≤ m → IsTail b (text_of v) part → IsSendableValue f.kind (value_of_text f.kind part)
tail_sendable f v b part m q g h i (inl (_, e)) =
    let n = common_front b (text_of v) in
    rw e (text_sendable f.kind (drop n (text_of v)) q (part_sendable f.kind v (drop n (text_of v)) m g h
    (omega (arith, i, length-drop n (text_of v))) (All-drop (λ c. c < 128) n (text_of v))))
tail_sendable f v b part m q g h i (inr (_, e)) = rw e (text_sendable f.kind (text_of v) q (part_sendable f.kind v (text_of v) m g h i (λ z. z)))

-- What is sent for a value or its absence can be written.
pub sent_sendable : (o : Operator) (f : FieldData) (p : PreviousData) (v : Option ScalarData) (x : Sent) (m : ℕ) → m ≤ most
    → (o ≡ Tail → family f.kind ≡ texts) → ((base : ScalarData) → delta_base f p ≡ Ok base → IsBase m base)
    → IsSuited m f v → SentBy o f p v x → IsSendable f x
sent_sendable Constant f p v x m g t b h (_, e) = subst (IsSendable f) (sym e) tt
sent_sendable no_operator f p None x m g t b h e = subst (IsSendable f) (sym e) h
sent_sendable Default f p None x m g t b h e = subst (IsSendable f) (sym e) h
sent_sendable Copy f p None x m g t b h e = subst (IsSendable f) (sym e) h
sent_sendable Increment f p None x m g t b h e = subst (IsSendable f) (sym e) h
sent_sendable Delta f p None x m g t b h e = subst (IsSendable f) (sym e) h
sent_sendable Tail f p None x m g t b h e = subst (IsSendable f) (sym e) h
sent_sendable no_operator f p (Some v) x m g t b h e = subst (IsSendable f) (sym e) (right_sendable f.kind v m g h.0 h.1)
sent_sendable Default f p (Some v) x m g t b h e = subst (IsSendable f) (sym e) (right_sendable f.kind v m g h.0 h.1)
sent_sendable Copy f p (Some v) x m g t b h e = subst (IsSendable f) (sym e) (right_sendable f.kind v m g h.0 h.1)
sent_sendable Increment f p (Some v) x m g t b h e = subst (IsSendable f) (sym e) (right_sendable f.kind v m g h.0 h.1)
sent_sendable Delta f p (Some v) x m g t b h (base, e, i) = delta_sendable (family f.kind) f v base x m g h.0 h.1 (b base e) i
sent_sendable Tail f p (Some v) x m g t b h (base, part, e, i, j) = subst (IsSendable f) (sym j) (tail_sendable f v (text_of base) part m (t refl) g h.0 h.1 i)

pub rule_sendable : (f : FieldData) (p : PreviousData) (v : Option ScalarData) (bit : Bool) (x : Sent) (m : ℕ) → m ≤ most
    → (f.operator ≡ Tail → family f.kind ≡ texts) → ((base : ScalarData) → delta_base f p ≡ Ok base → IsBase m base)
    → IsSuited m f v → Rule f p v bit x → IsSendable f x
rule_sendable f p v true x m g t b h (_, s) = sent_sendable f.operator f p v x m g t b h s
rule_sendable f p v false x m g t b h (_, e) = subst (IsSendable f) (sym e) tt

-- NULL is one byte in every type
null_value : (signed : Bool) (low high : ℤ) → int_value (record { is_signed = signed; low = low; high = high }) (0x80 ∷ []) ≡ pos 0
null_value true low high = refl
null_value false low high = refl

null_form : (range : Range) → IsInteger true range (0x80 ∷ [])
null_form range = record {
  entity = ([], 0x80, refl, (λ k d h. absurd (omega (arith, h))), omega arith);
  short = omega arith;
  shortest = λ _ (a, b, rest, e, _). let long : 1 ≡ suc (suc (length rest)) = ap length e in absurd (omega (arith, long));
}

null_int : (range : Range) → SpellsInt true range true None (0x80 ∷ [])
null_int range = record { form = null_form range; meaning = null_value range.is_signed range.low range.high; fits = tt }

null_text : (kind : Kind) (room : ℕ) → ShortestText kind true room None (0x80 ∷ [])
null_text Ascii room = (refl, refl)
null_text UInt32 room = null_int (unsigned_range 32)
null_text Int32 room = null_int (unsigned_range 32)
null_text UInt64 room = null_int (unsigned_range 32)
null_text Int64 room = null_int (unsigned_range 32)
null_text Decimal room = null_int (unsigned_range 32)
null_text Unicode room = null_int (unsigned_range 32)
null_text Bytes room = null_int (unsigned_range 32)

module _ (l : Limits) (f : FieldData) where
  null_in : (k : Family) → f.optional ≡ true → ShortestNull l f k (0x80 ∷ [])
  null_in (integers range) o = rw o (null_int range)
  null_in decimals o = rw o (null_int exponent_range)
  null_in texts o = rw o (null_text f.kind l.max_text)

  null_delta_in : (k : Family) → f.optional ≡ true → ShortestNoDelta f k (0x80 ∷ [])
  null_delta_in (integers range) o = rw o (null_int delta_range)
  null_delta_in decimals o = rw o (null_int delta_range)
  null_delta_in texts o = rw o (null_int (signed_range 31))

  null_of : (o : Operator) → f.optional ≡ true → ShortestNullOf l f o (0x80 ∷ [])
  null_of Delta h = null_delta_in (family f.kind) h
  null_of no_operator h = null_in (family f.kind) h
  null_of Constant h = null_in (family f.kind) h
  null_of Default h = null_in (family f.kind) h
  null_of Copy h = null_in (family f.kind) h
  null_of Increment h = null_in (family f.kind) h
  null_of Tail h = null_in (family f.kind) h

  text_in : (kind : Kind) → f.kind ≡ kind → (t : List ℕ) (w : List ℕ) → length t ≤ l.max_text → SpellsPart kind f.optional t w
      → ShortestValue l f texts (value_of_text kind t) w
  text_in kind q t w i s = (
    t,
    ap (λ (k : Kind). value_of_text k t) (sym q),
    subst (λ (k : Kind). ShortestText k f.optional l.max_text (Some t) w) (sym q) (s l.max_text i),
  )

  value_in : (kind : Kind) → f.kind ≡ kind → (v : ScalarData) (w : List ℕ) → IsSendableValue kind v → length (text_of v) ≤ l.max_text
      → SpellsValue kind f.optional v w → ShortestValue l f (family kind) v w
  value_in UInt32 q (U n) w h i s = (
    pos n,
    ap (λ (k : Kind). value_of_integer k (pos n)) (sym q),
    s (unsigned_range 32) refl (omega (arith, ints), omega (arith, ints, h)),
  )
  value_in UInt64 q (U n) w h i s = (
    pos n,
    ap (λ (k : Kind). value_of_integer k (pos n)) (sym q),
    s (unsigned_range 64) refl (omega (arith, ints), omega (arith, ints, h)),
  )
  value_in Int32 q (I x) w h i s = (x, ap (λ (k : Kind). value_of_integer k x) (sym q), s (signed_range 31) refl h)
  value_in Int64 q (I x) w h i s = (x, ap (λ (k : Kind). value_of_integer k x) (sym q), s (signed_range 63) refl h)
  value_in Decimal q (Dec x y) w h i (u, t, g, j, e) = (x, y, refl, (u, t, g exponent_range refl h.0, j (signed_range 63) refl h.1, e))
  value_in Ascii q (AsciiText t) w h i s = text_in Ascii q t w i s
  value_in Unicode q (UnicodeText t) w h i s = text_in Unicode q t w i s
  value_in Bytes q (ByteVector t) w h i s = text_in Bytes q t w i s
  value_in kind q v w h i s = absurd h

  whole_delta : (k : ℤ) → IsWithin (signed_range 68) k → IsWithin delta_range k
  whole_delta k h = (omega (arith, ints, h), omega (arith, ints, h))

  -- a text delta: what is kept and what is sent are no longer than the text
  text_delta_in : (p : PreviousData) (base : ScalarData) (k : ℤ) (part : List ℕ) (kept : Kept) (w : List ℕ) → delta_base f p ≡ Ok base
      → kept_of (text_of base) k ≡ Ok kept → kept_length kept + length part ≤ l.max_text → IsSendable f (text_delta k part)
      → SpellsItem f (text_delta k part) w → SpellsSentBy Delta l f p (text_delta k part) w
  text_delta_in p base k part kept w e g i h (u, t, a, b, j) = (
    kept,
    u,
    t,
    then_ok (delta_base f p) (λ z. kept_of (text_of z) k) base kept e g,
    a (signed_range 31) refl h.0,
    b (l.max_text - kept_length kept) (omega (arith, i)),
    j,
  )

  delta_in : (k : Family) (p : PreviousData) (v base : ScalarData) (x : Sent) (w : List ℕ) → delta_base f p ≡ Ok base
      → length (text_of v) ≤ l.max_text → IsDelta k base v x → IsSendable f x → SpellsItem f x w → SpellsSentBy Delta l f p x w
  delta_in (integers range) p v base x w b i e h s = delta_by x (integer_of v -ℤ integer_of base) e h s
    where
      delta_by : (x : Sent) (n : ℤ) → x ≡ integer_delta n → IsSendable f x → SpellsItem f x w → SpellsSentBy Delta l f p x w
      delta_by x n e h s = subst (λ (z : Sent). IsSendable f z → SpellsItem f z w → SpellsSentBy Delta l f p z w) (sym e)
          (λ g t. t delta_range refl (whole_delta n g)) h s
  delta_in decimals p v base x w b i e h s = delta_by x (exponent_of v -ℤ exponent_of base) (mantissa_of v -ℤ mantissa_of base) e h s
    where
      delta_by : (x : Sent) (n m : ℤ) → x ≡ decimal_delta n m → IsSendable f x → SpellsItem f x w → SpellsSentBy Delta l f p x w
      delta_by x n m e h s = subst (λ (z : Sent). IsSendable f z → SpellsItem f z w → SpellsSentBy Delta l f p z w) (sym e)
          (λ g t. (t.0, t.1, t.2 delta_range refl (whole_delta n g.0), t.3 delta_range refl (whole_delta m g.1), t.4)) h s
  delta_in texts p v base x w b i (inl (_, e)) h s =
      let c = text_of base in
      let t = text_of v in
      let n = common_front c t in
      let base_fits : n ≤ length c = front_base c t in
      let text_fits : n ≤ length t = front_text c t in
      let kept_is : kept_of c (pos (length c - n)) ≡ Ok (append_to (take (length c - (length c - n)) c)) =
      rw (le-leb (length c - n) (length c) (omega arith)) refl in
      let fits : length (take (length c - (length c - n)) c) + length (drop n t) ≤ l.max_text =
      omega (arith, length-take (length c - (length c - n)) c, length-drop n t, i, base_fits, text_fits) in
      subst (λ (z : Sent). IsSendable f z → SpellsItem f z w → SpellsSentBy Delta l f p z w) (sym e)
      (λ g j. text_delta_in p base (pos (length c - n)) (drop n t) (append_to (take (length c - (length c - n)) c)) w b kept_is fits g j) h s
  delta_in texts p v base x w b i (inr (_, e)) h s =
      let c = text_of base in
      let t = text_of v in
      let n = common_back c t in
      let base_fits : n ≤ length c = omega (arith, front_base (reverse c) (reverse t), length-reverse c) in
      let text_fits : n ≤ length t = omega (arith, front_text (reverse c) (reverse t), length-reverse t) in
      let kept_is : kept_of c (negsuc (length c - n)) ≡ Ok (prepend_to (drop (length c - n) c)) = rw (le-leb (length c - n) (length c) (omega arith)) refl in
      let fits : length (drop (length c - n) c) + length (take (length t - n) t) ≤ l.max_text =
      omega (arith, length-drop (length c - n) c, length-take (length t - n) t, i, base_fits, text_fits) in
      subst (λ (z : Sent). IsSendable f z → SpellsItem f z w → SpellsSentBy Delta l f p z w) (sym e)
      (λ g j. text_delta_in p base (negsuc (length c - n)) (take (length t - n) t) (prepend_to (drop (length c - n) c)) w b kept_is fits g j) h s

  abbrev Spells : Operator → PreviousData → List ℕ → Sent → Type 0
  Spells o p w z = IsSendable f z → SpellsItem f z w → SpellsSentBy o l f p z w

  null_spelled : (o : Operator) (p : PreviousData) (x : Sent) (w : List ℕ) → x ≡ null → Spells o p w x
  null_spelled o p x w e = subst (Spells o p w) (sym e) (λ g s. subst (ShortestNullOf l f o) (sym s) (null_of o g))

  value_spelled : (o : Operator) (p : PreviousData) (v : ScalarData) (x : Sent) (w : List ℕ) → length (text_of v) ≤ l.max_text → x ≡ value v → Spells o p w x
  value_spelled o p v x w i e = subst (Spells o p w) (sym e) (λ g s. value_in f.kind refl v w g i s)

  tail_short : (b part : List ℕ) (v : List ℕ) → length v ≤ l.max_text → IsTail b v part → length (text_of (value_of_text f.kind part)) ≤ l.max_text
  tail_short b part v i (inl (_, e)) = rw (text_kept f.kind part) (omega (arith, i, ap length e, length-drop (common_front b v) v))
  tail_short b part v i (inr (_, e)) = rw (text_kept f.kind part) (omega (arith, i, ap length e))

  sent_spelled : (o : Operator) (p : PreviousData) (v : Option ScalarData) (x : Sent) (w : List ℕ) → IsSuited l.max_text f v → SentBy o f p v x → Spells o p w x
  sent_spelled Constant p v x w h (_, e) = subst (Spells Constant p w) (sym e) (λ g s. s)
  sent_spelled no_operator p None x w h e = null_spelled no_operator p x w e
  sent_spelled Default p None x w h e = null_spelled Default p x w e
  sent_spelled Copy p None x w h e = null_spelled Copy p x w e
  sent_spelled Increment p None x w h e = null_spelled Increment p x w e
  sent_spelled Delta p None x w h e = null_spelled Delta p x w e
  sent_spelled Tail p None x w h e = null_spelled Tail p x w e
  sent_spelled no_operator p (Some v) x w h e = value_spelled no_operator p v x w h.1 e
  sent_spelled Default p (Some v) x w h e = value_spelled Default p v x w h.1 e
  sent_spelled Copy p (Some v) x w h e = value_spelled Copy p v x w h.1 e
  sent_spelled Increment p (Some v) x w h e = value_spelled Increment p v x w h.1 e
  sent_spelled Delta p (Some v) x w h (base, e, i) = λ g s. delta_in (family f.kind) p v base x w e h.1 i g s
  sent_spelled Tail p (Some v) x w h (base, part, e, i, j) =
      value_spelled Tail p (value_of_text f.kind part) x w (tail_short (text_of base) part (text_of v) h.1 i) j

  pub rule_spelled : (p : PreviousData) (v : Option ScalarData) (bit : Bool) (x : Sent) (w : List ℕ) → IsSuited l.max_text f v
      → Rule f p v bit x → IsSendable f x → SpellsItem f x w → SpellsSentBy f.operator l f p x w
  rule_spelled p v true x w h (_, e) g s = sent_spelled f.operator p v x w h e g s
  rule_spelled p v false x w h (_, e) g s = subst (λ (z : Sent). SpellsItem f z w → SpellsSentBy f.operator l f p z w) (sym e) (λ j. j) s
