-- Every term hands over no more events than its count, and the elements counted in it, pay for.
use Rattle.std.proofs.Common.{refl, sym, arith, subst, inl, inr}
use Rattle.std.proofs.Math.Nat.{le_refl, le_trans, mul-le-mul_right, mul-le-mul_left, add-mul, suc-mul, le-max_left, le-max_right}
use Rattle.std.proofs.lemmas.Bool.{leb-true}
use Rattle.std.specs.Prelude.{◌≡◌, ℕ, zero, suc, ◌+◌, ◌*◌, ◌≤◌, Bool, true, false, if◌then◌else◌, nat_le, nat_abs, List, [], length, ℤ}
use Rattle.std.specs.Prelude.{Option, Some, None, Result, Ok, Err}
use Rattle.fast_wire.specs.meaning.Maps.{first_bit, later_bits}
use Rattle.fast_value.specs.meaning.Kinds.{exponent_range, ScalarData, integer_of}
use Rattle.fast_value.specs.declared.settings.Limits.{Limits}
use Rattle.fast_value.specs.meaning.Limits.{Bounds, bounds}
use Rattle.fast_value.specs.declared.codes.Code.{Code}
use Rattle.fast_value.specs.declared.codes.Code.TheVariants.{L2, L5, R1}
use Rattle.fast_value.specs.meaning.Messages.{one, group as group_item, sequence as sequence_item, no_slots, no_elements, element}
use Rattle.fast_tree.specs.meaning.Tree.{FieldData, uses_bit, Instruction, field, parts, group, sequence, Body, end, step, bits_of, has_map}
use Rattle.fast_tree.specs.meaning.Sizes.{event_weights, size, body_size, outer, body_outer, widest, body_widest}
use Rattle.fast_dict.specs.meaning.Dictionary.{previous_at}
use Rattle.fast_dict.specs.meaning.Operators.{ranged}
use Rattle.fast_stream.specs.meaning.Events.{EventData, FieldValue, GroupStart, GroupEnd, SequenceStart, ElementStart, ElementEnd, SequenceEnd}
use Rattle.fast_stream.specs.meaning.Phrases.{Reached, whole, cut, wrong, Phrase, gives, hands, settles, ◌followed_by◌, GoesOn}
use Rattle.fast_stream.specs.meaning.Units
use Rattle.fast_stream.specs.meaning.Grammar.{Grammar, give, fault, hand, integer, ascii_text, raw, presence_map, narrow, ◌>>=◌, of_result, phrase_of}
use Rattle.fast_stream.specs.meaning.Messages.{Context, State, Found, found, field_in, ReadAll, with_slot, handed, decimal_with}
use Rattle.fast_stream.specs.meaning.Messages.{mantissa_after, Segment, segment, elements, group_from, group_if, group_in, within_limits}
use Rattle.fast_stream.specs.meaning.Messages.{length_in, count_more, sequence_from, instruction, body_term}
use Rattle.fast_stream.proofs.terms.Quiet.{Silent, silent-settles, silent-integer, silent-map, silent-raw, silent-ascii, IsQuiet, quiet-field, quiet-map_bits}

wide-none : (x y : ℕ) → x ≤ y → x ≤ 0 + y
wide-none x y h = omega (arith, h)

module _ (W T : ℕ) where
  -- With s spent so far, the events are paid for by n, and by W for each element that is counted, of T at most.
  abbrev pub Paid : {A : Type 0} → ℕ → ℕ → Grammar A → (A → ℕ) → Type 0
  Paid s n (give a) after = (s ≤ n + after a * W) × (after a ≤ T)
  Paid s n (fault c) after = s ≤ n + T * W
  Paid s n (hand e g) after = Paid (suc s) n g after
  Paid s n (integer range nullable c g) after = (s ≤ n + T * W) × ((x : Option ℤ) → Paid s n (g x) after)
  Paid s n (ascii_text nullable room g) after = (s ≤ n + T * W) × ((x : Option (List ℕ)) → Paid s n (g x) after)
  Paid s n (raw k g) after = (s ≤ n + T * W) × ((x : List ℕ) → Paid s n (g x) after)
  Paid s n (presence_map g) after = (s ≤ n + T * W) × ((x : List ℕ) → Paid s n (g x) after)
  Paid s n (narrow k m g) after = (s ≤ n + T * W) × Paid s n g after

  none-more : (s b : ℕ) (es : List EventData) → es ≡ [] → s ≤ b → length es + s ≤ b
  none-more s b es e h = rw e (here s b h)
    where
      here : (s b : ℕ) → s ≤ b → length {A = EventData} [] + s ≤ b
      here s b h = omega (arith, h)

  -- behind a unit, and behind an event
  unit-paid : {X A : Type 0} (p : Phrase X) (q : X → Phrase A) (s b : ℕ) → Silent p → s ≤ b
      → ((x : X) (w : List ℕ) (es : List EventData) (y : Reached A) → q x w es y → length es + s ≤ b)
      → (w : List ℕ) (es : List EventData) (y : Reached A) → ◌followed_by◌ p q w es y → length es + s ≤ b
  unfolding ◌followed_by◌
  unit-paid {X} {A} p q s b h l f w es y i = by y i
    where
      on : (y : Reached A) → GoesOn p q w es y → length es + s ≤ b
      on y (u, v, fs, gs, x, i, k, d, e) = rw (e, h.silent u fs (whole x) i) (f x v gs y k)

      by : (y : Reached A) → ◌followed_by◌ p q w es y → length es + s ≤ b
      by (whole a) i = on (whole a) i
      by cut (inl i) = none-more s b es (h.silent w es cut i) l
      by cut (inr i) = on cut i
      by (wrong c) (inl i) = none-more s b es (h.silent w es (wrong c) i) l
      by (wrong c) (inr i) = on (wrong c) i

  event-paid : {A : Type 0} (e : EventData) (q : Phrase A) (s b : ℕ) → ((w : List ℕ) (es : List EventData) (y : Reached A) → q w es y → length es + suc s ≤ b)
      → (w : List ℕ) (es : List EventData) (y : Reached A) → ◌followed_by◌ (hands e) (λ _. q) w es y → length es + s ≤ b
  unfolding ◌followed_by◌ hands
  event-paid {A} e q s b f w es y i = by y i
    where
      one : (n s b : ℕ) → n + suc s ≤ b → suc n + s ≤ b
      one n s b h = omega (arith, h)

      on : (y : Reached A) → GoesOn (hands e) (λ _. q) w es y → length es + s ≤ b
      on y (u, v, fs, gs, x, i, k, d, j) = rw (j, i.1) (one (length gs) s b (f v gs y k))

      by : (y : Reached A) → ◌followed_by◌ (hands e) (λ _. q) w es y → length es + s ≤ b
      by (whole a) i = on (whole a) i
      by cut (inl i) = absurd i
      by cut (inr i) = on cut i
      by (wrong c) (inl i) = absurd i
      by (wrong c) (inr i) = on (wrong c) i

  -- What is paid for is so whatever the phrase of the term comes to.
  pub paid-phrase : {A : Type 0} (b : Bool) (g : Grammar A) (after : A → ℕ) (s n : ℕ) → Paid s n g after
      → (w : List ℕ) (es : List EventData) (y : Reached A) → phrase_of b g w es y → length es + s ≤ n + T * W
  unfolding gives settles
  paid-phrase b (give a) after s n h w es (whole c) i = none-more s (n + T * W) es i.1 (up s n (after a * W) (T * W) h.0 (mul-le-mul_right W h.1))
    where
      up : (s n a t : ℕ) → s ≤ n + a → a ≤ t → s ≤ n + t
      up s n a t h i = omega (arith, h, i)
  paid-phrase b (give a) after s n h w es cut i = absurd i
  paid-phrase b (give a) after s n h w es (wrong c) i = absurd i
  paid-phrase b (fault d) after s n h w es (whole c) i = absurd i
  paid-phrase b (fault d) after s n h w es cut i = absurd i
  paid-phrase b (fault d) after s n h w es (wrong c) i = none-more s (n + T * W) es i.1 h
  paid-phrase b (hand e g) after s n h w es y i = event-paid e (phrase_of b g) s (n + T * W) (paid-phrase b g after (suc s) n h) w es y i
  paid-phrase b (integer range nullable c g) after s n h w es y i =
      unit-paid (Units.integer b range nullable c) (λ x. phrase_of b (g x)) s (n + T * W) (silent-integer b range nullable c) h.0
      (λ x. paid-phrase b (g x) after s n (h.1 x)) w es y i
  paid-phrase b (ascii_text nullable room g) after s n h w es y i =
      unit-paid (Units.ascii_text nullable room) (λ x. phrase_of b (g x)) s (n + T * W) (silent-ascii nullable room) h.0
      (λ x. paid-phrase b (g x) after s n (h.1 x)) w es y i
  paid-phrase b (raw k g) after s n h w es y i = unit-paid (Units.raw k) (λ x. phrase_of b (g x)) s (n + T * W) (silent-raw k) h.0
      (λ x. paid-phrase b (g x) after s n (h.1 x)) w es y i
  paid-phrase b (presence_map g) after s n h w es y i = unit-paid (Units.presence_map b) (λ x. phrase_of b (g x)) s (n + T * W)
      (silent-map b) h.0 (λ x. paid-phrase b (g x) after s n (h.1 x)) w es y i
  paid-phrase b (narrow k m g) after s n h w es y i = unit-paid (settles (Units.width_checked b k m)) (λ _. phrase_of b g) s (n + T * W)
      (silent-settles (Units.width_checked b k m)) h.0 (λ _. paid-phrase b g after s n h.1) w es y i

  moved : (s n s' n' a : ℕ) → s' + n ≤ s + n' → s ≤ n + a → s' ≤ n' + a
  moved s n s' n' a h i = omega (arith, h, i)

  one-up : (s n s' n' : ℕ) → s' + n ≤ s + n' → suc s' + n ≤ suc s + n'
  one-up s n s' n' h = omega (arith, h)

  -- more is left to pay with
  move : {A : Type 0} (g : Grammar A) (after : A → ℕ) (s n s' n' : ℕ) → s' + n ≤ s + n' → Paid s n g after → Paid s' n' g after
  move (give a) after s n s' n' l h = (moved s n s' n' (after a * W) l h.0, h.1)
  move (fault c) after s n s' n' l h = moved s n s' n' (T * W) l h
  move (hand e g) after s n s' n' l h = move g after (suc s) n (suc s') n' (one-up s n s' n' l) h
  move (integer range nullable c g) after s n s' n' l h = (moved s n s' n' (T * W) l h.0, λ x. move (g x) after s n s' n' l (h.1 x))
  move (ascii_text nullable room g) after s n s' n' l h = (moved s n s' n' (T * W) l h.0, λ x. move (g x) after s n s' n' l (h.1 x))
  move (raw k g) after s n s' n' l h = (moved s n s' n' (T * W) l h.0, λ x. move (g x) after s n s' n' l (h.1 x))
  move (presence_map g) after s n s' n' l h = (moved s n s' n' (T * W) l h.0, λ x. move (g x) after s n s' n' l (h.1 x))
  move (narrow k m g) after s n s' n' l h = (moved s n s' n' (T * W) l h.0, move g after s n s' n' l h.1)

  slack : (s n m a : ℕ) → s ≤ n + a → s ≤ (n + m) + a
  slack s n m a h = omega (arith, h)

  handed-on : (s n m a : ℕ) → s ≤ n + a → s + m ≤ a + (n + m)
  handed-on s n m a h = omega (arith, h)

  -- one term after the other
  in-turn : {A B : Type 0} (g : Grammar A) (k : A → Grammar B) (after : A → ℕ) (after' : B → ℕ) (s n m : ℕ) → Paid s n g after
      → ((a : A) → after a ≤ T → Paid (after a * W) m (k a) after') → Paid s (n + m) (g >>= k) after'
  in-turn (give a) k after after' s n m h j = move (k a) after' (after a * W) m s (n + m) (handed-on s n m (after a * W) h.0) (j a h.1)
  in-turn (fault c) k after after' s n m h j = slack s n m (T * W) h
  in-turn (hand e g) k after after' s n m h j = in-turn g k after after' (suc s) n m h j
  in-turn (integer range nullable c g) k after after' s n m h j = (slack s n m (T * W) h.0, λ x. in-turn (g x) k after after' s n m (h.1 x) j)
  in-turn (ascii_text nullable room g) k after after' s n m h j = (slack s n m (T * W) h.0, λ x. in-turn (g x) k after after' s n m (h.1 x) j)
  in-turn (raw r g) k after after' s n m h j = (slack s n m (T * W) h.0, λ x. in-turn (g x) k after after' s n m (h.1 x) j)
  in-turn (presence_map g) k after after' s n m h j = (slack s n m (T * W) h.0, λ x. in-turn (g x) k after after' s n m (h.1 x) j)
  in-turn (narrow r w g) k after after' s n m h j = (slack s n m (T * W) h.0, in-turn g k after after' s n m h.1 j)

  -- a quiet term, in which no element is counted
  quiet-paid : {A : Type 0} (g : Grammar A) (c s : ℕ) → IsQuiet g → c ≤ T → s ≤ 0 + c * W → s ≤ 0 + T * W → Paid s 0 g (λ _. c)
  quiet-paid (give a) c s h l i j = (i, l)
  quiet-paid (fault d) c s h l i j = j
  quiet-paid (hand e g) c s h l i j = absurd h
  quiet-paid (integer range nullable d g) c s h l i j = (j, λ x. quiet-paid (g x) c s (h x) l i j)
  quiet-paid (ascii_text nullable room g) c s h l i j = (j, λ x. quiet-paid (g x) c s (h x) l i j)
  quiet-paid (raw k g) c s h l i j = (j, λ x. quiet-paid (g x) c s (h x) l i j)
  quiet-paid (presence_map g) c s h l i j = (j, λ x. quiet-paid (g x) c s (h x) l i j)
  quiet-paid (narrow k m g) c s h l i j = (j, quiet-paid g c s h l i j)

-- From c elements on, of T at most, the events are paid for by n and by W for each element that is counted.
pub record Costs {A : Type 0} (W T c n : ℕ) (g : Grammar A) (after : A → ℕ) : Type 0 where
  pub paid : Paid W T (c * W) n g after

-- the elements counted behind a result
abbrev pub counted_in : {X : Type 0} → X × State → ℕ
counted_in r = r.1.context.counted

abbrev pub counted_by : {X : Type 0} → X × Context → ℕ
counted_by r = r.1.counted

pub costs-more : {A : Type 0} {g : Grammar A} {after : A → ℕ} {W T c n : ℕ} (m : ℕ) → n ≤ m → Costs W T c n g after → Costs W T c m g after
costs-more {A} {g} {after} {W} {T} {c} {n} m l h = record { paid = move W T g after (c * W) n (c * W) m (more (c * W) n m l) h.paid }
  where
    more : (s n m : ℕ) → n ≤ m → s + n ≤ s + m
    more s n m l = omega (arith, l)

pub costs-bind : {A B : Type 0} {g : Grammar A} {k : A → Grammar B} {after : A → ℕ} {after' : B → ℕ} {W T c : ℕ} (n m : ℕ)
    → Costs W T c n g after → ((a : A) → after a ≤ T → Costs W T (after a) m (k a) after') → Costs W T c (n + m) (g >>= k) after'
costs-bind {A} {B} {g} {k} {after} {after'} {W} {T} {c} n m h j = record { paid = in-turn W T g k after after' (c * W) n m h.paid (λ a l. (j a l).paid) }

pub costs-give : {A : Type 0} (W : ℕ) {T : ℕ} (a : A) (after : A → ℕ) → after a ≤ T → Costs W T (after a) 0 (give a) after
costs-give W a after l = record { paid = (wide-none (after a * W) (after a * W) (le_refl (after a * W)), l) }

pub costs-hand : {A : Type 0} {g : Grammar A} {after : A → ℕ} {W T c n : ℕ} (e : EventData) → Costs W T c n g after → Costs W T c (1 + n) (hand e g) after
costs-hand {A} {g} {after} {W} {T} {c} {n} e h = record { paid = move W T g after (c * W) n (suc (c * W)) (1 + n) (one (c * W) n) h.paid }
  where
    one : (s n : ℕ) → suc s + n ≤ s + (1 + n)
    one s n = omega arith

-- a quiet term that counts no element
costs-quiet : {A : Type 0} {g : Grammar A} {W T : ℕ} (c : ℕ) → c ≤ T → IsQuiet g → Costs W T c 0 g (λ _. c)
costs-quiet {A} {g} {W} {T} c l h = record {
  paid = quiet-paid W T g c (c * W) h l (wide-none (c * W) (c * W) (le_refl (c * W)))
      (wide-none (c * W) (T * W) (mul-le-mul_right W l));
}

-- a result, and then
pub costs-result : {A B : Type 0} (r : Result A Code) {k : A → Grammar B} {after : B → ℕ} {W T c : ℕ} (n : ℕ) → c ≤ T
    → ((a : A) → r ≡ Ok a → Costs W T c n (k a) after) → Costs W T c n (of_result r >>= k) after
costs-result (Ok a) n l f = record { paid = (f a refl).paid }
costs-result (Err d) {k} {after} {W} {T} {c} n l f = record { paid = wide (c * W) n (T * W) (mul-le-mul_right W l) }
  where
    wide : (s n t : ℕ) → s ≤ t → s ≤ n + t
    wide s n t h = omega (arith, h)

-- a term, and then a function of its result
costs-end : {A B : Type 0} {g : Grammar A} {after : A → ℕ} {W T c n : ℕ} (f : A → B) (after' : B → ℕ) → ((a : A) → after' (f a) ≡ after a)
    → Costs W T c n g after → Costs W T c n (g >>= (λ a. give (f a))) after'
costs-end {A} {B} {g} {after} {W} {T} {c} {n} f after' same h =
    costs-more n (omega arith) (costs-bind n 0 h (λ a l. subst (λ z. Costs W T z 0 (give (f a)) after') (same a)
    (costs-give W (f a) after' (rw (same a) l))))

-- What is known of more elements that are counted first.
costs-counted : {A : Type 0} {g : Grammar A} {after : A → ℕ} {W T c : ℕ} (k m extra : ℕ) → m ≤ extra + k * W → Costs W T (c + k) m g after
    → Costs W T c extra g after
costs-counted {A} {g} {after} {W} {T} {c} k m extra l h =
    record { paid = move W T g after ((c + k) * W) m (c * W) extra (rw (add-mul c k W) (fewer (c * W) (k * W) m extra l)) h.paid }
  where
    fewer : (s k m e : ℕ) → m ≤ e + k → s + m ≤ (s + k) + e
    fewer s k m e l = omega (arith, l)

pub costs-field : (W T : ℕ) (l : Bounds) (f : FieldData) (s : State) → s.context.counted ≤ T → Costs W T s.context.counted 0 (field_in l f s) counted_in
costs-field W T l f s h = costs-bind 0 0 (costs-quiet s.context.counted h
    (quiet-field l f (previous_at f.entry s.context.dictionary) (if uses_bit f then first_bit s.bits else true)))
    (λ o i. costs-give W (found f s o) counted_in h)

module _ (l : Limits) (W : ℕ) where
  abbrev T : ℕ
  T = l.max_total

  costs-handed : (n : ℕ) (v : Option ScalarData) (s : State) → s.context.counted ≤ T → Costs W T s.context.counted 1 (handed n v s) counted_in
  costs-handed n None s h = costs-more 1 (omega arith) (costs-give W (None, s) counted_in h)
  costs-handed n (Some v) s h = costs-hand (FieldValue n v) (costs-give W (Some (one v), s) counted_in h)

  costs-mantissa : (n : ℕ) (m : FieldData) (e : Found) → counted_in e ≤ T → Costs W T (counted_in e) 1 (mantissa_after (bounds l) n m e) counted_in
  costs-mantissa n m (None, s) h = costs-more 1 (omega arith) (costs-give W (None, s) counted_in h)
  costs-mantissa n m (Some e, s) h = costs-result (ranged exponent_range R1 (integer_of e)) 1 h
      (λ x i. costs-bind 0 1 (costs-field W T (bounds l) m s h) (λ r j. costs-handed n (decimal_with x r.0) r.1 j))

  costs-segment : (body : Body) (n : ℕ) {p : State → Grammar ReadAll} → ((s : State) → s.context.counted ≤ T → Costs W T s.context.counted n (p s) counted_in)
      → (c : Context) → c.counted ≤ T → Costs W T c.counted n (segment body p c) counted_by
  costs-segment body n h c i = costs-more n (omega arith) (costs-bind 0 n (costs-quiet c.counted i (quiet-map_bits (bits_of body) (has_map body)))
      (λ b j. costs-end (λ r. (r.0, r.1.context)) counted_by (λ r. refl) (h (record { context = c; bits = b }) i)))

  module _ (n : ℕ) {p : Segment} (h : (c : Context) → c.counted ≤ T → Costs W T c.counted n (p c) counted_by) where
    one-more : (x : ℕ) → 1 + (n + (1 + x)) ≤ x + (2 + n)
    one-more x = omega arith

    costs-elements : (k : ℕ) (c : Context) → c.counted ≤ T → Costs W T c.counted (k * (2 + n)) (elements p k c) counted_by
    costs-elements zero c i = costs-more (0 * (2 + n)) (omega arith) (costs-give W (no_elements, c) counted_by i)
    costs-elements (suc k) c i = costs-more (suc k * (2 + n)) (rw (suc-mul k (2 + n)) (one-more (k * (2 + n))))
        (costs-hand ElementStart (costs-bind n (1 + k * (2 + n)) (h c i) (λ r j.
        costs-hand ElementEnd (costs-end (λ rest. (element r.0 rest.0, rest.1)) counted_by (λ rest. refl) (costs-elements k r.1 j)))))

    costs-group_from : (at : ℕ) (s : State) → s.context.counted ≤ T → Costs W T s.context.counted (2 + n) (group_from at p s) counted_in
    costs-group_from at s i = costs-more (2 + n) (omega arith) (costs-hand (GroupStart at) (costs-bind n 1 (h s.context i) (λ r j.
        costs-hand GroupEnd (costs-give W (Some (group_item r.0), record s { context = r.1 }) counted_in j))))

    costs-group_if : (b : Bool) (at : ℕ) (s : State) → s.context.counted ≤ T → Costs W T s.context.counted (2 + n) (group_if b at p s) counted_in
    costs-group_if true at s i = costs-group_from at s i
    costs-group_if false at s i = costs-more (2 + n) (omega arith) (costs-give W (None, s) counted_in i)

    costs-group_in : (b : Bool) (at : ℕ) (s : State) → s.context.counted ≤ T → Costs W T s.context.counted (2 + n) (group_in b at p s) counted_in
    costs-group_in false at s i = costs-group_from at s i
    costs-group_in true at s i = costs-group_if (first_bit s.bits) at (record s { bits = later_bits s.bits }) i

    within : (before k m : ℕ) → within_limits (bounds l) before k ≡ Ok m → (m ≡ k) × (k ≤ l.max_elements) × (before + k ≤ T)
    within before k m e = by (nat_le k l.max_elements) refl (nat_le (before + k) l.max_total) refl e
      where
        by : (a : Bool) → nat_le k l.max_elements ≡ a → (b : Bool) → nat_le (before + k) l.max_total ≡ b
            → ◌≡◌ {A = Result ℕ Code} (if a then (if b then Ok k else Err L5) else Err L2) (Ok m)
            → (m ≡ k) × (k ≤ l.max_elements) × (before + k ≤ T)
        by true f true g e = (let i : k ≡ m = cc e in sym i, leb-true k l.max_elements f, leb-true (before + k) l.max_total g)
        by true f false g e = absurd (cc e)
        by false f b g e = absurd (cc e)

    costs-sequence : (extra : ℕ) → ((k : ℕ) → k ≤ l.max_elements → k * (2 + n) ≤ extra + k * W) → (at : ℕ) (x : Found) → counted_in x ≤ T
        → Costs W T (counted_in x) (2 + extra) (sequence_from (bounds l) at p x) counted_in
    costs-sequence extra f at (None, s) i = costs-more (2 + extra) (omega arith) (costs-give W (None, s) counted_in i)
    costs-sequence extra f at (Some v, s) i = costs-result (length_in (bounds l) s.context v) (2 + extra) i
        (λ k e. known k (within s.context.counted (nat_abs (integer_of v)) k e))
      where
        known : (k : ℕ) → (k ≡ nat_abs (integer_of v)) × (nat_abs (integer_of v) ≤ l.max_elements) × (s.context.counted + nat_abs (integer_of v) ≤ T)
            → Costs W T s.context.counted (2 + extra) (hand (SequenceStart at k)
            (elements p k (count_more k s.context) >>= (λ r. hand SequenceEnd
            (give (Some (sequence_item r.0), record s { context = r.1 }))))) counted_in
        known k (e, few, fits) = costs-more (2 + extra) (omega arith) (costs-hand (SequenceStart at k) (costs-bind extra 1
            (costs-counted k (k * (2 + n)) extra (f k (rw e few)) (costs-elements k (count_more k s.context) (rw e fits)))
            (λ r j. costs-hand SequenceEnd (costs-give W (Some (sequence_item r.0), record s { context = r.1 }) counted_in j))))

wide : (x y z : ℕ) → x ≤ y → x ≤ y + z
wide x y z h = omega (arith, h)

-- The limit on each sequence: no element is paid for by itself.
mutual
  unfolding instruction body_term

  product-instruction : (l : Limits) (i : Instruction) (s : State) → s.context.counted ≤ l.max_total
      → Costs 0 l.max_total s.context.counted (size event_weights l i) (instruction (bounds l) i s) counted_in
  product-instruction l (field at f) s h = costs-bind 0 1 (costs-field 0 l.max_total (bounds l) f s h) (λ r i. costs-handed l 0 at.node r.0 r.1 i)
  product-instruction l (parts at e m) s h = costs-bind 0 1 (costs-field 0 l.max_total (bounds l) e s h) (λ r i. costs-mantissa l 0 at.node m r i)
  product-instruction l (group at optional body) s h = costs-group_in l 0 (body_size event_weights l body)
      (costs-segment l 0 body (body_size event_weights l body) (product-body l body)) optional at.node s h
  product-instruction l (sequence at f body) s h = costs-more (2 + l.max_elements * (2 + body_size event_weights l body)) (omega arith)
      (costs-bind 0 (2 + l.max_elements * (2 + body_size event_weights l body)) (costs-field 0 l.max_total (bounds l) f s h) (λ r i.
      costs-sequence l 0 (body_size event_weights l body) (costs-segment l 0 body (body_size event_weights l body) (product-body l body))
      (l.max_elements * (2 + body_size event_weights l body))
      (λ k e. wide (k * (2 + body_size event_weights l body)) (l.max_elements * (2 + body_size event_weights l body)) (k * 0)
      (mul-le-mul_right (2 + body_size event_weights l body) e)) at.node r i))

  pub product-body : (l : Limits) (b : Body) (s : State) → s.context.counted ≤ l.max_total
      → Costs 0 l.max_total s.context.counted (body_size event_weights l b) (body_term (bounds l) b s) counted_in
  product-body l end s h = costs-give 0 (no_slots, s) counted_in h
  product-body l (step i is) s h = costs-bind (size event_weights l i) (body_size event_weights l is) (product-instruction l i s h)
      (λ r j. costs-end (λ rest. (with_slot r.0 rest.0, rest.1)) counted_in (λ rest. refl) (product-body l is r.1 j))

-- The limit on all elements of a message: each pays for as much as the widest.
mutual
  unfolding instruction body_term

  sum-instruction : (l : Limits) (W : ℕ) (i : Instruction) → widest event_weights i ≤ W → (s : State) → s.context.counted ≤ l.max_total
      → Costs W l.max_total s.context.counted (outer event_weights i) (instruction (bounds l) i s) counted_in
  sum-instruction l W (field at f) b s h = costs-bind 0 1 (costs-field W l.max_total (bounds l) f s h) (λ r i. costs-handed l W at.node r.0 r.1 i)
  sum-instruction l W (parts at e m) b s h = costs-bind 0 1 (costs-field W l.max_total (bounds l) e s h) (λ r i. costs-mantissa l W at.node m r i)
  sum-instruction l W (group at optional body) b s h = costs-group_in l W (body_outer event_weights body)
      (costs-segment l W body (body_outer event_weights body) (sum-body l W body b)) optional at.node s h
  sum-instruction l W (sequence at f body) b s h = costs-bind 0 2 (costs-field W l.max_total (bounds l) f s h) (λ r i.
      costs-sequence l W (body_outer event_weights body) (costs-segment l W body (body_outer event_weights body)
      (sum-body l W body (le_trans (le-max_right (2 + body_outer event_weights body) (body_widest event_weights body)) b))) 0
      (λ k e. wide-none (k * (2 + body_outer event_weights body)) (k * W)
      (mul-le-mul_left k (le_trans (le-max_left (2 + body_outer event_weights body) (body_widest event_weights body)) b))) at.node r i)

  pub sum-body : (l : Limits) (W : ℕ) (b : Body) → body_widest event_weights b ≤ W → (s : State) → s.context.counted ≤ l.max_total
      → Costs W l.max_total s.context.counted (body_outer event_weights b) (body_term (bounds l) b s) counted_in
  sum-body l W end b s h = costs-give W (no_slots, s) counted_in h
  sum-body l W (step i is) b s h = costs-bind (outer event_weights i) (body_outer event_weights is)
      (sum-instruction l W i (le_trans (le-max_left (widest event_weights i) (body_widest event_weights is)) b) s h)
      (λ r j. costs-end (λ rest. (with_slot r.0 rest.0, rest.1)) counted_in (λ rest. refl)
      (sum-body l W is (le_trans (le-max_right (widest event_weights i) (body_widest event_weights is)) b) r.1 j))
