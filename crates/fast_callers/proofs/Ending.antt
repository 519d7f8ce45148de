-- A stream ends no more messages than it has bytes.
use Rattle.std.proofs.Common.{refl, arith, inl, inr}
use Rattle.std.specs.Prelude.{◌≡◌, ℕ, zero, suc, ◌+◌, ◌≤◌, Bool, true, false, if◌then◌else◌, List, [], ◌∷◌, ◌++◌, length, flat_map, ℤ}
use Rattle.std.specs.Prelude.{Option, Some, None, Result, Ok, Err}
use Rattle.std.proofs.lemmas.List.{length-append}
use Rattle.fast_wire.specs.meaning.Maps.{bits, first_bit, later_bits}
use Rattle.fast_value.specs.declared.settings.Limits.{Limits}
use Rattle.fast_value.specs.declared.codes.Code.{Code}
use Rattle.fast_value.specs.declared.codes.Code.TheVariants.{R1}
use Rattle.fast_value.specs.meaning.Kinds.{exponent_range, ScalarData, integer_of}
use Rattle.fast_value.specs.meaning.Limits.{Bounds, bounds}
use Rattle.fast_value.specs.meaning.Messages.{MessageData}
use Rattle.fast_tree.specs.meaning.Tree.{FieldData, identifier, uses_bit, Instruction, field, parts, group, sequence, Body, end, step}
use Rattle.fast_tree.specs.meaning.Tree.{bits_of, has_map, TemplateData, Tree}
use Rattle.fast_dict.specs.meaning.Dictionary.{Dictionary, previous_at, fresh}
use Rattle.fast_dict.specs.meaning.Operators.{ranged}
use Rattle.fast_stream.specs.meaning.Events.{EventData, MessageEnd, events}
use Rattle.fast_stream.specs.meaning.Phrases.{Reached, whole as all_of, cut, wrong, Phrase, gives, hands, settles, ◌followed_by◌, GoesOn}
use Rattle.fast_stream.specs.meaning.Units
use Rattle.fast_stream.specs.meaning.Grammar.{Grammar, give, fault, hand, integer, ascii_text, raw, presence_map, narrow, ◌>>=◌, of_result, phrase_of}
use Rattle.fast_stream.specs.meaning.Messages.{Context, State, Found, field_in, ReadAll, begin, handed, decimal_with, mantissa_after}
use Rattle.fast_stream.specs.meaning.Messages.{Segment, segment, elements, group_from, group_if, group_in, length_in, count_more}
use Rattle.fast_stream.specs.meaning.Messages.{sequence_from, instruction, body_term, template_of, reset_if, message_of, message_behind}
use Rattle.fast_stream.specs.meaning.Messages.{message_term, message, SpellsMessage}
use Rattle.fast_stream.specs.meaning.Streams.{End, between, inside, faulted, SpellsAll, Chain, Stream}
use Rattle.fast_stream.proofs.terms.Quiet.{Silent, silent-settles, silent-integer, silent-map, silent-raw, silent-ascii, IsQuiet, quiet-field, quiet-map_bits}
use Rattle.fast_stream.proofs.streams.Reading.{reads-first}
use Rattle.fast_callers.specs.meaning.Callers.{ends, whole}

-- messages that are whole among events and more
pub whole-append : (es fs : List EventData) → whole (es ++ fs) ≡ whole es + whole fs
whole-append [] fs = omega arith
whole-append (e ∷ es) fs = let rest = whole-append es fs in omega (arith, rest)

-- The term hands over the ends of so many messages, at most.
abbrev EndsAtMost : {A : Type 0} → ℕ → Grammar A → Type 0
EndsAtMost n (give a) = Unit {0}
EndsAtMost n (fault c) = Unit {0}
EndsAtMost n (hand e g) = (m : ℕ) × (ends e + m ≤ n) × EndsAtMost m g
EndsAtMost n (integer range nullable c g) = (x : Option ℤ) → EndsAtMost n (g x)
EndsAtMost n (ascii_text nullable room g) = (x : Option (List ℕ)) → EndsAtMost n (g x)
EndsAtMost n (raw k g) = (x : List ℕ) → EndsAtMost n (g x)
EndsAtMost n (presence_map g) = (x : List ℕ) → EndsAtMost n (g x)
EndsAtMost n (narrow k m g) = EndsAtMost n g

-- one term after the other: the first hands over none
in_turn : {A B : Type 0} (n : ℕ) (g : Grammar A) (k : A → Grammar B) → EndsAtMost 0 g → ((a : A) → EndsAtMost n (k a)) → EndsAtMost n (g >>= k)
in_turn n (give a) k h f = f a
in_turn n (fault c) k h f = tt
in_turn n (hand e g) k (m, few, h) f = let none : m ≡ 0 = omega (arith, few) in (n, omega (arith, few), in_turn n g k (rw (← none) h) f)
in_turn n (integer range nullable c g) k h f = λ x. in_turn n (g x) k (h x) f
in_turn n (ascii_text nullable room g) k h f = λ x. in_turn n (g x) k (h x) f
in_turn n (raw r g) k h f = λ x. in_turn n (g x) k (h x) f
in_turn n (presence_map g) k h f = λ x. in_turn n (g x) k (h x) f
in_turn n (narrow r w g) k h f = in_turn n g k h f

quiet_ends : {A : Type 0} (g : Grammar A) → IsQuiet g → EndsAtMost 0 g
quiet_ends (give a) h = tt
quiet_ends (fault c) h = tt
quiet_ends (hand e g) h = absurd h
quiet_ends (integer range nullable c g) h = λ x. quiet_ends (g x) (h x)
quiet_ends (ascii_text nullable room g) h = λ x. quiet_ends (g x) (h x)
quiet_ends (raw k g) h = λ x. quiet_ends (g x) (h x)
quiet_ends (presence_map g) h = λ x. quiet_ends (g x) (h x)
quiet_ends (narrow k m g) h = quiet_ends g h

-- the same of a term that is known by its type
record Ends {A : Type 0} (n : ℕ) (g : Grammar A) : Type 0 where
  pub most : EndsAtMost n g

ends_give : {A : Type 0} {a : A} {n : ℕ} → Ends n (give a)
ends_give = record { most = tt }

ends_bind : {A B : Type 0} {g : Grammar A} {k : A → Grammar B} {n : ℕ} → Ends 0 g → ((a : A) → Ends n (k a)) → Ends n (g >>= k)
ends_bind {A} {B} {g} {k} {n} h f = record { most = in_turn n g k h.most (λ a. (f a).most) }

ends_quiet : {A : Type 0} {g : Grammar A} → IsQuiet g → Ends 0 g
ends_quiet {A} {g} h = record { most = quiet_ends g h }

-- an event that ends no message, and then
ends_hand : {A : Type 0} {e : EventData} {g : Grammar A} {n : ℕ} → ends e ≡ 0 → Ends n g → Ends n (hand e g)
ends_hand {A} {e} {g} {n} none h = record { most = (n, omega (arith, none), h.most) }

ends_result : {A B : Type 0} (r : Result A Code) {k : A → Grammar B} {n : ℕ} → ((a : A) → Ends n (k a)) → Ends n (of_result r >>= k)
ends_result (Ok a) f = record { most = (f a).most }
ends_result (Err c) f = record { most = tt }

field_ends : (l : Bounds) (f : FieldData) (s : State) → Ends 0 (field_in l f s)
field_ends l f s = ends_bind (ends_quiet (quiet-field l f (previous_at f.entry s.context.dictionary)
    (if uses_bit f then first_bit s.bits else true))) (λ o. ends_give)

handed_ends : (n : ℕ) (v : Option ScalarData) (s : State) → Ends 0 (handed n v s)
handed_ends n None s = ends_give
handed_ends n (Some v) s = ends_hand refl ends_give

mantissa_ends : (l : Bounds) (n : ℕ) (m : FieldData) (e : Found) → Ends 0 (mantissa_after l n m e)
mantissa_ends l n m (None, s) = ends_give
mantissa_ends l n m (Some e, s) = ends_result (ranged exponent_range R1 (integer_of e))
    (λ x. ends_bind (field_ends l m s) (λ r. handed_ends n (decimal_with x r.0) r.1))

segment_ends : (body : Body) {p : State → Grammar ReadAll} → ((s : State) → Ends 0 (p s)) → (c : Context) → Ends 0 (segment body p c)
segment_ends body f c = ends_bind (ends_quiet (quiet-map_bits (bits_of body) (has_map body))) (λ b. ends_bind (f (record {
  context = c;
  bits = b;
})) (λ r. ends_give))

module _ {p : Segment} (f : (c : Context) → Ends 0 (p c)) where
  elements_end : (k : ℕ) (c : Context) → Ends 0 (elements p k c)
  elements_end zero c = ends_give
  elements_end (suc k) c = ends_hand refl (ends_bind (f c) (λ r. ends_hand refl (ends_bind (elements_end k r.1) (λ rest. ends_give))))

  group_from_ends : (at : ℕ) (s : State) → Ends 0 (group_from at p s)
  group_from_ends at s = ends_hand refl (ends_bind (f s.context) (λ r. ends_hand refl ends_give))

  group_if_ends : (b : Bool) (at : ℕ) (s : State) → Ends 0 (group_if b at p s)
  group_if_ends true at s = group_from_ends at s
  group_if_ends false at s = ends_give

  group_ends : (b : Bool) (at : ℕ) (s : State) → Ends 0 (group_in b at p s)
  group_ends false at s = group_from_ends at s
  group_ends true at s = group_if_ends (first_bit s.bits) at (record s { bits = later_bits s.bits })

  sequence_ends : (l : Bounds) (at : ℕ) (x : Found) → Ends 0 (sequence_from l at p x)
  sequence_ends l at (None, s) = ends_give
  sequence_ends l at (Some v, s) = ends_result (length_in l s.context v)
      (λ k. ends_hand refl (ends_bind (elements_end k (count_more k s.context)) (λ r. ends_hand refl ends_give)))

mutual
  unfolding instruction body_term

  instruction_ends : (l : Bounds) (i : Instruction) (s : State) → Ends 0 (instruction l i s)
  instruction_ends l (field at f) s = ends_bind (field_ends l f s) (λ r. handed_ends at.node r.0 r.1)
  instruction_ends l (parts at e m) s = ends_bind (field_ends l e s) (λ r. mantissa_ends l at.node m r)
  instruction_ends l (group at optional body) s = group_ends (segment_ends body (body_ends l body)) optional at.node s
  instruction_ends l (sequence at f body) s = ends_bind (field_ends l f s) (λ r. sequence_ends (segment_ends body (body_ends l body)) l at.node r)

  body_ends : (l : Bounds) (b : Body) (s : State) → Ends 0 (body_term l b s)
  body_ends l end s = ends_give
  body_ends l (step i is) s = ends_bind (instruction_ends l i s) (λ r. ends_bind (body_ends l is r.1) (λ rest. ends_give))

-- a message ends itself alone
ends_message : {A : Type 0} (a : A) → Ends 1 (hand MessageEnd (give a))
ends_message a = record { most = (0, omega arith, tt) }

behind_ends : (t : Tree) (l : Bounds) (m : List ℕ) (id : Found) → Ends 1 (message_behind t l m id)
behind_ends t l m id = ends_result (template_of t id.0) (λ u. record { most = (from u.0 u.1).most })
  where
    from : (n : ℕ) (u : TemplateData) → Ends 1 (message_of l n u id.1)
    from n u = ends_hand refl (ends_bind (body_ends l u.body (reset_if u.reset id.1)) (λ r. ends_message (
      record {
        template = n;
        slots = r.0;
      },
      r.1.context.dictionary,
    )))

message_ends : (t : Tree) (l : Bounds) (d : Dictionary) → EndsAtMost 1 (message_term t l d)
unfolding message_term
message_ends t l d = λ m. (ends_bind (field_ends l identifier (begin d (bits m))) (λ id. behind_ends t l m id)).most

-- ---- what a term says of its phrase

none_whole : (n : ℕ) (es : List EventData) → es ≡ [] → whole es ≤ n
none_whole n es e = rw e (omega arith)

behind_unit : {X A : Type 0} (p : Phrase X) (q : X → Phrase A) (n : ℕ) → Silent p
    → ((x : X) (w : List ℕ) (es : List EventData) (y : Reached A) → q x w es y → whole es ≤ n)
    → (w : List ℕ) (es : List EventData) (y : Reached A) → ◌followed_by◌ p q w es y → whole es ≤ n
unfolding ◌followed_by◌
behind_unit {X} {A} p q n h f w es y i = by y i
  where
    on : (y : Reached A) → GoesOn p q w es y → whole es ≤ n
    on y (u, v, fs, gs, x, i, k, d, e) = rw (e, h.silent u fs (all_of x) i) (f x v gs y k)

    by : (y : Reached A) → ◌followed_by◌ p q w es y → whole es ≤ n
    by (all_of a) i = on (all_of a) i
    by cut (inl i) = none_whole n es (h.silent w es cut i)
    by cut (inr i) = on cut i
    by (wrong c) (inl i) = none_whole n es (h.silent w es (wrong c) i)
    by (wrong c) (inr i) = on (wrong c) i

behind_event : {A : Type 0} (e : EventData) (q : Phrase A) (n m : ℕ) → ends e + m ≤ n
    → ((w : List ℕ) (es : List EventData) (y : Reached A) → q w es y → whole es ≤ m)
    → (w : List ℕ) (es : List EventData) (y : Reached A) → ◌followed_by◌ (hands e) (λ _. q) w es y → whole es ≤ n
unfolding ◌followed_by◌ hands
behind_event {A} e q n m few f w es y i = by y i
  where
    both : (a b : ℕ) → a + m ≤ n → b ≤ m → a + b ≤ n
    both a b h i = omega (arith, h, i)

    on : (y : Reached A) → GoesOn (hands e) (λ _. q) w es y → whole es ≤ n
    on y (u, v, fs, gs, x, i, k, d, j) = rw (j, i.1) (both (ends e) (whole gs) few (f v gs y k))

    by : (y : Reached A) → ◌followed_by◌ (hands e) (λ _. q) w es y → whole es ≤ n
    by (all_of a) i = on (all_of a) i
    by cut (inl i) = absurd i
    by cut (inr i) = on cut i
    by (wrong c) (inl i) = absurd i
    by (wrong c) (inr i) = on (wrong c) i

phrase_ends : {A : Type 0} (b : Bool) (g : Grammar A) (n : ℕ) → EndsAtMost n g → (w : List ℕ) (es : List EventData) (y : Reached A)
    → phrase_of b g w es y → whole es ≤ n
unfolding gives settles
phrase_ends b (give a) n h w es (all_of c) i = none_whole n es i.1
phrase_ends b (give a) n h w es cut i = absurd i
phrase_ends b (give a) n h w es (wrong c) i = absurd i
phrase_ends b (fault d) n h w es (all_of c) i = absurd i
phrase_ends b (fault d) n h w es cut i = absurd i
phrase_ends b (fault d) n h w es (wrong c) i = none_whole n es i.1
phrase_ends b (hand e g) n (m, few, h) w es y i = behind_event e (phrase_of b g) n m few (phrase_ends b g m h) w es y i
phrase_ends b (integer range nullable c g) n h w es y i =
    behind_unit (Units.integer b range nullable c) (λ x. phrase_of b (g x)) n (silent-integer b range nullable c)
    (λ x. phrase_ends b (g x) n (h x)) w es y i
phrase_ends b (ascii_text nullable room g) n h w es y i =
    behind_unit (Units.ascii_text nullable room) (λ x. phrase_of b (g x)) n (silent-ascii nullable room)
    (λ x. phrase_ends b (g x) n (h x)) w es y i
phrase_ends b (raw k g) n h w es y i = behind_unit (Units.raw k) (λ x. phrase_of b (g x)) n (silent-raw k) (λ x. phrase_ends b (g x) n (h x)) w es y i
phrase_ends b (presence_map g) n h w es y i = behind_unit (Units.presence_map b) (λ x. phrase_of b (g x)) n (silent-map b)
    (λ x. phrase_ends b (g x) n (h x)) w es y i
phrase_ends b (narrow k m g) n h w es y i = behind_unit (settles (Units.width_checked b k m)) (λ _. phrase_of b g) n
    (silent-settles (Units.width_checked b k m)) (λ _. phrase_ends b g n h) w es y i

-- ---- streams

module _ (t : Tree) (l : Limits) where
  one_message : (d : Dictionary) (w : List ℕ) (es : List EventData) (y : Reached (MessageData × Dictionary)) → message t l d w es y → whole es ≤ 1
  one_message d w es y h = phrase_ends l.strict (message_term t (bounds l) d) 1 (message_ends t (bounds l) d) w es y h

  -- a message that ends or is at fault has a byte
  has_byte : (d : Dictionary) (w : List ℕ) (es : List EventData) (r : MessageData × Dictionary) → message t l d w es (all_of r) → 1 ≤ length w
  has_byte d [] es r h = absurd ((reads-first t l d).takes [] es (all_of r) h)
  has_byte d (b ∷ w) es r h = omega arith

  wrong_has_byte : (d : Dictionary) (w : List ℕ) (es : List EventData) (c : Code) → message t l d w es (wrong c) → 1 ≤ length w
  wrong_has_byte d [] es c h = absurd ((reads-first t l d).takes [] es (wrong c) h)
  wrong_has_byte d (b ∷ w) es c h = omega arith

  sum : (a b x y : ℕ) → a ≤ 1 → 1 ≤ x → b ≤ y → a + b ≤ x + y
  sum a b x y h i j = omega (arith, h, i, j)

  all_bound : (ms : List MessageData) (d d' : Dictionary) (w : List ℕ) → SpellsAll t l d ms w d' → whole (flat_map (events t) ms) ≤ length w
  unfolding SpellsMessage
  all_bound [] d d' w h = omega arith
  all_bound (m ∷ ms) d d' w (u, v, mid, h, i, e) = rw (e, length-append u v, whole-append (events t m) (flat_map (events t) ms))
      (sum (whole (events t m)) (whole (flat_map (events t) ms)) (length u) (length v) (one_message d u (events t m) (all_of (m, mid)) h)
      (has_byte d u (events t m) (m, mid) h) (all_bound ms mid d' v i))

  chain_bound : (w : List ℕ) (es : List EventData) (d : Dictionary) → Chain t l w es d → whole es ≤ length w
  chain_bound w es d (ms, h, e) = rw e (all_bound ms (fresh t.entries) d w h)

  open_bound : (u v : List ℕ) (fs gs : List EventData) (d : Dictionary) (y : Reached (MessageData × Dictionary)) → Chain t l u fs d
      → message t l d v gs y → 1 ≤ length v → whole (fs ++ gs) ≤ length (u ++ v)
  open_bound u v fs gs d y h i j = rw (whole-append fs gs, length-append u v)
      (swap (whole fs) (whole gs) (length u) (length v) (chain_bound u fs d h) (one_message d v gs y i) j)
    where
      swap : (a b x y : ℕ) → a ≤ x → b ≤ 1 → 1 ≤ y → a + b ≤ x + y
      swap a b x y h i j = omega (arith, h, i, j)

  longer : (u v rest : List ℕ) (n : ℕ) → n ≤ length (u ++ v) → n ≤ length ((u ++ v) ++ rest)
  longer u v rest n h = let all = length-append (u ++ v) rest in omega (arith, all, h)

  -- no more messages are whole than there are bytes
  pub whole_bound : (w : List ℕ) (es : List EventData) (e : End) → Stream t l w es e → whole es ≤ length w
  unfolding Stream
  whole_bound w es between (d, h) = chain_bound w es d h
  whole_bound w es inside (u, v, fs, gs, d, h, i, j, k, e) = rw (k, e) (open_bound u v fs gs d cut h i j)
  whole_bound w es (faulted c place) (u, v, rest, fs, gs, d, h, i, n, k, e) =
      rw (k, e) (longer u v rest (whole (fs ++ gs)) (open_bound u v fs gs d (wrong c) h i (wrong_has_byte d v gs c i)))
