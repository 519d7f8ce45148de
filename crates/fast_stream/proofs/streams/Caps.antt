-- Laws of what messages count: over the messages that are begun, and over the parts of a body.
use Rattle.std.proofs.Common.{refl, sym, ap, ◌∙◌, subst, arith}
use Rattle.std.proofs.Math.Nat.{le-max_left, mul-le-mul_right, suc-mul, one-mul, add_assoc}
use Rattle.std.proofs.lemmas.List.{length-append}
use Rattle.std.specs.Prelude.{◌≡◌, ℕ, suc, ◌+◌, ◌*◌, ◌≤◌, max, List, [], ◌∷◌, ◌++◌, length, flat_map}
use Rattle.fast_value.specs.declared.settings.Limits.{Limits}
use Rattle.fast_value.specs.meaning.Messages.{MessageData}
use Rattle.fast_tree.specs.meaning.Tree.{Label, FieldData, sequence, Body, end, step, Tree}
use Rattle.fast_tree.specs.meaning.Sizes.{Weights, size, body_size, outer, body_outer, widest, body_widest, message_cap}
use Rattle.fast_dict.specs.meaning.Dictionary.{Dictionary}
use Rattle.fast_stream.specs.meaning.Events.{EventData, events}
use Rattle.fast_stream.specs.meaning.Phrases.{whole, cut, wrong}
use Rattle.fast_stream.specs.meaning.Messages.{SpellsMessage}
use Rattle.fast_stream.specs.meaning.Streams.{End, between, inside, faulted, SpellsAll, Stream}
use Rattle.fast_stream.specs.meaning.Begins.{Begins, joined}
use Rattle.fast_stream.proofs.streams.Bound.{message-bound}
use Rattle.fast_stream.proofs.streams.Reading.{one_answer}

-- Each stream begins some number of messages.
pub stream_begins : (t : Tree) (l : Limits) (w : List ℕ) (es : List EventData) (e : End) → Stream t l w es e → (n : ℕ) × Begins t l w e n
unfolding Stream
stream_begins t l w es between (d, (ms, h, i)) = (length ms, (ms, d, h, refl))
stream_begins t l w es inside (u, v, fs, gs, d, (ms, h, j), i, some, split, k) = (suc (length ms), (u, v, ms, gs, d, h, i, some, split, refl))
stream_begins t l w es (faulted c place) (u, v, rest, fs, gs, d, (ms, h, j), i, at, split, k) =
    (suc (length ms), (u, v, rest, ms, gs, d, h, i, at, split, refl))

module _ (t : Tree) (l : Limits) where
  whole_bound : (ms : List MessageData) (d d' : Dictionary) (w : List ℕ) → SpellsAll t l d ms w d'
      → length (flat_map (events t) ms) ≤ length ms * message_cap t l
  unfolding SpellsMessage
  whole_bound [] d d' w h = none (length {A = MessageData} [] * message_cap t l)
    where
      none : (n : ℕ) → length {A = EventData} [] ≤ n
      none n = omega arith
  whole_bound (m ∷ ms) d d' w (u, v, mid, h, i, e) = rw (length-append (events t m) (flat_map (events t) ms), suc-mul (length ms) (message_cap t l))
      (both (length (events t m)) (length (flat_map (events t) ms)) (message_cap t l) (length ms * message_cap t l)
      (message-bound t l d u (events t m) (whole (m, mid)) h) (whole_bound ms mid d' v i))
    where
      both : (x y m n : ℕ) → x ≤ m → y ≤ n → x + y ≤ n + m
      both x y m n h i = omega (arith, h, i)

  last_bound : (ms : List MessageData) (gs : List EventData) → length (flat_map (events t) ms) ≤ length ms * message_cap t l
      → length gs ≤ message_cap t l → length (flat_map (events t) ms ++ gs) ≤ suc (length ms) * message_cap t l
  last_bound ms gs h i = rw (length-append (flat_map (events t) ms) gs, suc-mul (length ms) (message_cap t l))
      (both (length (flat_map (events t) ms)) (length gs) (length ms * message_cap t l) (message_cap t l) h i)
    where
      both : (x y m n : ℕ) → x ≤ m → y ≤ n → x + y ≤ m + n
      both x y m n h i = omega (arith, h, i)

  -- Its events are within the cap for each.
  pub begun_bound : (w : List ℕ) (es : List EventData) (e : End) (n : ℕ) → Stream t l w es e → Begins t l w e n → length es ≤ n * message_cap t l
  unfolding Stream
  begun_bound w es between n h (ms, d, i, count) =
      rw (count, (one_answer t l w es (flat_map (events t) ms) between between h (d, (ms, i, refl))).0) (whole_bound ms _ d w i)
  begun_bound w es inside n h (u, v, ms, gs, d, i, j, some, split, count) =
      rw (
        count,
        (one_answer t l w es (flat_map (events t) ms ++ gs) inside inside h
            (u, v, flat_map (events t) ms, gs, d, (ms, i, refl), j, some, split, refl)).0,
      )
      (last_bound ms gs (whole_bound ms _ d u i) (message-bound t l d v gs cut j))
  begun_bound w es (faulted c place) n h (u, v, rest, ms, gs, d, i, j, at, split, count) =
      rw (
        count,
        (one_answer t l w es (flat_map (events t) ms ++ gs) (faulted c place) (faulted c place) h
            (u, v, rest, flat_map (events t) ms, gs, d, (ms, i, refl), j, at, split, refl)).0,
      )
      (last_bound ms gs (whole_bound ms _ d u i) (message-bound t l d v gs (wrong c) j))

-- The parts of a body.
max_assoc : (a b c : ℕ) → max (max a b) c ≡ max a (max b c)
max_assoc a b c = omega arith

none_more : (n : ℕ) → n ≡ 0 + n
none_more n = omega arith

none_wider : (n : ℕ) → n ≡ max 0 n
none_wider n = omega arith

pub size_joined : (u : Weights) (l : Limits) (a b : Body) → body_size u l (joined a b) ≡ body_size u l a + body_size u l b
size_joined u l end b = none_more (body_size u l b)
size_joined u l (step i is) b = ap (λ n. size u l i + n) (size_joined u l is b) ∙ sym (add_assoc (size u l i) (body_size u l is) (body_size u l b))

pub outer_joined : (u : Weights) (a b : Body) → body_outer u (joined a b) ≡ body_outer u a + body_outer u b
outer_joined u end b = none_more (body_outer u b)
outer_joined u (step i is) b = ap (λ n. outer u i + n) (outer_joined u is b) ∙ sym (add_assoc (outer u i) (body_outer u is) (body_outer u b))

pub widest_joined : (u : Weights) (a b : Body) → body_widest u (joined a b) ≡ max (body_widest u a) (body_widest u b)
widest_joined u end b = none_wider (body_widest u b)
widest_joined u (step i is) b = ap (λ n. max (widest u i) n) (widest_joined u is b) ∙ sym (max_assoc (widest u i) (body_widest u is) (body_widest u b))

-- An element of a sequence.
pub element_size : (u : Weights) (l : Limits) (at : Label) (f : FieldData) (body : Body) → 1 ≤ l.max_elements
    → 2 + body_size u l body ≤ size u l (sequence at f body)
element_size u l at f body some = up (2 + body_size u l body) (l.max_elements * (2 + body_size u l body)) u.sequence
    (subst (λ n. n ≤ l.max_elements * (2 + body_size u l body)) (one-mul (2 + body_size u l body))
    (mul-le-mul_right (2 + body_size u l body) some))
  where
    up : (x y s : ℕ) → x ≤ y → x ≤ s + y
    up x y s h = omega (arith, h)

pub element_widest : (u : Weights) (at : Label) (f : FieldData) (body : Body) → 2 + body_outer u body ≤ widest u (sequence at f body)
element_widest u at f body = le-max_left (2 + body_outer u body) (body_widest u body)
