-- A message hands over no more events than the most of its template set, and a stream no more than that for each byte.
use Rattle.std.proofs.Common.{refl, subst, arith}
use Rattle.std.proofs.Math.Nat.{le_refl, le_trans, le-min, mul-le-mul_right, add-mul, one-mul, add_comm, le-max_left, le-max_right}
use Rattle.std.proofs.lemmas.List.{length-append}
use Rattle.std.specs.Prelude.{◌≡◌, ℕ, zero, suc, ◌+◌, ◌*◌, ◌≤◌, Bool, true, false, List, [], ◌∷◌, ◌++◌, length, map, flat_map, slice_get, Some}
use Rattle.fast_wire.specs.meaning.Maps.{bits}
use Rattle.fast_value.specs.declared.settings.Limits.{Limits}
use Rattle.fast_value.specs.meaning.Limits.{bounds}
use Rattle.fast_value.specs.declared.codes.Code.{Code}
use Rattle.fast_value.specs.meaning.Messages.{MessageData}
use Rattle.fast_tree.specs.meaning.Tree.{identifier, TemplateData, Tree}
use Rattle.fast_tree.specs.meaning.Sizes.{event_weights, body_size, body_outer, body_widest, greatest, product_cap, sum_cap, message_cap}
use Rattle.fast_dict.specs.meaning.Dictionary.{Dictionary, fresh}
use Rattle.fast_stream.specs.meaning.Events.{EventData, MessageStart, MessageEnd, events}
use Rattle.fast_stream.specs.meaning.Phrases.{Reached, whole, cut, wrong}
use Rattle.fast_stream.specs.meaning.Grammar.{Grammar, give, fault, hand, integer, ascii_text, raw, presence_map, narrow}
use Rattle.fast_stream.specs.meaning.Messages.{begin, State, Found, body_term, template_of, reset_if, message_of, message_behind}
use Rattle.fast_stream.specs.meaning.Messages.{message_term, message, SpellsMessage}
use Rattle.fast_stream.specs.meaning.Streams.{End, between, inside, faulted, SpellsAll, Chain, Stream}
use Rattle.fast_stream.specs.meaning.Account.{account_at}
use Rattle.fast_stream.proofs.terms.MessageEvents.{named}
use Rattle.fast_stream.proofs.streams.Reading.{reads-first}
use Rattle.fast_stream.proofs.terms.Costs.{Paid, paid-phrase, Costs, costs-more, costs-bind, costs-hand, costs-result, costs-field}
use Rattle.fast_stream.proofs.terms.Costs.{counted_in, product-body, sum-body}

no_operator : (n : ℕ) → length {A = EventData} [] ≤ n
no_operator n = omega arith

-- a reset counts no element
resets : (b : Bool) (s : State) → (reset_if b s).context.counted ≡ s.context.counted
resets true s = refl
resets false s = refl

-- one of a list is at most the greatest
greatest-at : (f : TemplateData → ℕ) (ts : List TemplateData) (n : ℕ) (u : TemplateData) → slice_get ts n ≡ Some u → f u ≤ greatest (map f ts)
greatest-at f [] n u e = absurd (cc e)
greatest-at f (t ∷ ts) zero u e = let i : t ≡ u = cc e in rw (← i) (le-max_left (f t) (greatest (map f ts)))
greatest-at f (t ∷ ts) (suc n) u e = le_trans (greatest-at f ts n u e) (le-max_right (f t) (greatest (map f ts)))

-- no more in all than with T elements, wherever it ends
module _ (W T : ℕ) where
  sum : (s n a t s' : ℕ) → s' ≤ s → s ≤ n + a → a ≤ t → s' ≤ (n + t) + 0 * 0
  sum s n a t s' l h i = omega (arith, l, h, i)

  in-all : {A : Type 0} (g : Grammar A) (after : A → ℕ) (s n s' : ℕ) → s' ≤ s → Paid W T s n g after → Paid 0 0 s' (n + T * W) g (λ _. 0)
  in-all (give a) after s n s' l h = (sum s n (after a * W) (T * W) s' l h.0 (mul-le-mul_right W h.1), le_refl 0)
  in-all (fault c) after s n s' l h = sum s n (T * W) (T * W) s' l h (le_refl (T * W))
  in-all (hand e g) after s n s' l h = in-all g after (suc s) n (suc s') (omega (arith, l)) h
  in-all (integer range nullable c g) after s n s' l h = (sum s n (T * W) (T * W) s' l h.0 (le_refl (T * W)), λ x. in-all (g x) after s n s' l (h.1 x))
  in-all (ascii_text nullable room g) after s n s' l h = (sum s n (T * W) (T * W) s' l h.0 (le_refl (T * W)), λ x. in-all (g x) after s n s' l (h.1 x))
  in-all (raw k g) after s n s' l h = (sum s n (T * W) (T * W) s' l h.0 (le_refl (T * W)), λ x. in-all (g x) after s n s' l (h.1 x))
  in-all (presence_map g) after s n s' l h = (sum s n (T * W) (T * W) s' l h.0 (le_refl (T * W)), λ x. in-all (g x) after s n s' l (h.1 x))
  in-all (narrow k m g) after s n s' l h = (sum s n (T * W) (T * W) s' l h.0 (le_refl (T * W)), in-all g after s n s' l h.1)

-- The term hands over n events at most.
pub record AtMost {A : Type 0} (n : ℕ) (g : Grammar A) : Type 0 where
  pub at-most : Costs 0 0 0 n g (λ _. 0)

module _ (t : Tree) (l : Limits) where
  abbrev M : ℕ
  M = message_cap t l

  abbrev T : ℕ
  T = l.max_total

  costs-message_of : (W n at : ℕ) (u : TemplateData) (s : State) → s.context.counted ≤ 0
      → ((s : State) → s.context.counted ≤ T → Costs W T s.context.counted n (body_term (bounds l) u.body s) counted_in)
      → Costs W T s.context.counted (2 + n) (message_of (bounds l) at u s) (λ _. T)
  costs-message_of W n at u s i h = costs-more (2 + n) (omega arith) (costs-hand (MessageStart at) (costs-bind n 1
      (subst (λ c. Costs W T c n (body_term (bounds l) u.body (reset_if u.reset s)) counted_in) (resets u.reset s)
      (h (reset_if u.reset s) (few (reset_if u.reset s).context.counted s.context.counted (resets u.reset s) i)))
      (λ r j. costs-hand MessageEnd (record { paid = (wide (counted_in r * W) (T * W) (mul-le-mul_right W j), le_refl T) }))))
    where
      few : (c d : ℕ) → c ≡ d → d ≤ 0 → c ≤ T
      few c d e h = omega (arith, e, h)

      wide : (x y : ℕ) → x ≤ y → x ≤ 0 + y
      wide x y h = omega (arith, h)

  -- a message of a template, for all that is counted
  most-message_of : (W n most at : ℕ) (u : TemplateData) (s : State) → s.context.counted ≤ 0
      → ((s : State) → s.context.counted ≤ T → Costs W T s.context.counted n (body_term (bounds l) u.body s) counted_in)
      → (2 + n) + T * W ≤ most → Costs 0 0 s.context.counted most (message_of (bounds l) at u s) (λ _. 0)
  most-message_of W n most at u s i h e = costs-more most e (record {
    paid =
        in-all W T (message_of (bounds l) at u s) (λ _. T) (s.context.counted * W) (2 + n) (s.context.counted * 0) (omega arith)
        (costs-message_of W n at u s i h).paid;
  })

  -- a message, whatever its template
  most-message : (most : ℕ) → ((at : ℕ) (u : TemplateData) (s : State) → slice_get t.templates at ≡ Some u → s.context.counted ≤ 0
      → Costs 0 0 s.context.counted most (message_of (bounds l) at u s) (λ _. 0))
      → (d : Dictionary) → AtMost most (message_term t (bounds l) d)
  unfolding message_term
  most-message most f d = record {
    at-most = record {
      paid = (
        free 0 most,
        λ m. (costs-more {c = 0} most (omega arith)
            (costs-bind 0 most (costs-field 0 0 (bounds l) identifier (begin d (bits m)) (le_refl 0)) (λ id i. behind m id i))).paid,
      );
    };
  }
    where
      free : (c n : ℕ) → c * 0 ≤ n + 0 * 0
      free c n = omega arith

      behind : (m : List ℕ) (id : Found) → counted_in id ≤ 0 → Costs 0 0 (counted_in id) most (message_behind t (bounds l) m id) (λ _. 0)
      behind m id i = costs-result (template_of t id.0) most i
          (λ u e. record { paid = (free (counted_in id) most, (f u.0 u.1 id.1 (named t id.0 u e) i).paid) })

  -- the bound of a term is one of its phrase
  bounded : (most : ℕ) (d : Dictionary) (w : List ℕ) (es : List EventData) (x : Reached (MessageData × Dictionary))
      → AtMost most (message_term t (bounds l) d) → message t l d w es x → length es ≤ most
  bounded most d w es x h i = plain (length es) most (paid-phrase 0 0 l.strict (message_term t (bounds l) d) (λ _. 0) (0 * 0) most h.at-most.paid w es x i)
    where
      plain : (n most : ℕ) → n + 0 * 0 ≤ most + 0 * 0 → n ≤ most
      plain n most h = omega (arith, h)

  pub message-bound : (d : Dictionary) (w : List ℕ) (es : List EventData) (x : Reached (MessageData × Dictionary)) → message t l d w es x
      → length es ≤ message_cap t l
  message-bound d w es x h = le-min
      (bounded (product_cap event_weights t l) d w es x (most-message (product_cap event_weights t l)
      (λ at u s e i. most-message_of 0 (body_size event_weights l u.body) (product_cap event_weights t l) at u s i
      (product-body l u.body)
      (unpaid (body_size event_weights l u.body) l.max_total (product_cap event_weights t l)
      (greatest-at (λ v. 2 + body_size event_weights l v.body) t.templates at u e))) d) h)
      (bounded (sum_cap event_weights t l) d w es x (most-message (sum_cap event_weights t l)
      (λ at u s e i. most-message_of (body_widest event_weights u.body) (body_outer event_weights u.body)
      (sum_cap event_weights t l) at u s i
      (sum-body l (body_widest event_weights u.body) u.body (le_refl (body_widest event_weights u.body)))
      (greatest-at (λ v. 2 + body_outer event_weights v.body + l.max_total * body_widest event_weights v.body) t.templates at u e)) d) h)
    where
      unpaid : (n t most : ℕ) → 2 + n ≤ most → (2 + n) + t * 0 ≤ most
      unpaid n t most h = omega (arith, h)

  takes-a-byte : (d : Dictionary) (w : List ℕ) (es : List EventData) (r : MessageData × Dictionary) → message t l d w es (whole r) → 1 ≤ length w
  takes-a-byte d [] es r h = absurd ((reads-first t l d).takes [] es (whole r) h)
  takes-a-byte d (b ∷ w) es r h = omega arith

  fails-at-a-byte : (d : Dictionary) (w : List ℕ) (es : List EventData) (c : Code) → message t l d w es (wrong c) → 1 ≤ length w
  fails-at-a-byte d [] es c h = absurd ((reads-first t l d).takes [] es (wrong c) h)
  fails-at-a-byte d (b ∷ w) es c h = omega arith

  -- bytes that begin with another message
  pay : (x y a b : ℕ) → x ≤ M → y ≤ b * M → 1 ≤ a → x + y ≤ (a + b) * M
  pay x y a b h i j = rw (add-mul a b M) (sum x y M (a * M) (b * M) h i (subst (λ z. z ≤ a * M) (one-mul M) (mul-le-mul_right M j)))
    where
      sum : (x y m am bm : ℕ) → x ≤ m → y ≤ bm → m ≤ am → x + y ≤ am + bm
      sum x y m am bm h i j = omega (arith, h, i, j)

  all-bound : (ms : List MessageData) (d d' : Dictionary) (w : List ℕ) → SpellsAll t l d ms w d' → length (flat_map (events t) ms) ≤ length w * M
  unfolding SpellsMessage
  all-bound [] d d' w h = no_operator (length w * M)
  all-bound (m ∷ ms) d d' w (u, v, mid, h, i, e) = rw (e, length-append u v, length-append (events t m) (flat_map (events t) ms))
      (pay (length (events t m)) (length (flat_map (events t) ms)) (length u) (length v)
      (message-bound d u (events t m) (whole (m, mid)) h) (all-bound ms mid d' v i) (takes-a-byte d u (events t m) (m, mid) h))

  chain-bound : (w : List ℕ) (es : List EventData) (d : Dictionary) → Chain t l w es d → length es ≤ length w * M
  chain-bound w es d (ms, h, e) = rw e (all-bound ms (fresh t.entries) d w h)

  -- a chain, and one message more of at least a byte
  open-bound : (u v : List ℕ) (fs gs : List EventData) (d : Dictionary) (x : Reached (MessageData × Dictionary)) → Chain t l u fs d
      → message t l d v gs x → 1 ≤ length v → length (fs ++ gs) ≤ length (u ++ v) * M
  open-bound u v fs gs d x h i j = rw (length-append fs gs, length-append u v)
      (swap (length fs) (length gs) (length u) (length v) (chain-bound u fs d h) (message-bound d v gs x i) j)
    where
      swap : (x y a b : ℕ) → x ≤ a * M → y ≤ M → 1 ≤ b → x + y ≤ (a + b) * M
      swap x y a b h i j = rw (add_comm x y, add_comm a b) (pay y x b a i h j)

  pub stream-bound : (w : List ℕ) (es : List EventData) (e : End) → Stream t l w es e → length es ≤ length w * message_cap t l
  unfolding Stream
  stream-bound w es between (d, h) = chain-bound w es d h
  stream-bound w es inside (u, v, fs, gs, d, h, i, j, k, e) = rw (k, e) (open-bound u v fs gs d cut h i j)
  stream-bound w es (faulted c place) (u, v, rest, fs, gs, d, h, i, n, k, e) = rw (k, e)
      (le_trans (open-bound u v fs gs d (wrong c) h i (fails-at-a-byte d v gs c i)) (mul-le-mul_right M (rw (length-append (u ++ v) rest) (omega arith))))

  -- no more than that for each byte consumed: behind a fault no byte is
  pub consumed-bound : (w : List ℕ) (es : List EventData) (e : End) → Stream t l w es e → length es ≤ (account_at w e).consumed * message_cap t l
  unfolding Stream
  consumed-bound w es between (d, h) = chain-bound w es d h
  consumed-bound w es inside (u, v, fs, gs, d, h, i, j, k, e) = rw (k, e) (open-bound u v fs gs d cut h i j)
  consumed-bound w es (faulted c place) (u, v, rest, fs, gs, d, h, i, n, k, e) = rw (n, e) (open-bound u v fs gs d (wrong c) h i (fails-at-a-byte d v gs c i))
