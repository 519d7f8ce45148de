-- The events of a stream are those of messages that suit their templates, and the first events of one more.
use Rattle.std.proofs.Common.{◌≡◌, ◌⊎◌, inl, inr, ℕ, zero, suc, ◌+◌, List, [], ◌∷◌, ◌++◌, length, refl, ap, sym, subst, ◌∙◌, arith, append_assoc, append-nil}
use Rattle.std.specs.Prelude.{Bool, true, false, All, nat_abs, if◌then◌else◌, flat_map, slice_get, Option, Some, None, Ok}
use Rattle.std.proofs.lemmas.List.Elements.{All-nil, All-cons}
use Rattle.fast_wire.specs.meaning.Maps.{bits}
use Rattle.fast_value.specs.declared.settings.Limits.{Limits}
use Rattle.fast_value.specs.meaning.Limits.{bounds}
use Rattle.fast_value.specs.meaning.Kinds.{ScalarData, integer_of}
use Rattle.fast_value.specs.meaning.Messages.{MessageData}
use Rattle.fast_tree.specs.meaning.Tree.{identifier, message_bits, TemplateData, Tree}
use Rattle.fast_dict.specs.meaning.Dictionary.{Dictionary, fresh, reset}
use Rattle.fast_stream.specs.meaning.Events.{EventData, MessageStart, MessageEnd, body_events, template_events, events}
use Rattle.fast_stream.specs.meaning.Grammar.{give, hand, narrow, presence_map, ◌>>=◌, phrase_of}
use Rattle.fast_stream.specs.meaning.Messages.{State, ReadAll, Found, begin, field_in, body_term, has_id, with_id, template_of, reset_if}
use Rattle.fast_stream.specs.meaning.Messages.{message_of, message_behind, message_term}
use Rattle.fast_stream.specs.meaning.Phrases.{whole}
use Rattle.fast_stream.specs.meaning.Streams.{End, between, inside, faulted, SpellsAll, Stream}
use Rattle.fast_spelling.specs.meaning.Again.{IsSound, IsGranted, GrantsBody, IsGrantedTree}
use Rattle.fast_spelling.proofs.encodings.Encoded.{has-own}
use Rattle.fast_spelling.proofs.again.FieldsAgain.{found_back}
use Rattle.fast_spelling.proofs.again.MessagesAgain.{sound_fresh, spelled_suits}
use Rattle.fast_laws.specs.meaning.Proper.{IsProper, AreFirstOf, AreOfMessages}
use Rattle.fast_laws.proofs.terms.Turns.{Left, LeftTurn, left_turn, left_give, left_result, left_hand, left_quiet}
use Rattle.fast_laws.proofs.terms.Fronts.{AreBegun, begun_body, quiet_found}

-- The template that an identifier names is the one of the number, and has the identifier.
finds : (id n : ℕ) (ts : List TemplateData) (u : ℕ × TemplateData) → with_id id n ts ≡ Ok u
    → (m : ℕ) × (u.0 ≡ n + m) × (slice_get ts m ≡ Some u.1) × (u.1.id ≡ Some id)
finds id n [] u e = absurd (cc e)
finds id n (t ∷ ts) u e = by (finds id (suc n) ts u) (has_id t.id id) refl e
  where
    by : (with_id id (suc n) ts ≡ Ok u → (m : ℕ) × (u.0 ≡ suc n + m) × (slice_get ts m ≡ Some u.1) × (u.1.id ≡ Some id)) → (b : Bool)
        → has_id t.id id ≡ b → (if b then Ok (n, t) else with_id id (suc n) ts) ≡ Ok u
        → (m : ℕ) × (u.0 ≡ n + m) × (slice_get (t ∷ ts) m ≡ Some u.1) × (u.1.id ≡ Some id)
    by next true h e = let k : (n, t) ≡ u = cc e in (
      0,
      ap (λ (q : ℕ × TemplateData). q.0) (sym k) ∙ omega arith,
      ap (λ (q : ℕ × TemplateData). Some q.1) k,
      ap (λ (q : ℕ × TemplateData). q.1.id) (sym k) ∙ has-own t.id id h,
    )
    by next false h e = let (m, i, k, j) = next e in (suc m, omega (arith, i), k, j)

named : (t : Tree) (x : Option ScalarData) (u : ℕ × TemplateData) → template_of t x ≡ Ok u
    → (id : ℕ) × (slice_get t.templates u.0 ≡ Some u.1) × (u.1.id ≡ Some id)
named t None u e = absurd (cc e)
named t (Some v) u e =
    let (m, i, k, j) = finds (nat_abs (integer_of v)) 0 t.templates u e in
    let same : u.0 ≡ m = omega (arith, i) in
    (nat_abs (integer_of v), rw same k, j)

granted_at : (l : Limits) (ts : List TemplateData) (n : ℕ) (u : TemplateData) → All (λ u. GrantsBody l u.body) ts → slice_get ts n ≡ Some u
    → GrantsBody l u.body
granted_at l [] n u h e = absurd (cc e)
granted_at l (t ∷ ts) zero u h e = let k : t ≡ u = cc e in subst (λ (z : TemplateData). GrantsBody l z.body) k (h 0 t (omega arith))
granted_at l (t ∷ ts) (suc n) u h e = granted_at l ts n u (λ k d i. h (suc k) d (omega (arith, i))) e

-- the events of a template's message
of_template : (t : Tree) (n : ℕ) (u : TemplateData) (m : MessageData) → m.template ≡ n → slice_get t.templates n ≡ Some u
    → events t m ≡ MessageStart n ∷ (body_events u.body m.slots ++ MessageEnd ∷ [])
of_template t n u m e at = ap (λ (k : ℕ). template_events k (slice_get t.templates k) m.slots) e
    ∙ ap (λ (x : Option TemplateData). template_events n x m.slots) at

module _ (l : Limits) where
  sound_reset : (d : Dictionary) → IsSound l d → IsSound l (reset d)
  sound_reset [] h i = h i
  sound_reset (p ∷ d) h zero = h 0
  sound_reset (p ∷ d) h (suc i) = sound_fresh l (length d) i

  sound_if : (b : Bool) (st : State) → IsSound l st.context.dictionary → IsSound l (reset_if b st).context.dictionary
  sound_if true st h = sound_reset st.context.dictionary h
  sound_if false st h = h

  counted_if : (b : Bool) (st : State) → (reset_if b st).context.counted ≡ st.context.counted
  counted_if true st = refl
  counted_if false st = refl

  identifier_granted : IsGranted l identifier
  identifier_granted = record { suited = refl; initial = tt; constant = λ e. absurd (cc e); default = λ e. absurd (cc e) }

  -- a message that is left behind its identifier
  behind_begun : (s : Bool) (t : Tree) (n id : ℕ) (u : TemplateData) (st : State) (es : List EventData) → IsGrantedTree l t
      → IsSound l st.context.dictionary → st.context.counted ≡ 0
      → slice_get t.templates n ≡ Some u → u.id ≡ Some id → Left s (message_of (bounds l) n u st) es → AreFirstOf t l es
  behind_begun s t n id u st es granted sound none at own h =
      let rest = λ (r : ReadAll). hand MessageEnd (give (record { template = n; slots = r.0 }, r.1.context.dictionary)) in
      let (fs, e, i) = left_hand s (MessageStart n) (body_term (bounds l) u.body (reset_if u.reset st) >>= rest) es h in
      on fs e (left_turn s (body_term (bounds l) u.body (reset_if u.reset st)) rest fs i)
    where
      told : (fs : List EventData) → es ≡ MessageStart n ∷ fs → AreBegun l s u.body (reset_if u.reset st).context fs → AreFirstOf t l es
      told fs e b = inr (
        record { template = n; slots = b.slots },
        b.rest ++ MessageEnd ∷ [],
        record { known = (u, id, at, own); suits = (u, at, b.suited); fits = (b.fits, omega (arith, b.bounded)) },
        of_template t n u (record { template = n; slots = b.slots }) refl at
            ∙ ap (λ (z : List EventData). MessageStart n ∷ z) (sym (ap (λ (z : List EventData). z ++ MessageEnd ∷ []) b.handed_over)
            ∙ append_assoc fs b.rest (MessageEnd ∷ []))
            ∙ sym (ap (λ (z : List EventData). z ++ (b.rest ++ MessageEnd ∷ [])) e),
      )

      on : (fs : List EventData) → es ≡ MessageStart n ∷ fs
          → LeftTurn {B = MessageData × Dictionary} s (phrase_of s (body_term (bounds l) u.body (reset_if u.reset st))) (λ r. hand MessageEnd (give (
            record {
              template = n;
              slots = r.0;
            },
            r.1.context.dictionary,
          ))) fs → AreFirstOf t l es
      on fs e (inl k) =
          told fs e (begun_body l s u.body (reset_if u.reset st) fs (sound_if u.reset st sound) (granted_at l t.templates n u granted at)
          (omega (arith, counted_if u.reset st, none)) k)
      on fs e (inr (gs, hs, r, k, m, q)) =
          let (ks, d, j) = left_hand s MessageEnd (give (record { template = n; slots = r.0 }, r.1.context.dictionary)) hs m in
          absurd (left_give s (record { template = n; slots = r.0 }, r.1.context.dictionary) ks j)

  -- a message that is left
  message_begun : (s : Bool) (t : Tree) (d : Dictionary) (es : List EventData) → IsGrantedTree l t → IsSound l d
      → Left s (message_term t (bounds l) d) es → AreFirstOf t l es
  unfolding message_term
  message_begun s t d es granted sound h = mapped (left_quiet s (presence_map give)
      (λ m. field_in (bounds l) identifier (begin d (bits m)) >>= message_behind t (bounds l) m) es (λ m. tt) h)
    where
      narrowed : (x : Option ScalarData) (st : State) (m : List ℕ) (u : ℕ × TemplateData) → IsSound l st.context.dictionary
          → st.context.counted ≡ 0 → template_of t x ≡ Ok u
          → (es ≡ []) ⊎ ((w : List ℕ) × (z : Unit {0}) × ((fs : List EventData)
          × phrase_of s (narrow (message_bits u.1) m (give tt)) w fs (whole z)) × Left s (message_of (bounds l) u.0 u.1 st) es)
          → AreFirstOf t l es
      narrowed x st m u sound1 none e (inl q) = inl q
      narrowed x st m u sound1 none e (inr (w, z, i, j)) = let (id, at, own) = named t x u e in behind_begun s t u.0 id u.1 st es granted sound1 none at own j

      found : (x : Option ScalarData) (st : State) (m : List ℕ) → IsSound l st.context.dictionary → st.context.counted ≡ 0
          → (es ≡ []) ⊎ ((u : ℕ × TemplateData) × (template_of t x ≡ Ok u)
          × Left s (narrow (message_bits u.1) m (message_of (bounds l) u.0 u.1 st)) es) → AreFirstOf t l es
      found x st m sound1 none (inl q) = inl q
      found x st m sound1 none (inr (u, e, k)) =
          narrowed x st m u sound1 none e (left_quiet s (narrow (message_bits u.1) m (give tt)) (λ _. message_of (bounds l) u.0 u.1 st) es tt k)

      identified : (m : List ℕ) → (es ≡ []) ⊎ ((w : List ℕ) × (a : Found)
          × ((fs : List EventData) × phrase_of s (field_in (bounds l) identifier (begin d (bits m))) w fs (whole a))
          × Left s (message_behind t (bounds l) m a) es) → AreFirstOf t l es
      identified m (inl q) = inl q
      identified m (inr (w, (x, st), i, j)) =
          let b = found_back l s identifier (begin d (bits m)) w (x, st) sound identifier_granted i in
          found x st m b.sound b.counted (left_result s (template_of t x) (λ u. narrow (message_bits u.1) m (message_of (bounds l) u.0 u.1 st)) es j)

      mapped : (es ≡ []) ⊎ ((w : List ℕ) × (m : List ℕ) × ((fs : List EventData) × phrase_of s (presence_map give) w fs (whole m))
          × Left s (field_in (bounds l) identifier (begin d (bits m)) >>= message_behind t (bounds l) m) es) → AreFirstOf t l es
      mapped (inl q) = inl q
      mapped (inr (w, m, i, j)) = identified m (left_quiet s (field_in (bounds l) identifier (begin d (bits m)))
          (message_behind t (bounds l) m) es (quiet_found (bounds l) identifier (begin d (bits m))) j)

  -- whole messages
  chain_proper : (t : Tree) (ms : List MessageData) (d d' : Dictionary) (w : List ℕ) → IsGrantedTree l t → IsSound l d
      → SpellsAll t l d ms w d' → All (IsProper t l) ms × IsSound l d'
  chain_proper t [] d d' w granted sound h = (All-nil (IsProper t l), subst (IsSound l) (sym h.1) sound)
  chain_proper t (m ∷ ms) d d' w granted sound (u, v, mid, i, j, e) =
      let (known, suits, fits, sound1) = spelled_suits t l d m u mid granted sound i in
      let (others, sound2) = chain_proper t ms mid d' v granted sound1 j in
      (All-cons (IsProper t l) m ms (record { known = known; suits = suits; fits = fits }) others, sound2)

pub of_messages : (t : Tree) (l : Limits) (w : List ℕ) (es : List EventData) (e : End) → IsGrantedTree l t → Stream t l w es e → AreOfMessages t l es e
unfolding Stream
of_messages t l w es between granted (d, (ms, all, q)) = record {
  messages = ms;
  front = [];
  proper = (chain_proper l t ms (fresh t.entries) d w granted (sound_fresh l t.entries) all).0;
  begun = inl refl;
  all = q ∙ sym (append-nil (flat_map (events t) ms));
  none_between = λ _. refl;
}
of_messages t l w es inside granted (u, v, fs, gs, d, (ms, all, q), i, some, split, parted) =
    let (proper, sound) = chain_proper l t ms (fresh t.entries) d u granted (sound_fresh l t.entries) all in
    record {
      messages = ms;
      front = gs;
      proper = proper;
      begun = message_begun l l.strict t d gs granted sound (v, inl i);
      all = parted ∙ ap (λ (z : List EventData). z ++ gs) q;
      none_between = λ c. absurd (cc c);
    }
of_messages t l w es (faulted c place) granted (u, v, rest, fs, gs, d, (ms, all, q), i, at, split, parted) =
    let (proper, sound) = chain_proper l t ms (fresh t.entries) d u granted (sound_fresh l t.entries) all in
    record {
      messages = ms;
      front = gs;
      proper = proper;
      begun = message_begun l l.strict t d gs granted sound (v, inr (c, i));
      all = parted ∙ ap (λ (z : List EventData). z ++ gs) q;
      none_between = λ c. absurd (cc c);
    }
