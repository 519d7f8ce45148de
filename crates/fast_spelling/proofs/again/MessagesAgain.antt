-- A message that was read is encoded again, or some ASCII text of it is refused.
use Rattle.std.proofs.Common.{◌≡◌, ◌⊎◌, inl, inr, ℕ, zero, suc, ◌+◌, ◌≤◌, List, [], ◌∷◌, ◌++◌, length, refl, ap, sym, subst, ◌∙◌, arith}
use Rattle.std.proofs.Common.{append_assoc, append-nil}
use Rattle.std.specs.Prelude.{Bool, true, false, All, nat_abs, if◌then◌else◌, slice_get, slice_index_or, Option, Some, None, Ok}
use Rattle.std.proofs.lemmas.List.{length-append}
use Rattle.std.proofs.lemmas.List.Elements.{All-head, All-tail}
use Rattle.fast_wire.specs.meaning.Maps.{bits, IsMap}
use Rattle.fast_value.specs.declared.kinds.Kind.TheVariants.{UInt32}
use Rattle.fast_value.specs.declared.settings.Limits.{Limits}
use Rattle.fast_value.specs.meaning.Limits.{bounds}
use Rattle.fast_value.specs.meaning.Kinds.{ScalarData, U, integer_of}
use Rattle.fast_value.specs.meaning.Messages.{MessageData, Slots}
use Rattle.fast_tree.specs.meaning.Tree.{identifier, message_bits, TemplateData, Tree}
use Rattle.fast_dict.specs.meaning.Dictionary.{Dictionary, undefined, fresh, reset}
use Rattle.fast_stream.specs.meaning.Events.{MessageStart, MessageEnd, events}
use Rattle.fast_stream.specs.meaning.Grammar.{give, hand, narrow, ◌>>=◌}
use Rattle.fast_stream.specs.meaning.Messages.{State, begin, field_in, body_term, has_id, with_id, template_of, reset_if, message_of}
use Rattle.fast_stream.specs.meaning.Messages.{message_behind, message_term, SpellsMessage}
use Rattle.fast_stream.specs.meaning.Streams.{SpellsAll}
use Rattle.fast_spelling.specs.meaning.Again.{IsSound, IsGranted, GrantsBody, IsGrantedTree, HasPlainLength, ArePlainIn, IsPlainTree, HaveNoZero, EncodesAll}
use Rattle.fast_spelling.specs.meaning.Encoding.{EncodesField, EncodesBody, EncodesMessage, ShortestMap}
use Rattle.fast_spelling.specs.meaning.Refusals.{RefusesField, RefusesBody, RefusesMessage, IsRefused}
use Rattle.fast_spelling.specs.meaning.Suiting.{IsKnown, SuitsTemplate, FitsLimits}
use Rattle.fast_spelling.specs.declared.faults.EncodeFault.TheVariants.{R9}
use Rattle.fast_spelling.proofs.encodings.Encoded.{has-own}
use Rattle.fast_spelling.proofs.again.BodiesAgain.{two_lengths, uint32_is, plain_of, BodyBack, body_back}
use Rattle.fast_spelling.proofs.again.FieldsAgain.{uses_more, Again, FoundBack, found_back}
use Rattle.fast_spelling.proofs.again.MapsAgain.{map_again}
use Rattle.fast_spelling.proofs.again.NoZeros.{message_none}
use Rattle.fast_spelling.proofs.again.Resent.{Says, in_turn, given, resulted, handed_over, map_read, narrowed}

-- the template that was found
finds : (id n : ℕ) (ts : List TemplateData) (u : ℕ × TemplateData) → with_id id n ts ≡ Ok u
    → (m : ℕ) × (u.0 ≡ n + m) × (slice_get ts m ≡ Some u.1) × (u.1.id ≡ Some id)
finds id n [] u e = absurd (cc e)
finds id n (t ∷ ts) u e = by (finds id (suc n) ts u) (has_id t.id id) refl e
  where
    by : (with_id id (suc n) ts ≡ Ok u → (m : ℕ) × (u.0 ≡ suc n + m) × (slice_get ts m ≡ Some u.1) × (u.1.id ≡ Some id)) → (b : Bool)
        → has_id t.id id ≡ b → (if b then Ok (n, t) else with_id id (suc n) ts) ≡ Ok u
        → (m : ℕ) × (u.0 ≡ n + m) × (slice_get (t ∷ ts) m ≡ Some u.1) × (u.1.id ≡ Some id)
    by next true h e = let k : (n, t) ≡ u = cc e in (
      0,
      ap (λ (q : ℕ × TemplateData). q.0) (sym k) ∙ omega arith,
      ap (λ (q : ℕ × TemplateData). Some q.1) k,
      ap (λ (q : ℕ × TemplateData). q.1.id) (sym k) ∙ has-own t.id id h,
    )
    by next false h e = let (m, i, k, j) = next e in (suc m, omega (arith, i), k, j)

named : (t : Tree) (v : ScalarData) (u : ℕ × TemplateData) → template_of t (Some v) ≡ Ok u
    → (slice_get t.templates u.0 ≡ Some u.1) × (u.1.id ≡ Some (nat_abs (integer_of v)))
named t v u e =
    let (m, i, k, j) = finds (nat_abs (integer_of v)) 0 t.templates u e in
    let same : u.0 ≡ m = omega (arith, i) in
    (rw same k, j)

pub granted_at : (l : Limits) (ts : List TemplateData) (n : ℕ) (u : TemplateData) → All (λ u. GrantsBody l u.body) ts
    → slice_get ts n ≡ Some u → GrantsBody l u.body
granted_at l [] n u h e = absurd (cc e)
granted_at l (t ∷ ts) zero u h e = let k : t ≡ u = cc e in subst (λ (z : TemplateData). GrantsBody l z.body) k (h 0 t (omega arith))
granted_at l (t ∷ ts) (suc n) u h e = granted_at l ts n u (λ k d i. h (suc k) d (omega (arith, i))) e

plain_at : (ts : List TemplateData) (n : ℕ) (u : TemplateData) → All (λ u. ArePlainIn u.body) ts → slice_get ts n ≡ Some u → ArePlainIn u.body
plain_at [] n u h e = absurd (cc e)
plain_at (t ∷ ts) zero u h e = let k : t ≡ u = cc e in subst (λ (z : TemplateData). ArePlainIn z.body) k (h 0 t (omega arith))
plain_at (t ∷ ts) (suc n) u h e = plain_at ts n u (λ k d i. h (suc k) d (omega (arith, i))) e

-- resets
fresh_at : (n i : ℕ) → slice_index_or (fresh n) i undefined ≡ undefined
fresh_at zero i = refl
fresh_at (suc n) zero = refl
fresh_at (suc n) (suc i) = fresh_at n i

-- a message of its parts
encodes : (t : Tree) (l : Limits) (d : Dictionary) (n : ℕ) (u : TemplateData) (id : ℕ) (vs : Slots) (b1 b2 : List Bool) (map x v : List ℕ)
    (mid d' : Dictionary) → slice_get t.templates n ≡ Some u → u.id ≡ Some id
    → EncodesField l identifier d (Some (U id)) b1 x mid → EncodesBody l u.body (if u.reset then reset mid else mid) vs b2 v d'
    → ShortestMap true (b1 ++ b2) map → EncodesMessage t l d (record {
      template = n;
      slots = vs;
    }) (map ++ x ++ v) d'
unfolding EncodesMessage
encodes t l d n u id vs b1 b2 map x v mid d' at own i j shortest = (u, id, b1, b2, map, x, v, mid, at, own, i, j, shortest, refl)

module _ (l : Limits) where
  pub sound_fresh : (n : ℕ) → IsSound l (fresh n)
  sound_fresh n i = rw (fresh_at n i) tt

  pub sound_reset : (d : Dictionary) → IsSound l d → IsSound l (reset d)
  sound_reset [] h i = h i
  sound_reset (p ∷ d) h zero = h 0
  sound_reset (p ∷ d) h (suc i) = sound_fresh (length d) i

  sound_if : (b : Bool) (st : State) → IsSound l st.context.dictionary → IsSound l (reset_if b st).context.dictionary
  sound_if true st h = sound_reset st.context.dictionary h
  sound_if false st h = h

  pub identifier_granted : IsGranted l identifier
  identifier_granted = record { suited = refl; initial = tt; constant = λ e. absurd (cc e); default = λ e. absurd (cc e) }

  -- What is told of a message.
  pub record MessageBack (t : Tree) (d : Dictionary) (w : List ℕ) (m : MessageData) (d' : Dictionary) : Type 0 where
    pub known : IsKnown t m
    pub suited : SuitsTemplate t m
    pub fits : FitsLimits l m.slots
    pub sound : IsSound l d'
    pub again : ((v : List ℕ) × EncodesMessage t l d m v d' × (IsPlainTree t → length v ≤ length w)) ⊎ RefusesMessage t l d m R9

  reset_dictionary : (b : Bool) (st : State) → (reset_if b st).context.dictionary ≡ (if b then reset st.context.dictionary else st.context.dictionary)
  reset_dictionary true st = refl
  reset_dictionary false st = refl

  reset_rest : (b : Bool) (st : State) → ((reset_if b st).context.counted ≡ st.context.counted) × ((reset_if b st).bits ≡ st.bits)
  reset_rest true st = (refl, refl)
  reset_rest false st = (refl, refl)

  behind_back : (s : Bool) (t : Tree) (d : Dictionary) (map x : List ℕ) (st : State) (v : ScalarData) (w y : List ℕ) (m : MessageData)
      (d' : Dictionary) → IsGrantedTree l t → IsMap s map → FoundBack l identifier (begin d (bits map)) x (Some v, st)
      → w ≡ map ++ (x ++ y) → Says s (message_behind t (bounds l) map (Some v, st)) y (m, d') → MessageBack t d w m d'
  behind_back s t d map x st v w y m d' granted form id split h =
      told (resulted s (template_of t (Some v)) (λ u. narrow (message_bits u.1) map (message_of (bounds l) u.0 u.1 st)) y (m, d') h)
    where
      id_is : v ≡ U (nat_abs (integer_of v))
      id_is = (uint32_is l v id.right).0

      first : Again (λ b u. EncodesField l identifier d (Some (U (nat_abs (integer_of v)))) b u st.context.dictionary)
          (RefusesField identifier d (Some (U (nat_abs (integer_of v)))) R9) (HasPlainLength identifier) (bits map) st.bits x
      first = subst (λ (q : ScalarData). Again (λ b u. EncodesField l identifier d (Some q) b u st.context.dictionary)
          (RefusesField identifier d (Some q) R9) (HasPlainLength identifier) (bits map) st.bits x) id_is id.again

      no_text : RefusesField identifier d (Some (U (nat_abs (integer_of v)))) R9 → ⊥
      no_text (bit, item, rule, z) = z

      finished : (n : ℕ) (u : TemplateData) (vs : Slots) (st2 : State) → slice_get t.templates n ≡ Some u
          → u.id ≡ Some (nat_abs (integer_of v)) → BodyBack l s u.body (reset_if u.reset st) y (vs, st2)
          → MessageBack t d w (record { template = n; slots = vs }) st2.context.dictionary
      finished n u vs st2 at own b =
          let (same_count, same_bits) = reset_rest u.reset st in
          let counted : st.context.counted ≡ 0 = id.counted in
          record {
            known = (u, nat_abs (integer_of v), at, own);
            suited = (u, at, b.suited);
            fits = (b.fits, omega (arith, b.bounded (omega (arith, same_count, counted)), b.counted, same_count, counted));
            sound = b.sound;
            again = by first (subst (λ (q : Dictionary). Again (λ b z. EncodesBody l u.body q vs b z st2.context.dictionary)
                (RefusesBody l u.body q vs R9) (ArePlainIn u.body) st.bits st2.bits y) (reset_dictionary u.reset st)
                (subst (λ (q : List Bool). Again (λ b z. EncodesBody l u.body
                (reset_if u.reset st).context.dictionary vs b z st2.context.dictionary)
                (RefusesBody l u.body (reset_if u.reset st).context.dictionary vs R9) (ArePlainIn u.body) q st2.bits y) same_bits
                b.again));
          }
        where
          all : length w ≡ length map + (length x + length y)
          all = two_lengths map (x ++ y) w split ∙ ap (λ (k : ℕ). length map + k) (length-append x y)

          by : Again (λ b z. EncodesField l identifier d (Some (U (nat_abs (integer_of v)))) b z st.context.dictionary)
              (RefusesField identifier d (Some (U (nat_abs (integer_of v)))) R9) (HasPlainLength identifier) (bits map) st.bits x
              → Again (λ b z. EncodesBody l u.body (if u.reset then reset st.context.dictionary else st.context.dictionary) vs b z
              st2.context.dictionary) (RefusesBody l u.body (if u.reset then reset st.context.dictionary else st.context.dictionary) vs
              R9) (ArePlainIn u.body) st.bits st2.bits y
              → ((z : List ℕ) × EncodesMessage t l d (record {
                template = n;
                slots = vs;
              }) z st2.context.dictionary × (IsPlainTree t → length z ≤ length w)) ⊎ RefusesMessage t l d (record { template = n; slots = vs }) R9
          by (inr z) h = absurd (no_text z)
          by (inl (b1, x1, i, uses, short)) (inr z) = inr (u, nat_abs (integer_of v), b1, x1, st.context.dictionary, at, own, i, inl z)
          by (inl (b1, x1, i, uses, short)) (inl (b2, x2, j, uses', brief)) =
              let (map', form', same, less) = map_again s map (b1 ++ b2) st2.bits form (uses_more b1 b2 (bits map) st.bits st2.bits uses uses') in
              inl (
                map' ++ x1 ++ x2,
                encoded map' x1 x2 b1 b2 i j (form', same),
                λ p. omega (
                  arith,
                  all,
                  ap length (append_assoc map' x1 x2),
                  length-append map' (x1 ++ x2),
                  length-append x1 x2,
                  less,
                  short (plain_of identifier UInt32 refl (λ q. cc q)),
                  brief (plain_at t.templates n u p at),
                ),
              )
            where
              encoded : (map' x1 x2 : List ℕ) (b1 b2 : List Bool) → EncodesField l identifier d (Some (U (nat_abs (integer_of v)))) b1 x1 st.context.dictionary
                  → EncodesBody l u.body (if u.reset then reset st.context.dictionary else st.context.dictionary) vs b2 x2
                  st2.context.dictionary → ShortestMap true (b1 ++ b2) map'
                  → EncodesMessage t l d (record { template = n; slots = vs }) (map' ++ x1 ++ x2) st2.context.dictionary
              encoded map' x1 x2 b1 b2 i j shortest = encodes t l d n u
                  (nat_abs (integer_of v)) vs b1 b2 map' x1 x2 st.context.dictionary st2.context.dictionary at own i j shortest

      told : (u : ℕ × TemplateData) × (template_of t (Some v) ≡ Ok u)
          × Says s (narrow (message_bits u.1) map (message_of (bounds l) u.0 u.1 st)) y (m, d') → MessageBack t d w m d'
      told ((n, u), e, k) =
          let (at, own) = named t v (n, u) e in
          let k1 = handed_over s (MessageStart n) (body_term (bounds l) u.body (reset_if u.reset st) >>= (λ r. hand MessageEnd (give (
            record {
              template = n;
              slots = r.0;
            },
            r.1.context.dictionary,
          )))) y (m, d') (narrowed s (message_bits u) map (message_of (bounds l) n u st) y (m, d') k) in
          let (y1, z, (vs, st2), i, j, g) = in_turn s (body_term (bounds l) u.body (reset_if u.reset st)) (λ r. hand MessageEnd (give (
            record {
              template = n;
              slots = r.0;
            },
            r.1.context.dictionary,
          ))) y (m, d') k1 in
          let q = given s (
            record {
              template = n;
              slots = vs;
            },
            st2.context.dictionary,
          ) z (m, d') (handed_over s MessageEnd (give (record { template = n; slots = vs }, st2.context.dictionary)) z (m, d') j) in
          let all : y ≡ y1 = g ∙ ap (λ (p : List ℕ). y1 ++ p) q.0 ∙ append-nil y1 in
          let b = body_back l s u.body (reset_if u.reset st) y (vs, st2) (sound_if u.reset st id.sound)
          (granted_at l t.templates n u granted at) (subst (λ (p : List ℕ). Says s
          (body_term (bounds l) u.body (reset_if u.reset st)) p (vs, st2)) (sym all) i) in
          subst (λ (r : MessageData × Dictionary). MessageBack t d w r.0 r.1) (sym q.1) (finished n u vs st2 at own b)

  pub message_back : (t : Tree) (d : Dictionary) (m : MessageData) (w : List ℕ) (d' : Dictionary) → IsGrantedTree l t → IsSound l d
      → SpellsMessage t l d m w d' → MessageBack t d w m d'
  unfolding SpellsMessage message_term
  message_back t d m w d' granted sound h =
      let (map, v, form, j, e) = map_read l.strict (λ m. field_in (bounds l) identifier (begin d (bits m)) >>= message_behind t
      (bounds l) m) w (m, d') (events t m, h) in
      let (x, y, (id, st), i, k, g) = in_turn l.strict (field_in (bounds l) identifier (begin d (bits map))) (message_behind t (bounds l) map) v (m, d') j in
      on map x y id st form (e ∙ ap (λ (p : List ℕ). map ++ p) g)
      (found_back l l.strict identifier (begin d (bits map)) x (id, st) sound identifier_granted i) k
    where
      on : (map x y : List ℕ) (id : Option ScalarData) (st : State) → IsMap l.strict map → w ≡ map ++ (x ++ y)
          → FoundBack l identifier (begin d (bits map)) x (id, st) → Says l.strict (message_behind t (bounds l) map (id, st)) y (m, d')
          → MessageBack t d w m d'
      on map x y None st form split b k = absurd (cc b.right)
      on map x y (Some v) st form split b k = behind_back l.strict t d map x st v w y m d' granted form b split k

pub spelled_suits : (t : Tree) (l : Limits) (d : Dictionary) (m : MessageData) (w : List ℕ) (d' : Dictionary) → IsGrantedTree l t
    → IsSound l d → SpellsMessage t l d m w d' → IsKnown t m × SuitsTemplate t m × FitsLimits l m.slots × IsSound l d'
spelled_suits t l d m w d' granted sound h = let b = message_back l t d m w d' granted sound h in (b.known, b.suited, b.fits, b.sound)

pub encoded_again : (t : Tree) (l : Limits) (d : Dictionary) (m : MessageData) (w : List ℕ) (d' : Dictionary) → IsGrantedTree l t
    → IsSound l d → SpellsMessage t l d m w d'
    → ((v : List ℕ) × EncodesMessage t l d m v d' × (IsPlainTree t → length v ≤ length w)) ⊎ IsRefused t l d m R9
encoded_again t l d m w d' granted sound h = by (message_back l t d m w d' granted sound h)
  where
    on : MessageBack l t d w m d' → ((v : List ℕ) × EncodesMessage t l d m v d' × (IsPlainTree t → length v ≤ length w))
        ⊎ RefusesMessage t l d m R9 → ((v : List ℕ) × EncodesMessage t l d m v d' × (IsPlainTree t → length v ≤ length w))
        ⊎ IsRefused t l d m R9
    on b (inl e) = inl e
    on b (inr z) = inr (b.known, b.suited, b.fits, z)

    by : MessageBack l t d w m d' → ((v : List ℕ) × EncodesMessage t l d m v d' × (IsPlainTree t → length v ≤ length w)) ⊎ IsRefused t l d m R9
    by b = on b b.again

pub encoded_without_zero : (t : Tree) (l : Limits) (d : Dictionary) (m : MessageData) (w : List ℕ) (d' : Dictionary) → IsGrantedTree l t
    → IsSound l d → HaveNoZero m.slots → SpellsMessage t l d m w d'
    → (v : List ℕ) × EncodesMessage t l d m v d' × (IsPlainTree t → length v ≤ length w)
encoded_without_zero t l d m w d' granted sound none h = by (encoded_again t l d m w d' granted sound h)
  where
    by : ((v : List ℕ) × EncodesMessage t l d m v d' × (IsPlainTree t → length v ≤ length w)) ⊎ IsRefused t l d m R9
        → (v : List ℕ) × EncodesMessage t l d m v d' × (IsPlainTree t → length v ≤ length w)
    by (inl e) = e
    by (inr (known, suited, fits, z)) = absurd (message_none t l d m suited none z)

-- one message after the other
chain_again : (t : Tree) (l : Limits) (ms : List MessageData) (d : Dictionary) (w : List ℕ) (d' : Dictionary) → IsGrantedTree l t
    → IsSound l d → All (λ m. HaveNoZero m.slots) ms → SpellsAll t l d ms w d'
    → (v : List ℕ) × EncodesAll t l d ms v d' × (IsPlainTree t → length v ≤ length w)
chain_again t l [] d w d' granted sound none (e, f) = ([], (refl, f), λ _. omega arith)
chain_again t l (m ∷ ms) d w d' granted sound none (u, v, mid, h, i, e) =
    let (x, j, short) = encoded_without_zero t l d m u mid granted sound (All-head (λ m. HaveNoZero m.slots) m ms none) h in
    let (y, k, brief) = chain_again t l ms mid v d' granted (spelled_suits t l d m u mid granted sound h).3 (All-tail (λ m. HaveNoZero m.slots) m ms none) i in
    (x ++ y, (x, y, mid, j, k, refl), λ p. omega (arith, length-append x y, two_lengths u v w e, short p, brief p))

pub all_encoded_again : (t : Tree) (l : Limits) (ms : List MessageData) (w : List ℕ) (d : Dictionary) → IsGrantedTree l t
    → All (λ m. HaveNoZero m.slots) ms → SpellsAll t l (fresh t.entries) ms w d
    → (v : List ℕ) × EncodesAll t l (fresh t.entries) ms v d × (IsPlainTree t → length v ≤ length w)
all_encoded_again t l ms w d granted none h = chain_again t l ms (fresh t.entries) w d granted (sound_fresh l t.entries) none h
