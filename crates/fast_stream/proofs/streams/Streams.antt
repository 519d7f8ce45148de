-- The run of a stream's reader is the stream.
use Rattle.std.proofs.Common.{refl, sym, ap, ◌∙◌, ap₂, arith, append_assoc, append-nil, length-append}
use Rattle.std.specs.Prelude.{◌≡◌, ℕ, zero, suc, ◌+◌, ◌<◌, ◌≤◌, List, [], ◌∷◌, ◌++◌, length, flat_map}
use Rattle.std.proofs.lemmas.Grind.{flat_map-append}
use Rattle.fast_value.specs.declared.settings.Limits.{Limits}
use Rattle.fast_value.specs.meaning.Messages.{MessageData}
use Rattle.fast_value.specs.declared.codes.Code.{Code}
use Rattle.fast_tree.specs.meaning.Tree.{Tree}
use Rattle.fast_dict.specs.meaning.Dictionary.{Dictionary, fresh}
use Rattle.fast_stream.specs.meaning.Events.{EventData, events}
use Rattle.fast_stream.specs.meaning.Phrases.{Reached, whole, cut, wrong}
use Rattle.fast_stream.specs.meaning.Messages.{message, SpellsMessage}
use Rattle.fast_stream.specs.meaning.Streams.{End, between, inside, faulted, SpellsAll, Chain, Stream, AreBytes}
use Rattle.fast_stream.specs.device.Readers.{Reader, Done, Emit, Stop, Byte, bind, Runs, Reads}
use Rattle.fast_stream.specs.device.Running.{Position, at_start, at_fault, settle, step, run, end_of}
use Rattle.fast_stream.proofs.readers.Binds.{All-front}
use Rattle.fast_stream.proofs.readers.Fronts.{front, Front}

-- of a result the second half
abbrev pub left : {M D : Type 0} → Reader (M × D) → Reader D
left r = bind r (λ x. Done x.1)

module _ {D : Type 0} (first : D → ℕ → Reader D) where
  -- Bytes one after the other.
  pub run-append : (n k : ℕ) (s : Position D) (w v : List ℕ) → k ≡ n + length w
      → ((run first n s (w ++ v)).0 ≡ (run first n s w).0 ++ (run first k (run first n s w).1 v).0)
      × ((run first n s (w ++ v)).1 ≡ (run first k (run first n s w).1 v).1)
  run-append n k s [] v e = let f : n ≡ k = omega arith in rw f (refl, refl)
  run-append n k s (b ∷ w) v e =
      let h = run-append (suc n) k (step first n s b).1 w v (omega arith) in (
        ap (λ r. (step first n s b).0 ++ r) h.0 ∙ sym (append_assoc (step first n s b).0 (run first (suc n) (step first n s b).1 w).0
            (run first k (run first (suc n) (step first n s b).1 w).1 v).0),
        h.1,
      )

  -- The run from a reader on, of whose result the second half is left.
  abbrev pub go : {M : Type 0} → ℕ → Reader (M × D) → List ℕ → List EventData × Position D
  go n r w = ((settle n (left r)).0 ++ (run first n (settle n (left r)).1 w).0, (run first n (settle n (left r)).1 w).1)

  pub at-fault : (n m : ℕ) (c : Code) (w : List ℕ) → ((run first n (at_fault c m) w).0 ≡ []) × ((run first n (at_fault c m) w).1 ≡ at_fault c m)
  at-fault n m c [] = (refl, refl)
  at-fault n m c (b ∷ w) = at-fault (suc n) m c w

  go-whole : {M : Type 0} (n k : ℕ) (r : Reader (M × D)) (u v : List ℕ) (fs : List EventData) (m : M) (d : D) → k ≡ n + length u → Runs r u fs (whole (m, d))
      → ((go n r (u ++ v)).0 ≡ fs ++ (run first k (at_start d) v).0) × ((go n r (u ++ v)).1 ≡ (run first k (at_start d) v).1)
  go-whole n k (Done x) u v fs m d e h = let f : k ≡ n = omega (arith, e, ap length h.0) in rw (h.0, h.1, f, ← h.2) (refl, refl)
  go-whole n k (Emit e r) u v fs m d i (gs, j, h) = let q = go-whole n k r u v gs m d i h in rw j (ap (λ r. e ∷ r) q.0, q.1)
  go-whole n k (Stop c) u v fs m d e h = absurd h
  go-whole n k (Byte f) [] v fs m d e h = absurd h
  go-whole n k (Byte f) (b ∷ u) v fs m d e h = go-whole (suc n) k (f b) u v fs m d (omega arith) h

  go-cut : {M : Type 0} (n : ℕ) (r : Reader (M × D)) (w : List ℕ) (fs : List EventData) → Runs r w fs cut → ((go n r w).0 ≡ fs) × (end_of (go n r w).1 ≡ inside)
  go-cut n (Done x) w fs h = absurd h
  go-cut n (Emit e r) w fs (gs, j, h) = let q = go-cut n r w gs h in rw j (ap (λ r. e ∷ r) q.0, q.1)
  go-cut n (Stop c) w fs h = absurd h
  go-cut n (Byte f) [] fs h = (sym h, refl)
  go-cut n (Byte f) (b ∷ w) fs h = go-cut (suc n) (f b) w fs h

  go-wrong : {M : Type 0} (n k : ℕ) (r : Reader (M × D)) (u v : List ℕ) (fs : List EventData) (c : Code) → k ≡ n + length u → Runs r u fs (wrong c)
      → ((go n r (u ++ v)).0 ≡ fs) × ((go n r (u ++ v)).1 ≡ at_fault c k)
  go-wrong n k (Done x) u v fs c e h = absurd h
  go-wrong n k (Emit e r) u v fs c i (gs, j, h) = let q = go-wrong n k r u v gs c i h in rw j (ap (λ r. e ∷ r) q.0, q.1)
  go-wrong n k (Stop d) u v fs c e h = let f : k ≡ n = omega (arith, e, ap length h.0) in rw (h.0, h.1, f, h.2) (at-fault n n d v)
  go-wrong n k (Byte f) [] v fs c e h = absurd h
  go-wrong n k (Byte f) (b ∷ u) v fs c e h = go-wrong (suc n) k (f b) u v fs c (omega arith) h

-- A phrase that is a message's, and takes a byte, beside its reader.
module _ (t : Tree) (l : Limits) (first : Dictionary → ℕ → Reader (MessageData × Dictionary))
    (reads : (d : Dictionary) → Reads (Byte (first d)) (message t l d))
    (told : (d : Dictionary) (w : List ℕ) (es : List EventData) (m : MessageData) (d' : Dictionary) → message t l d w es (whole (m, d'))
    → es ≡ events t m) where
  abbrev pub begun : Dictionary → ℕ → Reader Dictionary
  begun d b = left (first d b)

  abbrev pub start : Position Dictionary
  start = at_start (fresh t.entries)

  run-all : (n k : ℕ) (ms : List MessageData) (d d' : Dictionary) (w v : List ℕ) → k ≡ n + length w → SpellsAll t l d ms w d'
      → ((run begun n (at_start d) (w ++ v)).0 ≡ flat_map (events t) ms ++ (run begun k (at_start d') v).0)
      × ((run begun n (at_start d) (w ++ v)).1 ≡ (run begun k (at_start d') v).1)
  unfolding SpellsMessage
  run-all n k [] d d' w v e h = let f : k ≡ n = omega (arith, e, ap length h.0) in rw (h.0, h.1, f) (refl, refl)
  run-all n k (m ∷ ms) d d' w v e (u, u', mid, h, i, j) =
      let f : k ≡ n + length u + length u' = omega (arith, e, ap length j, length-append u u') in
      let p = on u ((reads d).takes u (events t m) (whole (m, mid)) h) in
      let q = run-all (n + length u) k ms mid d' u' v f i in
      rw (j, append_assoc u u' v) (
        p.0 ∙ ap (λ r. events t m ++ r) q.0
            ∙ sym (append_assoc (events t m) (flat_map (events t) ms) (run begun k (at_start d') v).0),
        p.1 ∙ q.1,
      )
    where
      on : (u : List ℕ) → Runs (Byte (first d)) u (events t m) (whole (m, mid))
          → ((run begun n (at_start d) (u ++ (u' ++ v))).0 ≡ events t m ++ (run begun (n + length u) (at_start mid) (u' ++ v)).0)
          × ((run begun n (at_start d) (u ++ (u' ++ v))).1 ≡ (run begun (n + length u) (at_start mid) (u' ++ v)).1)
      on [] h = absurd h
      on (b ∷ u) h = go-whole begun (suc n) (n + length (b ∷ u)) (first d b) u (u' ++ v) (events t m) m mid (omega arith) h

  abbrev pub Answers : List ℕ → List EventData → End → Type 0
  Answers w es e = ((run begun 0 start w).0 ≡ es) × (end_of (run begun 0 start w).1 ≡ e)

  chained : (w v : List ℕ) (es : List EventData) (d : Dictionary) → Chain t l w es d
      → ((run begun 0 start (w ++ v)).0 ≡ es ++ (run begun (length w) (at_start d) v).0)
      × ((run begun 0 start (w ++ v)).1 ≡ (run begun (length w) (at_start d) v).1)
  chained w v es d (ms, h, e) = rw e (run-all 0 (length w) ms (fresh t.entries) d w v (omega arith) h)

  -- Whatever the stream is said to be, the run says.
  pub run-complete : (w : List ℕ) (es : List EventData) (e : End) → Stream t l w es e → Answers w es e
  unfolding Stream
  run-complete w es between (d, h) =
      let q = chained w [] es d h in (
        ap (λ r. (run begun 0 start r).0) (sym (append-nil w)) ∙ q.0 ∙ append-nil es,
        ap (λ r. end_of (run begun 0 start r).1) (sym (append-nil w)) ∙ ap (λ s. end_of s) q.1,
      )
  run-complete w es inside (u, v, fs, gs, d, h, i, j, k, e) =
      let q = chained u v fs d h in
      let p = on v j ((reads d).takes v gs cut i) in
      rw (k, e) (q.0 ∙ ap (λ r. fs ++ r) p.0, ap (λ s. end_of s) q.1 ∙ p.1)
    where
      on : (v : List ℕ) → 0 < length v → Runs (Byte (first d)) v gs cut
          → ((run begun (length u) (at_start d) v).0 ≡ gs) × (end_of (run begun (length u) (at_start d) v).1 ≡ inside)
      on [] z h = absurd (omega (arith, z))
      on (b ∷ v) z h = go-cut begun (suc (length u)) (first d b) v gs h
  run-complete w es (faulted c place) (u, v, rest, fs, gs, d, h, i, n, k, e) =
      let q = chained u (v ++ rest) fs d h in
      let p = on v (n ∙ length-append u v) ((reads d).takes v gs (wrong c) i) in
      rw (k, append_assoc u v rest, e) (q.0 ∙ ap (λ r. fs ++ r) p.0, ap (λ s. end_of s) (q.1 ∙ p.1))
    where
      on : (v : List ℕ) → place ≡ length u + length v → Runs (Byte (first d)) v gs (wrong c)
          → ((run begun (length u) (at_start d) (v ++ rest)).0 ≡ gs)
          × ((run begun (length u) (at_start d) (v ++ rest)).1 ≡ at_fault c place)
      on [] z h = absurd h
      on (b ∷ v) z h = go-wrong begun (suc (length u)) place (first d b) v rest gs c (omega arith) h

  -- There is one answer for given bytes.
  pub one-answer : (w : List ℕ) (es es' : List EventData) (e e' : End) → Stream t l w es e → Stream t l w es' e' → (es ≡ es') × (e ≡ e')
  one-answer w es es' e e' h h' = let p = run-complete w es e h in let q = run-complete w es' e' h' in (sym p.0 ∙ q.0, sym p.1 ∙ q.1)

  -- One message more.
  snoc : (ms : List MessageData) (m : MessageData) (d mid d' : Dictionary) (u v : List ℕ) → SpellsAll t l d ms u mid
      → SpellsMessage t l mid m v d' → SpellsAll t l d (ms ++ m ∷ []) (u ++ v) d'
  snoc [] m d mid d' u v h i = (v, [], d', rw h.1 at i, (refl, refl), rw h.0 (sym (append-nil v)))
  snoc (m' ∷ ms) m d mid d' u v (u₁, u₂, d₁, h, j, k) i = (u₁, u₂ ++ v, d₁, h, snoc ms m d₁ mid d' u₂ v j i, rw k (append_assoc u₁ u₂ v))

  pub more : (u v : List ℕ) (fs gs : List EventData) (d d' : Dictionary) (m : MessageData) → Chain t l u fs d
      → message t l d v gs (whole (m, d')) → Chain t l (u ++ v) (fs ++ gs) d'
  unfolding SpellsMessage
  more u v fs gs d d' m (ms, h, e) i =
      let k = told d v gs m d' i in (
        ms ++ m ∷ [],
        snoc ms m (fresh t.entries) d d' u v h (rw k at i),
        ap₂ (λ r s. r ++ s) e k
            ∙ ap (λ r. flat_map (events t) ms ++ r) (sym (append-nil (events t m))) ∙ sym (flat_map-append (events t) ms (m ∷ [])),
      )

  abbrev pub Some_stream : List ℕ → List EventData → List ℕ → Type 0
  Some_stream u fs v = (es : List EventData) × (e : End) × Stream t l (u ++ v) (fs ++ es) e

  -- Whatever the bytes are, there is an answer.
  total-step : (n : ℕ) (u v : List ℕ) (fs : List EventData) (d : Dictionary)
      → ((u v : List ℕ) (fs : List EventData) (d : Dictionary) → length v ≤ n → AreBytes v → Chain t l u fs d → Some_stream u fs v)
      → 0 < length v → length v ≤ suc n → AreBytes v → Chain t l u fs d
      → (p q : List ℕ) (gs : List EventData) (x : Reached (MessageData × Dictionary)) → Front (Byte (first d)) p q gs x → v ≡ p ++ q → Some_stream u fs v
  unfolding Stream
  total-step n u v fs d ih z h b i p q gs (whole r) j k =
      let bs = All-front (λ c. c < 256) p q (rw k at b) in
      let c = more u p fs gs d r.1 r.0 i ((reads d).says p gs (whole r) bs.0 j.0) in
      joined (ih (u ++ p) q (fs ++ gs) r.1 (shorter p j.0 k) bs.1 c)
    where
      joined : Some_stream (u ++ p) (fs ++ gs) q → Some_stream u fs v
      joined (es, e, s) = (gs ++ es, e, rw (k, ← append_assoc u p q, ← append_assoc fs gs es) s)

      shorter : (p : List ℕ) → Runs (Byte (first d)) p gs (whole r) → v ≡ p ++ q → length q ≤ n
      shorter [] j k = absurd j
      shorter (b ∷ p) j k = omega (arith, h, ap length k, length-append p q)
  total-step n u v fs d ih z h b i p q gs cut j k =
      let e : v ≡ p = k ∙ ap (λ r. p ++ r) j.1 ∙ append-nil p in
      let bs = All-front (λ c. c < 256) p q (rw k at b) in
      (gs, inside, (u, v, fs, gs, d, i, rw e ((reads d).says p gs cut bs.0 j.0), z, refl, refl))
  total-step n u v fs d ih z h b i p q gs (wrong c) j k =
      let bs = All-front (λ c. c < 256) p q (rw k at b) in (
        gs,
        faulted c (length (u ++ p)),
        (
          u,
          p,
          q,
          fs,
          gs,
          d,
          i,
          (reads d).says p gs (wrong c) bs.0 j.0,
          refl,
          ap (λ r. u ++ r) k
              ∙ sym (append_assoc u p q),
          refl,
        ),
      )

  total-from : (n : ℕ) (u v : List ℕ) (fs : List EventData) (d : Dictionary) → length v ≤ n → AreBytes v → Chain t l u fs d → Some_stream u fs v
  unfolding Stream
  total-from n u [] fs d h b i = ([], between, (d, rw (append-nil u, append-nil fs) i))
  total-from zero u (x ∷ v) fs d h b i = absurd (omega arith)
  total-from (suc n) u (x ∷ v) fs d h b i =
      let (p, q, gs, y, j, k) = front (Byte (first d)) (x ∷ v) in
      total-step n u (x ∷ v) fs d (total-from n) (omega arith) h b i p q gs y j k

  pub total : (w : List ℕ) → AreBytes w → (es : List EventData) × (e : End) × Stream t l w es e
  total w b = total-from (length w) [] w [] (fresh t.entries) (omega arith) b ([], (refl, refl), refl)

  -- What the run says is the stream.
  pub run-sound : (w : List ℕ) → AreBytes w → Stream t l w (run begun 0 start w).0 (end_of (run begun 0 start w).1)
  run-sound w b =
      let (es, e, s) = total w b in
      let q = run-complete w es e s in
      rw (q.0, q.1) s
