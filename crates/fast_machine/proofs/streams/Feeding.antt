-- From what a machine takes of a piece to what the stream says of these bytes.
use Rattle.std.proofs.Common.{refl, sym, ap, ◌∙◌, subst, arith, inl, inr, append_assoc, append-nil, length-append}
use Rattle.std.specs.Prelude.{◌≡◌, ℕ, suc, ◌+◌, ◌-◌, ◌<◌, ◌≤◌, List, [], ◌∷◌, ◌++◌, length, take, drop, false, Result, Ok, Err, is_err, OnOk}
use Rattle.std.proofs.lemmas.List.{take_rest, length-drop}
use Rattle.std.proofs.Math.Seq.{take-add}
use Rattle.fast_value.specs.declared.settings.Limits.{Limits}
use Rattle.fast_value.specs.declared.codes.Code.{Code}
use Rattle.fast_tree.specs.meaning.Tree.{Tree}
use Rattle.fast_dict.specs.meaning.Dictionary.{Dictionary}
use Rattle.fast_stream.specs.declared.faults.FaultCode.{FaultCode}
use Rattle.fast_stream.specs.declared.faults.FaultCode.TheVariants as Why
use Rattle.fast_stream.specs.meaning.Events.{EventData}
use Rattle.fast_stream.specs.meaning.Sinks.{Takes, TakesUpTo}
use Rattle.fast_stream.specs.device.Readers.{Reader, Done, Emit, Stop, Byte}
use Rattle.fast_stream.specs.device.Machine.{after_bytes}
use Rattle.fast_stream.specs.device.Running.{Position, at_fault, settle, step, run, after_byte, message_begun}
use Rattle.fast_machine.specs.device.Handing.{Hands, due, Waits, Quiet, waiting_at, Leads, TookEvents, Failed, Stopped, Fed}
use Rattle.fast_stream.proofs.streams.Streams.{run-append}
use Rattle.fast_machine.proofs.units.Takings.{due-waits, last_of}

-- The events up to where a reader waits don't depend on where it is.
settle-events : (n m : ℕ) (r : Reader Dictionary) → (settle n r).0 ≡ (settle m r).0
settle-events n m (Done d) = refl
settle-events n m (Emit e r) = ap (λ es. e ∷ es) (settle-events n m r)
settle-events n m (Stop c) = refl
settle-events n m (Byte f) = refl

settle-waiting : (n : ℕ) (r : Reader Dictionary) → Waits r → settle n r ≡ ([], waiting_at r)
settle-waiting n r (f, e) = rw e refl

module _ {S : Type 0} (takes stops : S → EventData → S → Type 0) where
  pub hands_settle : (r : Reader Dictionary) (s : S) (u : Unit {0}) (s' : S) (q : Reader Dictionary) → Hands takes stops r s (Ok u) s' q
      → (es : List EventData) × ((m : ℕ) → settle m r ≡ (es, waiting_at q)) × Takes takes s es s'
  hands_settle (Done d) s u s' q (o, e, i) = ([], λ m. rw i refl, e)
  hands_settle (Byte f) s u s' q (o, e, i) = ([], λ m. rw i refl, e)
  hands_settle (Stop c) s u s' q (o, e) = absurd (cc o)
  hands_settle (Emit e p) s u s' q (inr (h, o)) = absurd (cc o)
  hands_settle (Emit e p) s u s' q (inl (mid, h, i)) =
      let (es, settled, taken) = hands_settle p mid u s' q i in
      (e ∷ es, λ m. ap (λ (x : List EventData × Position Dictionary). (e ∷ x.0, x.1)) (settled m), (mid, h, taken))

  pub hands_fail : (r : Reader Dictionary) (s : S) (c : Code) (s' : S) (q : Reader Dictionary) → Hands takes stops r s (Err (Why.Stream c)) s' q
      → (es : List EventData) × ((m : ℕ) → settle m r ≡ (es, at_fault c m)) × Takes takes s es s'
  hands_fail (Done d) s c s' q (o, e, i) = absurd (cc o)
  hands_fail (Byte f) s c s' q (o, e, i) = absurd (cc o)
  hands_fail (Stop d) s c s' q (o, e) = let same : d ≡ c = cc o in ([], λ m. ap (λ x. ([], at_fault x m)) same, e)
  hands_fail (Emit e p) s c s' q (inr (h, o)) = absurd (cc o)
  hands_fail (Emit e p) s c s' q (inl (mid, h, i)) =
      let (es, settled, taken) = hands_fail p mid c s' q i in
      (e ∷ es, λ m. ap (λ (x : List EventData × Position Dictionary). (e ∷ x.0, x.1)) (settled m), (mid, h, taken))

  pub hands_stop : (r : Reader Dictionary) (s s' : S) (q : Reader Dictionary) → Hands takes stops r s (Err Why.SinkStopped) s' q
      → (es : List EventData) × ((m : ℕ) → (settle m r).0 ≡ es) × TakesUpTo takes stops s es s'
  hands_stop (Done d) s s' q (o, e, i) = absurd (cc o)
  hands_stop (Byte f) s s' q (o, e, i) = absurd (cc o)
  hands_stop (Stop d) s s' q (o, e) = absurd (cc o)
  hands_stop (Emit e p) s s' q (inr (h, o)) = (e ∷ (settle 0 p).0, λ m. ap (λ es. e ∷ es) (settle-events m 0 p), ([], (settle 0 p).0, e, s, refl, refl, h))
  hands_stop (Emit e p) s s' q (inl (mid, h, i)) =
      let (es, settled, (front, rest, at, last, split, taken, stopped)) = hands_stop p mid s' q i in
      (e ∷ es, λ m. ap (λ fs. e ∷ fs) (settled m), (e ∷ front, rest, at, last, ap (λ fs. e ∷ fs) split, (mid, h, taken), stopped))

  pub hands_no_count : (r : Reader Dictionary) (s s' : S) (q : Reader Dictionary) → Hands takes stops r s (Err Why.L4) s' q → ⊥
  hands_no_count (Done d) s s' q (o, e, i) = cc o
  hands_no_count (Byte f) s s' q (o, e, i) = cc o
  hands_no_count (Stop d) s s' q (o, e) = cc o
  hands_no_count (Emit e p) s s' q (inr (h, o)) = cc o
  hands_no_count (Emit e p) s s' q (inl (mid, h, i)) = hands_no_count p mid s' q i

  takes_more : (s mid s' : S) (es fs : List EventData) → Takes takes s es mid → Takes takes mid fs s' → Takes takes s (es ++ fs) s'
  takes_more s mid s' [] fs h i = subst (λ x. Takes takes x fs s') h i
  takes_more s mid s' (e ∷ es) fs (next, h, j) i = (next, h, takes_more next mid s' es fs j i)

pair : {A B : Type 0} {x y : A × B} → x.0 ≡ y.0 → x.1 ≡ y.1 → x ≡ y
pair {A} {B} {x} {y} e i = ap (λ (a : A). (a, x.1)) e ∙ ap (λ (b : B). (y.0, b)) i

module _ (t : Tree) (l : Limits) where
  -- One byte, where a reader stands.
  waiting-step : (n : ℕ) (r : Reader Dictionary) (b : ℕ) → step (message_begun t l) n (waiting_at r) b ≡ settle (suc n) (after_byte (due t l r) b)
  unfolding message_begun
  waiting-step n (Done d) b = refl
  waiting-step n (Emit e r) b = refl
  waiting-step n (Stop c) b = refl
  waiting-step n (Byte f) b = refl

  run-one : (n : ℕ) (r : Reader Dictionary) (b : ℕ) → run (message_begun t l) n (waiting_at r) (b ∷ []) ≡ settle (suc n) (after_byte (due t l r) b)
  run-one n r b =
      let e = waiting-step n r b in
      ap (λ (x : List EventData × Position Dictionary). (x.0 ++ [], x.1)) e
      ∙ ap (λ es. (es, (settle (suc n) (after_byte (due t l r) b)).1)) (append-nil (settle (suc n) (after_byte (due t l r) b)).0)

  run-cons : (n : ℕ) (r : Reader Dictionary) (b : ℕ) (w : List ℕ) → Waits (after_byte (due t l r) b)
      → run (message_begun t l) n (waiting_at r) (b ∷ w) ≡ run (message_begun t l) (suc n) (waiting_at (after_byte (due t l r) b)) w
  run-cons n r b w h =
      let q = after_byte (due t l r) b in
      let e = waiting-step n r b ∙ settle-waiting (suc n) q h in
      ap (λ (x : List EventData × Position Dictionary). (x.0 ++ (run (message_begun t l) (suc n) x.1 w).0, (run (message_begun t l) (suc n) x.1 w).1)) e

  -- Bytes of which only the last hands something over.
  pub quiet_run : (n : ℕ) (r : Reader Dictionary) (b : ℕ) (w : List ℕ) → Quiet (due t l r) (b ∷ w)
      → run (message_begun t l) n (waiting_at r) (b ∷ w) ≡ settle (n + length (b ∷ w)) (after_bytes (due t l r) (b ∷ w))
  quiet_run n r b [] h = let one : suc n ≡ n + 1 = omega arith in run-one n r b ∙ ap (λ m. settle m (after_byte (due t l r) b)) one
  quiet_run n r b (c ∷ w) h =
      let q = after_byte (due t l r) b in
      let e = due-waits t l q h.1.0 in
      let sum : suc n + length (c ∷ w) ≡ n + length (b ∷ c ∷ w) = omega arith in
      run-cons n r b (c ∷ w) h.1.0
      ∙ quiet_run (suc n) q c w (subst (λ (p : Reader Dictionary). Quiet p (c ∷ w)) (sym e) h.1)
      ∙ ap (λ (p : Reader Dictionary). settle (suc n + length (c ∷ w)) (after_bytes p (c ∷ w))) e
      ∙ ap (λ m. settle m (after_bytes q (c ∷ w))) sum

  -- The bytes before the last: nothing is handed over, and there the reader stands.
  pub record QuietBefore (r : Reader Dictionary) (u : List ℕ) (b : ℕ) : Type 0 where
    pub at : Position Dictionary
    pub before : Leads t l (waiting_at r) u [] at
    pub last : (n : ℕ) → run (message_begun t l) n at (b ∷ []) ≡ settle (suc n) (after_bytes (due t l r) (u ++ b ∷ []))

  pub quiet_before : (r : Reader Dictionary) (u : List ℕ) (b : ℕ) → Quiet (due t l r) (u ++ b ∷ []) → QuietBefore r u b
  quiet_before r [] b h = record { at = waiting_at r; before = λ n. refl; last = λ n. run-one n r b }
  quiet_before r (a ∷ []) b h =
      let q = after_byte (due t l r) a in
      record {
        at = waiting_at q;
        before = λ n. run-cons n r a [] h.1.0;
        last = λ n. run-one n q b ∙ ap (λ (p : Reader Dictionary). settle (suc n) (after_byte p b)) (due-waits t l q h.1.0);
      }
  quiet_before r (a ∷ c ∷ u) b h =
      let q = after_byte (due t l r) a in
      let e = due-waits t l q h.1.0 in
      let more = quiet_before q (c ∷ u) b (subst (λ (p : Reader Dictionary). Quiet p (c ∷ u ++ b ∷ [])) (sym e) h.1) in
      record {
        at = more.at;
        before = λ n. run-cons n r a (c ∷ u) h.1.0 ∙ more.before (suc n);
        last = λ n. more.last n ∙ ap (λ (p : Reader Dictionary). settle (suc n) (after_bytes p (c ∷ u ++ b ∷ []))) e;
      }

  module _ {S : Type 0} (takes stops : S → EventData → S → Type 0) where
    -- nothing is taken of no bytes
    pub took_none : (from : Position Dictionary) (s : S) → TookEvents takes t l from [] s s from
    took_none from s = record { events = []; leads = λ n. refl; taken = refl }

    run-two : (n : ℕ) (from mid : Position Dictionary) (u v : List ℕ) (es : List EventData) → Leads t l from u es mid
        → run (message_begun t l) n from (u ++ v) ≡ (es ++ (run (message_begun t l) (n + length u) mid v).0, (run (message_begun t l) (n + length u) mid v).1)
    run-two n from mid u v es h =
        let parts = run-append (message_begun t l) n (n + length u) from u v refl in
        let e : run (message_begun t l) n from u ≡ (es, mid) = h n in
        pair (parts.0 ∙ ap (λ (x : List EventData × Position Dictionary). x.0 ++ (run (message_begun t l) (n + length u) x.1 v).0) e)
        (parts.1 ∙ ap (λ (x : List EventData × Position Dictionary). (run (message_begun t l) (n + length u) x.1 v).1) e)

    -- one run of bytes after the other
    pub took_both : (from mid to : Position Dictionary) (u v : List ℕ) (s m s' : S) → TookEvents takes t l from u s m mid
        → TookEvents takes t l mid v m s' to → TookEvents takes t l from (u ++ v) s s' to
    took_both from mid to u v s m s' a b = record {
      events = a.events ++ b.events;
      leads = λ n. run-two n from mid u v a.events a.leads ∙ ap (λ (x : List EventData × Position Dictionary). (a.events ++ x.0, x.1)) (b.leads (n + length u));
      taken = takes_more takes stops s m s' a.events b.events a.taken b.taken;
    }

    failed_both : (from mid : Position Dictionary) (u v : List ℕ) (s m s' : S) (c : Code) → TookEvents takes t l from u s m mid
        → Failed takes t l mid v m s' c → Failed takes t l from (u ++ v) s s' c
    failed_both from mid u v s m s' c a b = record {
      events = a.events ++ b.events;
      leads = λ n.
          let sum : n + length u + length v ≡ n + length (u ++ v) = omega (arith, length-append u v) in
          run-two n from mid u v a.events a.leads ∙ ap (λ (x : List EventData × Position Dictionary). (a.events ++ x.0, x.1))
          (b.leads (n + length u)) ∙ ap (λ k. (a.events ++ b.events, at_fault c k)) sum;
      taken = takes_more takes stops s m s' a.events b.events a.taken b.taken;
    }

    stopped_both : (from mid : Position Dictionary) (u v : List ℕ) (s m s' : S) → TookEvents takes t l from u s m mid
        → Stopped takes stops t l mid v m s' → Stopped takes stops t l from (u ++ v) s s'
    stopped_both from mid u v s m s' a b = record {
      before = u ++ b.before;
      byte = b.byte;
      bytes = ap (λ w. u ++ w) b.bytes ∙ sym (append_assoc u b.before (b.byte ∷ []));
      mid = b.mid;
      at = b.at;
      took = took_both from mid b.at u b.before s m b.mid a b.took;
      given = b.given;
      gives = b.gives;
      stopped = b.stopped;
    }

    -- Bytes that were fed behind others that were taken.
    pub fed_both : (from mid to : Position Dictionary) (u v : List ℕ) (s m s' : S) (r : Result Unit FaultCode)
        → TookEvents takes t l from u s m mid → Fed takes stops t l mid v m r s' to → Fed takes stops t l from (u ++ v) s r s' to
    fed_both from mid to u v s m s' (Ok x) a b = took_both from mid to u v s m s' a b
    fed_both from mid to u v s m s' (Err (Why.Stream c)) a b = failed_both from mid u v s m s' c a b
    fed_both from mid to u v s m s' (Err Why.SinkStopped) a b = stopped_both from mid u v s m s' a b
    fed_both from mid to u v s m s' (Err Why.L4) a b = absurd b

    -- what is known of bytes of which only the last hands something over
    quiet_fed : (r : Reader Dictionary) (b : ℕ) (w : List ℕ) (s : S) (o : Result Unit FaultCode) (s' : S) (q : Reader Dictionary) → Quiet (due t l r) (b ∷ w)
        → Hands takes stops (after_bytes (due t l r) (b ∷ w)) s o s' q → Fed takes stops t l (waiting_at r) (b ∷ w) s o s' (waiting_at q)
    quiet_fed r b w s (Ok u) s' q h i =
        let (es, settled, taken) = hands_settle takes stops (after_bytes (due t l r) (b ∷ w)) s u s' q i in
        record { events = es; leads = λ n. quiet_run n r b w h ∙ settled (n + length (b ∷ w)); taken = taken }
    quiet_fed r b w s (Err (Why.Stream c)) s' q h i =
        let (es, settled, taken) = hands_fail takes stops (after_bytes (due t l r) (b ∷ w)) s c s' q i in
        record { events = es; leads = λ n. quiet_run n r b w h ∙ settled (n + length (b ∷ w)); taken = taken }
    quiet_fed r b w s (Err Why.SinkStopped) s' q h i =
        let (es, settled, stopped) = hands_stop takes stops (after_bytes (due t l r) (b ∷ w)) s s' q i in
        let (u, last, e) = last_of (b ∷ w) (omega arith) in
        let k = quiet_before r u last (subst (λ (x : List ℕ). Quiet (due t l r) x) e h) in
        record {
          before = u;
          byte = last;
          bytes = e;
          mid = s;
          at = k.at;
          took = record { events = []; leads = k.before; taken = refl };
          given = es;
          gives = λ n. ap (λ (x : List EventData × Position Dictionary). x.0) (k.last n)
              ∙ ap (λ (x : List ℕ). (settle (suc n) (after_bytes (due t l r) x)).0) (sym e) ∙ settled (suc n);
          stopped = stopped;
        }
    quiet_fed r b w s (Err Why.L4) s' q h i = hands_no_count takes stops (after_bytes (due t l r) (b ∷ w)) s s' q i

    pub by_list : (r : Reader Dictionary) (w : List ℕ) (s : S) (o : Result Unit FaultCode) (s' : S) (q : Reader Dictionary) → 0 < length w → Quiet (due t l r) w
        → Hands takes stops (after_bytes (due t l r) w) s o s' q → Fed takes stops t l (waiting_at r) w s o s' (waiting_at q)
    by_list r [] s o s' q some h i = absurd (omega (arith, some))
    by_list r (b ∷ w) s o s' q some h i = quiet_fed r b w s o s' q h i

    -- Bytes of a piece that were fed behind others that were taken.
    pub fed_behind : (from mid to : Position Dictionary) (piece : List ℕ) (k n : ℕ) (s m s' : S) (o : Result Unit FaultCode)
        → TookEvents takes t l from (take k piece) s m mid
        → Fed takes stops t l mid (take n (take (length piece - k) (drop k piece))) m o s' to → Fed takes stops t l from (take (k + n) piece) s o s' to
    fed_behind from mid to piece k n s m s' o a b =
        subst (λ (w : List ℕ). Fed takes stops t l from w s o s' to) (sym (take-add k n piece))
        (fed_both from mid to (take k piece) (take n (drop k piece)) s m s' o a
        (subst (λ (w : List ℕ). Fed takes stops t l mid (take n w) m o s' to) (take_rest piece k) b))

    -- where the machine goes on
    pub fed_on : (from : Position Dictionary) (w : List ℕ) (s : S) (r : Result Unit FaultCode) (s' : S) (to : Position Dictionary)
        → is_err r ≡ false → Fed takes stops t l from w s r s' to → TookEvents takes t l from w s s' to
    fed_on from w s (Ok u) s' to e h = h
    fed_on from w s (Err c) s' to e h = absurd (cc e)

-- what holds where a result is no error
pub on_ok : {E : Type 0} {P : Type 0} (r : Result Unit E) → is_err r ≡ false → OnOk r P → P
on_ok (Ok u) e h = h
on_ok (Err c) e h = absurd (cc e)

-- a number of bytes behind others stays within the piece
pub within_piece : (piece : List ℕ) (k n : ℕ) → k ≤ length piece → n ≤ length (take (length piece - k) (drop k piece)) → k + n ≤ length piece
within_piece piece k n h i =
    let same : length (take (length piece - k) (drop k piece)) ≡ length piece - k = ap length (take_rest piece k) ∙ length-drop k piece in
    omega arith
