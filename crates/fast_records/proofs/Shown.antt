-- What a sink of records shows.
use Rattle.std.proofs.Common.{◌≡◌, ◌≢◌, inl, inr, ℕ, ◌-◌, ◌<◌, List, [], ◌∷◌, ◌++◌, length, map, take, refl, sym, ap, subst, ◌∙◌}
use Rattle.std.proofs.Common.{◌+◌, append-nil, append_assoc, arith, slice_set, Result, Ok, Err, OnOk, OnErr}
use Rattle.std.specs.Borrow.{MutBor}
use Rattle.std.proofs.lemmas.List.{length-set, take_more_set}
use Rattle.fast_stream.specs.declared.events.Stop.{Stop}
use Rattle.fast_stream.specs.meaning.Events.{EventData, MessageStart, MessageEnd}
use Rattle.fast_records.specs.declared.records.Record.{Record}
use Rattle.fast_records.specs.declared.room.Room.{Room}
use Rattle.fast_records.specs.declared.sink.RecordSink.{RecordSink}
use Rattle.fast_records.specs.meaning.Records.{record_of, unplaced, event_text}
use Rattle.fast_records.specs.meaning.Feeding.{HasNoRoom}
use Rattle.fast_records.specs.device.Room.{records_in, texts_in, IsOpen, LacksRoom, IsFull, Adds, IsAsFilled, IsUnchanged}
use Rattle.fast_records.specs.device.Waiting.{Moves}
use Rattle.fast_records.specs.meaning.Waiting.{pending}
use Rattle.fast_records.specs.meaning.Sink.{room_of, Shows, IsSameSink, TakesRecord, RefusesRecord}
use Rattle.fast_records.specs.declared.waiting.Waiting.{Waiting}
use Rattle.fast_records.proofs.Moving.{holds_more, holds_same}

-- a room that is filled as another is as full
pub full_same : (r r' : Room) (es es' : List EventData) → IsAsFilled r r' → es' ≡ es → IsFull r es → IsFull r' es'
full_same r r' es es' same es_is full some =
    let records : length r.records.now - r.filled ≡ length r'.records.now - r'.filled = omega (arith, same.long, same.filled) in
    let texts : length r.texts.now - r.used ≡ length r'.texts.now - r'.used = omega (arith, same.wide, same.used) in
    let there = full (λ none. some (es_is ∙ none)) in
    subst (λ (xs : List EventData). HasNoRoom (length r'.records.now - r'.filled) (length r'.texts.now - r'.used) xs) (sym es_is)
    (subst (λ (n : ℕ). HasNoRoom (length r'.records.now - r'.filled) n es) texts
    (subst (λ (n : ℕ). HasNoRoom n (length r.texts.now - r.used) es) records there))

-- the first that waits has no room, and stays the first
pub full_more : (r : Room) (es : List EventData) (e : EventData) → (es ≡ [] → IsOpen r) → IsFull r es → LacksRoom (event_text e) r → IsFull r (es ++ e ∷ [])
full_more r [] e unclosed full (inl none) some = inl (let all = unclosed refl in omega (arith, all, none))
full_more r [] e unclosed full (inr long) some = inr long
full_more r (x ∷ xs) e unclosed full lacks some = full (λ none. cc none)

-- its record was added
pub shows_put : (s s' : RecordSink) (e : EventData) (p : ℕ) (next : Record) (t : List ℕ) → p ≡ length (texts_in (room_of s))
    → unplaced next ≡ record_of p e → t ≡ event_text e → Adds next t (room_of s) (room_of s') → s'.waiting.now ≡ s.waiting.now
    → (es : List EventData) → Shows s es → Shows s' (es ++ e ∷ [])
shows_put s s' e p next t at is text adds same es h =
    let none : pending s'.waiting.now ≡ [] = ap (λ (v : Waiting). pending v) same ∙ h.in_order adds.had_room in
    record {
      given = h.given ++ e ∷ [];
      filled = holds_more (room_of s) (room_of s') h.given e p next t h.filled at is text adds;
      all = ap (λ (xs : List EventData). xs ++ e ∷ []) (h.all ∙ ap (λ (xs : List EventData). h.given ++ xs) (h.in_order adds.had_room) ∙ append-nil h.given)
          ∙ sym (append-nil (h.given ++ e ∷ [])) ∙ ap (λ (xs : List EventData). (h.given ++ e ∷ []) ++ xs) (sym none);
      in_order = λ _. none;
      unclosed = λ _. adds.limit ∙ h.unclosed (h.in_order adds.had_room) ∙ sym adds.long;
      full = λ some. absurd (some none);
    }

-- a sink that is as it was shows what it did
pub shows_same : (s s' : RecordSink) → IsUnchanged (room_of s) (room_of s') → pending s'.waiting.now ≡ pending s.waiting.now
    → (es : List EventData) → Shows s es → Shows s' es
shows_same s s' same waits es h = record {
  given = h.given;
  filled = holds_same (room_of s) (room_of s') h.given same.as_filled h.filled;
  all = h.all ∙ ap (λ (xs : List EventData). h.given ++ xs) (sym waits);
  in_order = λ lt. waits ∙ h.in_order (omega (arith, lt, same.as_filled.filled, same.limit));
  unclosed = λ none. same.limit ∙ h.unclosed (sym waits ∙ none) ∙ sym same.as_filled.long;
  full = full_same (room_of s) (room_of s') (pending s.waiting.now) (pending s'.waiting.now) same.as_filled waits h.full;
}

-- an event that has no room waits behind the others
pub shows_wait : (s s' : RecordSink) (e : EventData) → LacksRoom (event_text e) (room_of s) → IsAsFilled (room_of s) (room_of s')
    → s'.limit ≡ s'.filled → pending s'.waiting.now ≡ pending s.waiting.now ++ e ∷ []
    → (es : List EventData) → Shows s es → Shows s' (es ++ e ∷ [])
shows_wait s s' e lacks same closed waits es h = record {
  given = h.given;
  filled = holds_same (room_of s) (room_of s') h.given same h.filled;
  all = ap (λ (xs : List EventData). xs ++ e ∷ []) h.all ∙ append_assoc h.given (pending s.waiting.now) (e ∷ [])
      ∙ ap (λ (xs : List EventData). h.given ++ xs) (sym waits);
  in_order = λ lt. absurd (omega (arith, lt, closed));
  unclosed = λ none. absurd (not_nothing (pending s.waiting.now) e (sym waits ∙ none));
  full = full_same (room_of s) (room_of s') (pending s.waiting.now ++ e ∷ []) (pending s'.waiting.now) same waits
      (full_more (room_of s) (pending s.waiting.now) e h.unclosed h.full lacks);
}
  where
    not_nothing : (xs : List EventData) (x : EventData) → xs ++ x ∷ [] ≢ []
    not_nothing [] x is = cc is
    not_nothing (y ∷ ys) x is = cc is

-- one sink behind another over the same buffers
pub same_after : (s s' new : RecordSink) → IsSameSink s s' → IsSameSink s' new → IsSameSink s new
same_after s s' new same next = record {
  records = next.records ∙ same.records;
  texts = next.texts ∙ same.texts;
  waiting = next.waiting ∙ same.waiting;
  long = next.long ∙ same.long;
}

-- what had no room waits
pub takes_after : (s s' : RecordSink) (e : EventData) (new : RecordSink) (r : Result Unit Stop) → IsSameSink s s'
    → IsUnchanged (room_of s) (room_of s') → s'.waiting.now ≡ s.waiting.now → OnOk r (TakesRecord s' e new) → OnOk r (TakesRecord s e new)
takes_after s s' e new (Ok u) same as_it_was waits h = record {
  same = same_after s s' new same h.same;
  grows = let more = h.grows in omega (arith, as_it_was.as_filled.filled, more);
  shows = λ es shown. h.shows es (shows_same s s' as_it_was (ap (λ (v : Waiting). pending v) waits) es shown);
}
takes_after s s' e new (Err x) same as_it_was waits h = h

-- or is refused
pub refuses_after : (s s' : RecordSink) (e : EventData) (new : RecordSink) (r : Result Unit Stop) → IsSameSink s s'
    → IsUnchanged (room_of s) (room_of s') → s'.waiting.now ≡ s.waiting.now → OnErr r (RefusesRecord s' e new)
    → OnErr r (RefusesRecord s e new)
refuses_after s s' e new (Ok u) same as_it_was waits h = h
refuses_after s s' e new (Err x) same as_it_was waits h = record {
  same = same_after s s' new same h.same;
  grows = let more = h.grows in omega (arith, as_it_was.as_filled.filled, more);
  shows = λ es shown. h.shows es (shows_same s s' as_it_was (ap (λ (v : Waiting). pending v) waits) es shown);
}

-- What waited moved into a room over the buffers of a sink: the sink shows what waited.
pub shows_new : (s : RecordSink) (r₀ r : Room) (waited waits : Waiting) → Moves r₀ waited r waits → records_in r₀ ≡ [] → texts_in r₀ ≡ []
    → (r.filled < r.limit → pending waits ≡ []) → (pending waits ≡ [] → IsOpen r) → IsFull r (pending waits)
    → s.records.now ≡ r.records.now → s.texts.now ≡ r.texts.now → s.waiting.now ≡ waits → s.filled ≡ r.filled → s.limit ≡ r.limit
    → s.used ≡ r.used → Shows s (pending waited)
shows_new s r₀ r waited waits moves no_record no_text in_order unclosed full records_is texts_is waits_is filled_is limit_is used_is =
    let m = moves [] (record { records_are = ap (map unplaced) no_record; texts_are = no_text }) in
    let here : pending s.waiting.now ≡ pending waits = ap (λ (v : Waiting). pending v) waits_is in
    let same : IsAsFilled r (room_of s) = record {
      records = ap (λ (n : ℕ). take n s.records.now) filled_is ∙ ap (λ (rs : List Record). take r.filled rs) records_is;
      texts = ap (λ (n : ℕ). take n s.texts.now) used_is ∙ ap (λ (ts : List ℕ). take r.used ts) texts_is;
      filled = filled_is;
      used = used_is;
      long = ap length records_is;
      wide = ap length texts_is;
    } in
    record {
      given = m.0;
      filled = holds_same r (room_of s) m.0 same m.2;
      all = m.1 ∙ ap (λ (xs : List EventData). m.0 ++ xs) (sym here);
      in_order = λ lt. here ∙ in_order (omega (arith, lt, filled_is, limit_is));
      unclosed = λ none. limit_is ∙ unclosed (sym here ∙ none) ∙ sym same.long;
      full = full_same r (room_of s) (pending waits) (pending s.waiting.now) same here full;
    }

-- Nothing waited: the sink shows nothing.
pub shows_none : (s : RecordSink) (waited : Waiting) → pending waited ≡ [] → s.waiting.now ≡ waited → s.filled ≡ 0 → IsOpen (room_of s)
    → s.used ≡ 0 → Shows s (pending waited)
shows_none s waited none waits_is filled_is unclosed used_is =
    let here : pending s.waiting.now ≡ [] = ap (λ (v : Waiting). pending v) waits_is ∙ none in
    record {
      given = [];
      filled = record {
        records_are = ap (λ (n : ℕ). map unplaced (take n s.records.now)) filled_is;
        texts_are = ap (λ (n : ℕ). take n s.texts.now) used_is;
      };
      all = none ∙ sym here;
      in_order = λ _. here;
      unclosed = λ _. unclosed;
      full = λ some. absurd (some here);
    }

-- Two records are added at once, of the end of a message and of the start of the next: with the first alone the sink is in between.
pub two_taken : (s new : RecordSink) (a b : Record) (t : ℕ) → s.filled + 1 < s.limit → unplaced a ≡ record_of 0 MessageEnd
    → unplaced b ≡ record_of 0 (MessageStart t) → new.records.ghost_name ≡ s.records.ghost_name
    → new.texts ≡ s.texts → new.waiting ≡ s.waiting → new.used ≡ s.used → new.limit ≡ s.limit → new.filled ≡ s.filled + 2
    → new.records.now ≡ slice_set (slice_set s.records.now s.filled a) (s.filled + 1) b
    → (between : RecordSink) × TakesRecord s MessageEnd between × TakesRecord between (MessageStart t) new
two_taken s new a b t room is_end is_start records texts waiting used limit filled records_now =
    let inside : s.filled + 1 < length s.records.now = let within = s.limit_within in omega (arith, within, room) in
    let one : List Record = slice_set s.records.now s.filled a in
    let long : length one ≡ length s.records.now = length-set s.records.now s.filled a in
    let between : RecordSink = record s {
      records = record s.records { now = one };
      filled = s.filled + 1;
      filled_within = omega (arith, room);
      limit_within = let within = s.limit_within in omega (arith, within, long);
    } in (
      between,
      record {
        same = record { records = refl; texts = refl; waiting = refl; long = long };
        grows = omega arith;
        shows = shows_put s between MessageEnd (length (texts_in (room_of s))) a [] refl is_end refl (record {
          had_room = omega (arith, room);
          grows = omega arith;
          limit = refl;
          long = long;
          records = take_more_set s.records.now s.filled a (omega (arith, inside));
          texts = sym (append-nil (texts_in (room_of s)));
        }) refl;
      },
      record {
        same = record {
          records = records;
          texts = ap (λ (x : MutBor (List ℕ)). x.ghost_name) texts;
          waiting = ap (λ (x : MutBor Waiting). x.ghost_name) waiting;
          long = ap length records_now ∙ length-set one (s.filled + 1) b;
        };
        grows = omega (arith, filled);
        shows = shows_put between new (MessageStart t) (length (texts_in (room_of between))) b [] refl is_start refl (record {
          had_room = room;
          grows = omega (arith, filled);
          limit = limit;
          long = ap length records_now ∙ length-set one (s.filled + 1) b;
          records = ap (λ (n : ℕ). take n new.records.now) (filled ∙ more s.filled) ∙ ap (take (s.filled + 1 + 1)) records_now
              ∙ take_more_set one (s.filled + 1) b (omega (arith, inside, long));
          texts = ap (λ (n : ℕ). take n new.texts.now) used ∙ ap (λ (x : MutBor (List ℕ)). take s.used x.now) texts
              ∙ sym (append-nil (texts_in (room_of s)));
        }) (ap (λ (x : MutBor Waiting). x.now) waiting);
      },
    )
  where
    more : (n : ℕ) → n + 2 ≡ n + 1 + 1
    more n = omega arith
