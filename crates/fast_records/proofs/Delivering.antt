-- What a decoder says of a sink of records, said of lists of events.
use Rattle.std.proofs.Common.{◌≡◌, ◌≢◌, ◌⊎◌, inl, inr, ℕ, zero, suc, ◌+◌, ◌-◌, ◌<◌, ◌≤◌, Bool, nat_lt, List, [], ◌∷◌, ◌++◌, length, map}
use Rattle.std.proofs.Common.{take, refl, sym, ap, subst, ◌∙◌, append_assoc, append-nil, length-append, arith, Result, Ok, Err}
use Rattle.std.specs.Prelude.{Option, Some, None, is_some, IsSome, true, false, ◌==◌, ◌&&◌}
use Rattle.std.proofs.lemmas.Bool.{ltb-false}
use Rattle.std.proofs.lemmas.Bool.Decides.{eqb_tells}
use Rattle.std.proofs.lemmas.List.{length-take-le, length-map}
use Rattle.fast_value.specs.declared.settings.Limits.{Limits}
use Rattle.fast_tree.specs.meaning.Tree.{Tree}
use Rattle.fast_stream.specs.declared.faults.Fault.{Fault}
use Rattle.fast_stream.specs.declared.faults.FaultCode.{FaultCode}
use Rattle.fast_stream.specs.declared.faults.FaultCode.TheVariants as Why
use Rattle.fast_stream.specs.meaning.Account.{Account}
use Rattle.fast_stream.specs.meaning.Events.{EventData}
use Rattle.fast_stream.specs.meaning.Sinks.{Takes}
use Rattle.fast_decoder.specs.meaning.Decoding.{DecoderData, tree, IsAt, HasRead, account, answer, Carries, CarriesAt, Carried}
use Rattle.fast_decoder.specs.meaning.Feeding.{ConsumesAtMost, Follows, FollowedAt, Followed}
use Rattle.fast_decoder.proofs.streams.Following.{carries_follow}
use Rattle.fast_records.specs.declared.records.Record.{Record}
use Rattle.fast_records.specs.declared.feeding.Outcome.{Outcome}
use Rattle.fast_records.specs.declared.feeding.Outcome.TheVariants as Came
use Rattle.fast_records.specs.declared.waiting.Waiting.{Waiting}
use Rattle.fast_records.specs.declared.sink.RecordSink.{RecordSink}
use Rattle.fast_records.specs.meaning.Records.{unplaced, event_text, texts_of, records_of}
use Rattle.fast_records.specs.meaning.Waiting.{pending}
use Rattle.fast_records.specs.meaning.Sink.{Shows, IsSameSink, TakesRecord, RefusesRecord}
use Rattle.fast_records.specs.meaning.Feeding.{Appends, Stays, Gives, OnStream, Delivers, HasNoRoom, outcome_of}

-- a list takes events
pub list_takes : (es xs : List EventData) → Takes Appends es xs (es ++ xs)
list_takes es [] = append-nil es
list_takes es (x ∷ xs) = (
  es ++ x ∷ [],
  refl,
  subst (λ (ys : List EventData). Takes Appends (es ++ x ∷ []) xs ys)
      (append_assoc es (x ∷ []) xs) (list_takes (es ++ x ∷ []) xs),
)

-- so does what a sink shows
pub shows_takes : (s s' : RecordSink) (es xs : List EventData) → Takes TakesRecord s xs s' → Shows s es → Shows s' (es ++ xs)
shows_takes s s' es [] same h = rw append-nil (subst (λ (x : RecordSink). Shows x es) (sym same) h)
shows_takes s s' es (x ∷ xs) h shown = subst (λ (ys : List EventData). Shows s' ys) (append_assoc es (x ∷ []) xs)
    (shows_takes h.0 s' (es ++ x ∷ []) xs h.2 (h.1.shows es shown))

-- and the sink stays over its buffers
pub same_takes : (s s' : RecordSink) (xs : List EventData) → Takes TakesRecord s xs s' → IsSameSink s s'
same_takes s s' [] same = subst (λ (x : RecordSink). IsSameSink s x) (sym same) (record { records = refl; texts = refl; waiting = refl; long = refl })
same_takes s s' (x ∷ xs) h =
    let rest = same_takes h.0 s' xs h.2 in let one = h.1.same in
    record {
      records = cc (rest.records, one.records);
      texts = cc (rest.texts, one.texts);
      waiting = cc (rest.waiting, one.waiting);
      long = rest.long ∙ one.long;
    }

-- and it writes no fewer records than before
grows_takes : (s s' : RecordSink) (xs : List EventData) → Takes TakesRecord s xs s' → s.filled ≤ s'.filled
grows_takes s s' [] same = let is = ap (λ (x : RecordSink). x.filled) same in omega (arith, is)
grows_takes s s' (x ∷ xs) h = let one = h.1.grows in let rest = grows_takes h.0 s' xs h.2 in omega (arith, one, rest)

-- What a sink shows behind a call, as a list that the call has brought so far.
pub record Listed (t : Tree) (l : Limits) (w : List ℕ) (es : List EventData) (fed : List ℕ) (before : List EventData)
    (r : Result Unit Fault) (new : DecoderData) (s s' : RecordSink) : Type 0 where
  pub more : List EventData
  pub shows : Shows s' (before ++ more)
  pub same : IsSameSink s s'
  pub grows : s.filled ≤ s'.filled
  pub followed : Followed Appends Stays t l w es fed before r new (before ++ more)
  pub so : OnStream r (HasRead new (w ++ fed) (es ++ more))

module _ (old new : DecoderData) (w : List ℕ) (es : List EventData) (fed : List ℕ) (before : List EventData) (s s' : RecordSink)
    (shown : Shows s before) (same_tree : tree new ≡ tree old) (same_limits : new.limits ≡ old.limits) where
  -- what was fed leads to the decoder
  abbrev Here : Result Unit Fault → Type 0
  Here r = Listed (tree old) old.limits w es fed before r new s s'

  follows_on : (h : Carries TakesRecord w es fed s new s') → Follows Appends (tree old) old.limits w es fed before new (before ++ h.more)
  follows_on h = carries_follow Appends Stays (tree old) old.limits new w es fed before (before ++ h.more) same_tree same_limits (record {
    more = h.more;
    so = h.so;
    took = list_takes before h.more;
  })

  -- at each fault
  listed_at : (c : FaultCode) (place : ℕ) → CarriesAt TakesRecord RefusesRecord old w es fed s c place new s'
      → FollowedAt TakesRecord RefusesRecord (tree old) old.limits w es fed s c place new s'
      → Here (Err (record { code = c; place = place }))
  listed_at (Why.Stream c) place h i = record {
    more = h.more;
    shows = shows_takes s s' before h.more h.took shown;
    same = same_takes s s' h.more h.took;
    grows = grows_takes s s' h.more h.took;
    followed = follows_on h;
    so = h.so;
  }
  listed_at Why.L4 place h i = record {
    more = i.given;
    shows = shows_takes s s' before i.given i.took shown;
    same = same_takes s s' i.given i.took;
    grows = grows_takes s s' i.given i.took;
    followed = record {
      before = i.before;
      unread = i.unread;
      fed_is = i.fed_is;
      place_is = i.place_is;
      many = i.many;
      given = i.given;
      end_before = i.end_before;
      until = i.until;
      took = list_takes before i.given;
      few = i.few;
    };
    so = tt;
  }
  listed_at Why.SinkStopped place h i =
      let up_to = shows_takes s i.mid before (i.earlier ++ i.given) i.took shown in
      let first = same_takes s i.mid (i.earlier ++ i.given) i.took in let last = i.stopped.same in
      record {
        more = i.earlier ++ i.given;
        shows = i.stopped.shows (before ++ (i.earlier ++ i.given)) up_to;
        same = record {
          records = cc (first.records, last.records);
          texts = cc (first.texts, last.texts);
          waiting = cc (first.waiting, last.waiting);
          long = last.long ∙ first.long;
        };
        grows = let up = grows_takes s i.mid (i.earlier ++ i.given) i.took in let end = i.stopped.grows in omega (arith, up, end);
        followed = record {
          before = i.before;
          byte = i.byte;
          unread = i.unread;
          fed_is = i.fed_is;
          place_is = i.place_is;
          earlier = i.earlier;
          given = i.given;
          refused = i.refused;
          later = i.later;
          end_before = i.end_before;
          end_after = i.end_after;
          until = i.until;
          through = i.through;
          mid = before ++ (i.earlier ++ i.given);
          took = list_takes before (i.earlier ++ i.given);
          stopped = refl;
          few = i.few;
        };
        so = tt;
      }

  -- at each answer
  pub listed : (r : Result Unit Fault) → Carried TakesRecord RefusesRecord old w es fed s r new s'
      → Followed TakesRecord RefusesRecord (tree old) old.limits w es fed s r new s' → Here r
  listed (Ok u) h i = record {
    more = h.more;
    shows = shows_takes s s' before h.more h.took shown;
    same = same_takes s s' h.more h.took;
    grows = grows_takes s s' h.more h.took;
    followed = follows_on h;
    so = h.so;
  }
  listed (Err f) h i = listed_at f.code f.place h i

-- The records and texts that a sink has written are those of the events given, and what it shows is these and then those that wait.
pub gives_by : (s : RecordSink) (es : List EventData) (records : List Record) (texts : List ℕ) (waits : Waiting) (filled used : ℕ) → Shows s es
    → records ≡ s.records.now → texts ≡ s.texts.now → waits ≡ s.waiting.now → filled ≡ s.filled → used ≡ s.used
    → Gives es (take filled records) (take used texts) (pending waits)
gives_by s es records texts waits filled used shown records_is texts_is waits_is filled_is used_is = record {
  given = shown.given;
  are_records = record {
    records_are = ap (map unplaced) (ap (λ (n : ℕ). take n records) filled_is ∙ ap (λ (rs : List Record). take s.filled rs) records_is)
        ∙ shown.filled.records_are;
    texts_are = ap (λ (n : ℕ). take n texts) used_is ∙ ap (λ (ts : List ℕ). take s.used ts) texts_is ∙ shown.filled.texts_are;
  };
  all = shown.all ∙ ap (λ (v : Waiting). shown.given ++ pending v) (sym waits_is);
}

-- The sink of a decoder that had stopped has heard nothing.
pub same_stopped : (s s' : RecordSink) → s' ≡ s → IsSameSink s s'
same_stopped s s' same = same_takes s s' [] same

-- Where one list begins as another does, and is no shorter, the rest of the other begins with the rest of this.
split : (u v x y : List EventData) → u ++ v ≡ x ++ y → length u ≤ length x → (front : List EventData) × (v ≡ front ++ y)
split [] v x y is less = (x, is)
split (e ∷ u) v [] y is less = absurd (omega (arith, less))
split (e ∷ u) v (f ∷ x) y is less = split u v x y (cc is) (omega (arith, less))

-- as many records as events
long_records : (place : ℕ) (es : List EventData) → length (records_of place es) ≡ length es
long_records place [] = refl
long_records place (e ∷ es) = ap suc (long_records (place + length (event_text e)) es)

given_long : (s : RecordSink) (es : List EventData) (h : Shows s es) → length h.given ≡ s.filled
given_long s es h =
    let taken = length-take-le s.filled s.records.now (let a = s.filled_within in let b = s.limit_within in omega (arith, a, b)) in
    sym (long_records 0 h.given) ∙ ap length (sym h.filled.records_are) ∙ length-map (take s.filled s.records.now) unplaced ∙ taken

-- While there is room for a record, all that waited is given: what waits then has come since.
pub late_by : (s s' : RecordSink) (waited more : List EventData) → Shows s waited → Shows s' (waited ++ more) → s.filled ≤ s'.filled
    → s.filled < s.limit → (front : List EventData) × (more ≡ front ++ pending s'.waiting.now)
late_by s s' waited more before after grows room =
    let all : waited ≡ before.given = before.all ∙ ap (λ (xs : List EventData). before.given ++ xs) (before.in_order room) ∙ append-nil before.given in
    let less : length waited ≤ length after.given = omega (arith, ap length all, given_long s waited before, given_long s' (waited ++ more) after, grows) in
    split waited more after.given (pending s'.waiting.now) after.all less

-- What the records and texts are, in the words of the contract.
pub delivers_by : (t : Tree) (l : Limits) (w : List ℕ) (es : List EventData) (piece fed : List ℕ) (count : ℕ) (waited : List EventData)
    (r : Result Unit Fault) (new : DecoderData) (s s' : RecordSink) (records : List Record)
    (texts : List ℕ) (waits : Waiting) (filled used : ℕ) → fed ≡ take count piece → count ≤ length piece
    → Listed t l w es fed waited r new s s' → r ≡ answer new.fault
    → records ≡ s'.records.now → texts ≡ s'.texts.now → waits ≡ s'.waiting.now → filled ≡ s'.filled → used ≡ s'.used → Shows s waited
    → (0 < count → s.filled < s.limit)
    → Delivers t l w es piece waited new (take filled records) (take used texts) (pending waits)
delivers_by t l w es piece fed count waited r new s s' records texts waits filled used fed_is within h r_is records_is texts_is waits_is
    filled_is used_is shown room =
    let x = subst (λ (q : Result Unit Fault). Listed t l w es (take count piece) waited q new s s') r_is
    (subst (λ (v : List ℕ). Listed t l w es v waited r new s s') fed_is h) in
    record {
      count = count;
      within = within;
      more = x.more;
      gives = gives_by s' (waited ++ x.more) records texts waits filled used x.shows records_is texts_is waits_is filled_is used_is;
      late = λ some. subst (λ (v : Waiting). (front : List EventData) × (x.more ≡ front ++ pending v)) (sym waits_is)
          (late_by s s' waited x.more shown x.shows x.grows (room some));
      followed = x.followed;
      so = x.so;
    }

-- what is filled of the buffers is within them
pub room_by : (s : RecordSink) (records : List Record) (texts : List ℕ) (filled used : ℕ) → records ≡ s.records.now → texts ≡ s.texts.now
    → filled ≡ s.filled → used ≡ s.used → (filled ≤ length records) × (used ≤ length texts)
room_by s records texts filled used records_is texts_is filled_is used_is =
    let longer = ap length records_is in let wider = ap length texts_is in
    (omega (arith, s.filled_within, s.limit_within, longer, filled_is), omega (arith, s.used_within, wider, used_is))

-- how a call ends, in the words of its contract
pub outcome_by : (o : Outcome) (waits nothing all none : Bool) (d : DecoderData) (v u : Waiting)
    → o ≡ outcome_of waits (answer d.fault) all nothing → waits ≡ nat_lt 0 (length (pending u)) → v ≡ u → nothing ≡ none
    → o ≡ outcome_of (nat_lt 0 (length (pending v))) (answer d.fault) all none
outcome_by o waits nothing all none d v u o_is waits_is v_is nothing_is =
    o_is ∙ ap (λ (x : Bool). outcome_of x (answer d.fault) all nothing) (waits_is ∙ ap (λ (x : Waiting). nat_lt 0 (length (pending x))) (sym v_is))
    ∙ ap (λ (x : Bool). outcome_of (nat_lt 0 (length (pending v))) (answer d.fault) all x) nothing_is

-- so where the decoder had stopped before
pub outcome_stopped : (o : Outcome) (waits all : Bool) (taken filled : ℕ) (f : Fault) (d : DecoderData)
    → o ≡ outcome_of waits (answer d.fault) all (taken == 0 && filled == 0) → d.fault ≡ Some f → taken ≡ 0
    → o ≡ outcome_of waits (Err f) false (filled == 0)
outcome_stopped o waits all taken filled f d o_is fault_is taken_is =
    o_is ∙ ap (λ (q : Option Fault). outcome_of waits (answer q) all (taken == 0 && filled == 0)) fault_is
    ∙ ap (λ (n : ℕ). outcome_of waits (Err f) all (n == 0 && filled == 0)) taken_is ∙ either waits
  where
    either : (b : Bool) → outcome_of b (Err f) all (filled == 0) ≡ outcome_of b (Err f) false (filled == 0)
    either true = refl
    either false = refl

-- What waits first has no room, in the words of the contract.
pub full_by : (s : RecordSink) (es : List EventData) (records : List Record) (texts : List ℕ) (waits : Waiting) (filled used : ℕ) → Shows s es
    → records ≡ s.records.now → texts ≡ s.texts.now → waits ≡ s.waiting.now → filled ≡ s.filled → used ≡ s.used
    → pending waits ≢ [] → HasNoRoom (length records - filled) (length texts - used) (pending waits)
full_by s es records texts waits filled used shown records_is texts_is waits_is filled_is used_is some =
    let here : pending waits ≡ pending s.waiting.now = ap (λ (v : Waiting). pending v) waits_is in
    let long : length s.records.now - s.filled ≡ length records - filled = omega (arith, ap length records_is, filled_is) in
    let wide : length s.texts.now - s.used ≡ length texts - used = omega (arith, ap length texts_is, used_is) in
    subst (λ (xs : List EventData). HasNoRoom (length records - filled) (length texts - used) xs) (sym here)
    (subst (λ (n : ℕ). HasNoRoom (length records - filled) n (pending s.waiting.now)) wide
    (subst (λ (n : ℕ). HasNoRoom n (length s.texts.now - s.used) (pending s.waiting.now)) long
    (shown.full (λ none. some (here ∙ none)))))

-- A decoder without a fault has consumed all that led to it.
consumed_all : (d : DecoderData) (w : List ℕ) (es : List EventData) → HasRead d w es → d.fault ≡ None → d.consumed ≡ length w
consumed_all d w es so none = (subst (λ (f : Option Fault). IsAt f d (length w) so.position) none so.at).1

-- So a call that ends without one has consumed what was fed.
pub consumed_by : (old new : DecoderData) (w : List ℕ) (es : List EventData) (piece fed : List ℕ) (count : ℕ) (waited : List EventData)
    (r : Result Unit Fault) (s s' : RecordSink) → fed ≡ take count piece → count ≤ length piece → HasRead old w es
    → Listed (tree old) old.limits w es fed waited r new s s' → r ≡ answer new.fault
    → (IsSome old.fault → (account new ≡ account old) × (s' ≡ s)) → new.fault ≡ None → new.consumed ≡ old.consumed + count
consumed_by old new w es piece fed count waited r s s' fed_is within so h r_is stopped none =
    let here : HasRead new (w ++ fed) (es ++ h.more) = subst
    (λ (f : Option Fault). OnStream (answer f) (HasRead new (w ++ fed) (es ++ h.more))) none
    (subst (λ (q : Result Unit Fault). OnStream q (HasRead new (w ++ fed) (es ++ h.more))) r_is h.so) in
    let size : length fed ≡ count = ap length fed_is ∙ length-take-le count piece within in
    omega (arith, consumed_all new (w ++ fed) (es ++ h.more) here none, consumed_all old w es so (before old.fault refl), length-append w fed, size)
  where
    before : (f : Option Fault) → old.fault ≡ f → old.fault ≡ None
    before None is = is
    before (Some f) is = let both : None ≡ Some f = sym none ∙ ap (λ (a : Account). a.fault) (stopped (ap is_some is)).0 ∙ is in absurd (cc both)

-- and never more than that
pub few_by : (old new : DecoderData) (piece fed : List ℕ) (count : ℕ) → fed ≡ take count piece → count ≤ length piece
    → ConsumesAtMost (length fed) old new → new.consumed ≤ old.consumed + count
few_by old new piece fed count fed_is within h =
    let size : length fed ≡ count = ap length fed_is ∙ length-take-le count piece within in
    omega (arith, h.1, size)

-- Where a call gives no record, no text was written, and nothing has waited or come if nothing waits.
module _ (s s' : RecordSink) (waited more : List EventData) (before : Shows s waited) (after : Shows s' (waited ++ more))
    (same : IsSameSink s s') (grows : s.filled ≤ s'.filled) (none_given : s'.filled ≡ 0) where
  nothing_given : after.given ≡ []
  nothing_given = by after.given (given_long s' (waited ++ more) after ∙ none_given)
    where
      by : (es : List EventData) → length es ≡ 0 → es ≡ []
      by [] is = refl
      by (e ∷ es) is = absurd (omega (arith, is))

  no_text : s'.used ≡ 0
  no_text =
      let taken = length-take-le s'.used s'.texts.now s'.used_within in
      sym taken ∙ ap length after.filled.texts_are ∙ ap (λ (es : List EventData). length (texts_of es)) nothing_given

  -- and then there is no record, if none could be given
  no_record : s.limit ≤ s.filled → pending s'.waiting.now ≡ [] → length s'.records.now ≡ 0
  no_record closed none =
      let all : waited ++ more ≡ [] = after.all ∙ ap (λ (es : List EventData). es ++ pending s'.waiting.now) nothing_given ∙ none in
      let first : waited ≡ [] = front_nothing waited more all in
      let unclosed = before.unclosed (rest_nothing before.given (pending s.waiting.now) (sym before.all ∙ first)) in
      omega (arith, unclosed, same.long, closed, grows, none_given)
    where
      front_nothing : (xs ys : List EventData) → xs ++ ys ≡ [] → xs ≡ []
      front_nothing [] ys is = refl
      front_nothing (x ∷ xs) ys is = absurd (cc is)

      rest_nothing : (xs ys : List EventData) → xs ++ ys ≡ [] → ys ≡ []
      rest_nothing [] ys is = is
      rest_nothing (x ∷ xs) ys is = absurd (cc is)

-- when a call has no room
no_room_of : (waits all nothing : Bool) (f : Option Fault) → outcome_of waits (answer f) all nothing ≡ Came.NoRoom
    → (nothing ≡ true) × ((waits ≡ true) ⊎ ((waits ≡ false) × (f ≡ None) × (all ≡ false)))
no_room_of true all true f is = (refl, inl refl)
no_room_of true all false f is = absurd (cc is)
no_room_of false true nothing None is = absurd (cc is)
no_room_of false false true None is = (refl, inr (refl, refl, refl))
no_room_of false false false None is = absurd (cc is)
no_room_of false all nothing (Some f) is = absurd (cc is)

both_zero : (m n : ℕ) → (m == 0 && n == 0) ≡ true → (m ≡ 0) × (n ≡ 0)
both_zero m n is = by (eqb_tells m 0) (eqb_tells n 0)
  where
    by : (((m == 0) ≡ true) × (m ≡ 0)) ⊎ (((m == 0) ≡ false) × (m ≢ 0)) → (((n == 0) ≡ true) × (n ≡ 0)) ⊎ (((n == 0) ≡ false) × (n ≢ 0)) → (m ≡ 0) × (n ≡ 0)
    by (inl a) (inl b) = (a.1, b.1)
    by (inl a) (inr b) = let both : true ≡ false = sym is ∙ ap (λ (x : Bool). x && n == 0) a.0 ∙ b.0 in absurd (cc both)
    by (inr a) b = let both : true ≡ false = sym is ∙ ap (λ (x : Bool). x && n == 0) a.0 in absurd (cc both)

some_of : (es : List EventData) → nat_lt 0 (length es) ≡ true → es ≢ []
some_of [] is = absurd (cc is)
some_of (e ∷ es) is = λ none. cc none

none_of : (es : List EventData) → nat_lt 0 (length es) ≡ false → es ≡ []
none_of [] is = refl
none_of (e ∷ es) is = let less = ltb-false 0 (length (e ∷ es)) is in absurd (omega (arith, less))

less_of : (m n : ℕ) → m ≡ 0 → (m == n) ≡ false → 0 < n
less_of zero zero zero_is is = absurd (cc is)
less_of zero (suc n) zero_is is = omega arith
less_of (suc m) n zero_is is = absurd (omega (arith, zero_is))

-- So the buffers are too small for what is next.
pub progress_by : (s s' : RecordSink) (waited more : List EventData) (records : List Record) (texts : List ℕ) (waits : Waiting)
    (filled used taken bytes : ℕ) (d : DecoderData) (o : Outcome)
    → Shows s waited → Shows s' (waited ++ more) → IsSameSink s s' → s.filled ≤ s'.filled → records ≡ s'.records.now → texts ≡ s'.texts.now
    → waits ≡ s'.waiting.now → filled ≡ s'.filled → used ≡ s'.used
    → o ≡ outcome_of (nat_lt 0 (length (pending waits))) (answer d.fault) (taken == bytes) (taken == 0 && filled == 0) → o ≡ Came.NoRoom
    → (d.fault ≡ None → taken ≡ 0 → 0 < bytes → s.limit ≤ s.filled) → HasNoRoom (length records) (length texts) (pending waits)
progress_by s s' waited more records texts waits filled used taken bytes d o before after same grows records_is texts_is waits_is filled_is
    used_is o_is no_room idle =
    let (nothing, why) = no_room_of (nat_lt 0 (length (pending waits))) (taken == bytes) (taken == 0 && filled == 0) d.fault (sym o_is ∙ no_room) in
    let (none_taken, none_filled) = both_zero taken filled nothing in
    by none_taken (sym filled_is ∙ none_filled) why
  where
    by : taken ≡ 0 → s'.filled ≡ 0 → (nat_lt 0 (length (pending waits)) ≡ true)
        ⊎ ((nat_lt 0 (length (pending waits)) ≡ false) × (d.fault ≡ None) × ((taken == bytes) ≡ false))
        → HasNoRoom (length records) (length texts) (pending waits)
    by none_taken none_given (inl some) =
        let used_none = no_text s s' waited more before after same grows none_given in
        let long : length records - filled ≡ length records = omega (arith, filled_is, none_given) in
        let wide : length texts - used ≡ length texts = omega (arith, used_is, used_none) in
        subst (λ (n : ℕ). HasNoRoom n (length texts) (pending waits)) long (subst (λ (n : ℕ). HasNoRoom (length records - filled) n (pending waits)) wide
        (full_by s' (waited ++ more) records texts waits filled used after records_is texts_is waits_is filled_is used_is (some_of (pending waits) some)))
    by none_taken none_given (inr (none, no_fault, part)) =
        let here = ap (λ (v : Waiting). pending v) (sym waits_is) ∙ none_of (pending waits) none in
        inl (ap length records_is ∙ no_record s s' waited more before after same grows none_given
        (idle no_fault none_taken (less_of taken bytes none_taken part)) here)
