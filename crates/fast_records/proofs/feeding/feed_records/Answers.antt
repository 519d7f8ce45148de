use Rattle.std.proofs.Common.{rules, arith, ◌≡◌, ◌-◌, ◌≤◌, length, ap, sym, subst, ◌∙◌}
use Rattle.std.specs.Prelude.{is_some}
use Rattle.std.proofs.lemmas.Grind.{common_steps}
use Rattle.fast_stream.specs.meaning.Account.{Account}
use Rattle.fast_decoder.specs.meaning.Decoding.{tree, account}
use Rattle.fast_records.specs.declared.sink.RecordSink.{RecordSink}
use Rattle.fast_records.specs.meaning.Waiting.{pending}
use Rattle.fast_records.specs.meaning.Sink.{Shows, IsSameSink}
use Rattle.fast_records.proofs.Delivering.{listed, same_stopped, gives_by, full_by, delivers_by, room_by, outcome_by, outcome_stopped}
use Rattle.fast_records.proofs.Delivering.{consumed_by, few_by, progress_by}
use Rattle.fast_records.proofs.feeding.feed_records.Goals as goal

module _ (c : goal.After-outcome_of) (same : IsSameSink c.new-sink.result c.feed.new.sink) where
  -- what the sink holds at its end is what the caller has back
  records_back : c.records-1.given.0 ≡ c.feed.new.sink.records.now
  records_back = let records = same.records ∙ c.new-sink.ensures.records in search (rules, records)

  texts_back : c.texts-1.given.0 ≡ c.feed.new.sink.texts.now
  texts_back = let texts = same.texts ∙ c.new-sink.ensures.texts in search (rules, texts)

  waiting_back : c.waiting-1.given.0 ≡ c.feed.new.sink.waiting.now
  waiting_back = let waiting = same.waiting ∙ c.new-sink.ensures.waiting in search (rules, waiting)

  room : (c.filled-filled.result ≤ length c.records-1.given.0) × (c.used.result ≤ length c.texts-1.given.0)
  room = room_by c.feed.new.sink c.records-1.given.0 c.texts-1.given.0 c.filled-filled.result c.used.result records_back texts_back
      c.filled-filled.ensures c.used.ensures.used

within : (c : goal.After-outcome_of) → c.fed_at_once.result ≤ length c.args.piece.now
within c = c.fed_at_once.ensures.within

pub returns-clause-delivers : goal.returns-clause-delivers
returns-clause-delivers c w es so =
    let old = c.args.decoder.now in let s' = c.feed.new.sink in let fed = c.feed.ensures in let left = c.left.ensures in
    let x = listed old c.feed.new.self w es _ (pending c.args.waiting.now) c.new-sink.result s' c.new-sink.ensures.shows
    fed.same_set.0 fed.same_set.1 c.feed.result (fed.carried w es so) (fed.followed w es so) in
    delivers_by (tree old) old.limits w es c.args.piece.now _ c.fed_at_once.result
    (pending c.args.waiting.now) c.feed.result c.feed.new.self c.new-sink.result s' c.records-1.given.0 c.texts-1.given.0
    c.waiting-1.given.0 c.filled-filled.result c.used.result
    (grind (arith, common_steps)) (within c) x fed.answer (records_back c x.same) (texts_back c x.same)
    (waiting_back c x.same) c.filled-filled.ensures c.used.ensures.used c.new-sink.ensures.shows
    (λ some. let half = c.fed_at_once.ensures.half in omega (arith, some, half, left))

pub returns-clause-room : goal.returns-clause-room
returns-clause-room c w es so =
    let fed = c.feed.ensures in
    let x = listed c.args.decoder.now c.feed.new.self w es _
    (pending c.args.waiting.now) c.new-sink.result c.feed.new.sink c.new-sink.ensures.shows fed.same_set.0 fed.same_set.1
    c.feed.result (fed.carried w es so) (fed.followed w es so) in
    room c x.same

pub returns-clause-full : goal.returns-clause-full
returns-clause-full c w es so some =
    let s' = c.feed.new.sink in let fed = c.feed.ensures in
    let x = listed c.args.decoder.now c.feed.new.self w es _
    (pending c.args.waiting.now) c.new-sink.result s' c.new-sink.ensures.shows fed.same_set.0 fed.same_set.1 c.feed.result
    (fed.carried w es so) (fed.followed w es so) in
    full_by s' _ c.records-1.given.0 c.texts-1.given.0 c.waiting-1.given.0 c.filled-filled.result c.used.result x.shows
    (records_back c x.same) (texts_back c x.same) (waiting_back c x.same) c.filled-filled.ensures c.used.ensures.used some

pub returns-clause-outcome : goal.returns-clause-outcome
returns-clause-outcome c w es so =
    let fed = c.feed.ensures in
    let x = listed c.args.decoder.now c.feed.new.self w es _
    (pending c.args.waiting.now) c.new-sink.result c.feed.new.sink c.new-sink.ensures.shows fed.same_set.0 fed.same_set.1
    c.feed.result (fed.carried w es so) (fed.followed w es so) in
    outcome_by c.outcome_of.result c.waits.result c.is_nothing.result _ _ c.feed.new.self c.waiting-1.given.0
    c.feed.new.sink.waiting.now c.outcome_of.ensures c.waits.ensures (waiting_back c x.same) c.is_nothing.ensures

pub returns-clause-progress : goal.returns-clause-progress
returns-clause-progress c w es so no_room =
    let old = c.args.decoder.now in let s = c.new-sink.result in let s' = c.feed.new.sink in let fed = c.feed.ensures in
    let left = c.left.ensures in
    let x = listed old c.feed.new.self w es _ (pending c.args.waiting.now) s s' c.new-sink.ensures.shows fed.same_set.0
    fed.same_set.1 c.feed.result (fed.carried w es so) (fed.followed w es so) in
    let outcome = outcome_by c.outcome_of.result c.waits.result c.is_nothing.result _ _ c.feed.new.self
    c.waiting-1.given.0 s'.waiting.now c.outcome_of.ensures c.waits.ensures (waiting_back c x.same) c.is_nothing.ensures in
    progress_by s s' (pending c.args.waiting.now) x.more c.records-1.given.0 c.texts-1.given.0 c.waiting-1.given.0 c.filled-filled.result
    c.used.result (c.consumed.result - c.consumed-before.result) (length c.args.piece.now) c.feed.new.self
    c.outcome_of.result c.new-sink.ensures.shows x.shows x.same x.grows (records_back c x.same) (texts_back c x.same)
    (waiting_back c x.same) c.filled-filled.ensures c.used.ensures.used outcome no_room
    (λ none zero some.
    let whole = consumed_by old c.feed.new.self w es c.args.piece.now _ c.fed_at_once.result
    (pending c.args.waiting.now) c.feed.result s s' (grind (arith, common_steps)) (within c) so x fed.answer fed.stopped none in
    let none_fed : c.fed_at_once.result ≡ 0 = omega (arith, whole, c.consumed.ensures, c.consumed-before.ensures, zero) in
    let free = c.fed_at_once.ensures.all (omega (arith, none_fed, some)) in
    omega (arith, none_fed, free, left))

pub returns-clause-few : goal.returns-clause-few
returns-clause-few c w es so =
    let old = c.args.decoder.now in let s = c.new-sink.result in let s' = c.feed.new.sink in let fed = c.feed.ensures in
    let left = c.left.ensures in
    let x = listed old c.feed.new.self w es _ (pending c.args.waiting.now) s s' c.new-sink.ensures.shows fed.same_set.0
    fed.same_set.1 c.feed.result (fed.carried w es so) (fed.followed w es so) in
    let most = few_by old c.feed.new.self c.args.piece.now _ c.fed_at_once.result (grind (arith, common_steps)) (within c) fed.consumed in
    let half = c.fed_at_once.ensures.half in
    omega (arith, most, c.consumed.ensures, c.consumed-before.ensures, half, left, s.limit_within, x.same.long, ap length (records_back c x.same))

nothing_taken : (c : goal.After-outcome_of) → account c.feed.new.self ≡ account c.args.decoder.now → c.consumed.result - c.consumed-before.result ≡ 0
nothing_taken c told = let count = ap (λ (a : Account). a.consumed) told in omega (arith, c.consumed.ensures, c.consumed-before.ensures, count)

pub returns-clause-waited : goal.returns-clause-waited
returns-clause-waited c f is =
    let s' = c.feed.new.sink in let waited = pending c.args.waiting.now in
    let (told, heard) = c.feed.ensures.stopped (ap is_some is) in
    let same = same_stopped c.new-sink.result s' heard in
    let shown = subst (λ (s : RecordSink). Shows s waited) (sym heard) c.new-sink.ensures.shows in
    let nothing = nothing_taken c told in
    record {
      nothing = nothing;
      room = room c same;
      gives = gives_by s' waited c.records-1.given.0 c.texts-1.given.0 c.waiting-1.given.0 c.filled-filled.result c.used.result shown
          (records_back c same) (texts_back c same) (waiting_back c same) c.filled-filled.ensures c.used.ensures.used;
      full = full_by s' waited c.records-1.given.0 c.texts-1.given.0 c.waiting-1.given.0 c.filled-filled.result c.used.result shown
          (records_back c same) (texts_back c same) (waiting_back c same) c.filled-filled.ensures c.used.ensures.used;
      outcome = outcome_stopped c.outcome_of.result _ _ _ c.filled-filled.result f c.feed.new.self
          (outcome_by c.outcome_of.result c.waits.result c.is_nothing.result _ _ c.feed.new.self
          c.waiting-1.given.0 s'.waiting.now c.outcome_of.ensures c.waits.ensures
          (waiting_back c same) c.is_nothing.ensures)
          (ap (λ (a : Account). a.fault) told ∙ is) nothing;
    }
