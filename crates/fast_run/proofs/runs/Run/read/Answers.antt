use Rattle.std.proofs.Common.{◌≡◌, ◌⊎◌, ℕ, ◌<◌, ◌≤◌, Bool, true, false, List, [], ◌++◌, Some, Ok, Err, refl, sym, ap, inl, inr, length}
use Rattle.std.proofs.Common.{length-take, take, arith, ◌∙◌, append-nil, rules}
use Rattle.std.specs.Prelude.{IsTrue, is_some}
use Rattle.std.specs.Io.KnownBytes.{IsAtEnd}
use Rattle.fast_decoder.specs.meaning.Decoding.{tree}
use Rattle.fast_text.proofs.Writing.{reads_none, reads_both, reads_no_more}
use Rattle.fast_select.proofs.Chosen.{gives_flushed}
use Rattle.fast_command.proofs.Showing.{at_good, at_error}
use Rattle.fast_command.proofs.Progressing.{no_fault, this_fault}
use Rattle.fast_run.proofs.Running.{no_round, so_far, enough, at_end, round_more, bad_character_ends, fault_ends, round_counts, round_has_room}
use Rattle.fast_run.proofs.runs.Run.read.Goals as goal

pub loop-read-init : goal.loop-read-init
loop-read-init g c = no_round _ _ _ _ _ c.args.self.now c.args.output.now _ c.requires.begun c.requires.fresh

pub returns-then-is_full : goal.returns-then-is_full
returns-then-is_full g c =
    let h = c.loop-read.invariant in
    (h.text, h.read, inr (enough _ _ _ _ _ _ _ _ _ _ _ _ h (sym c.is_full.ensures ∙ c.if-is_full.true)))

pub returns-then-is_err : goal.returns-then-is_err
returns-then-is_err g c =
    let h = c.loop-read.invariant in
    (h.text, h.read, at_error c.flush.result (sym c.if-is_err.ensures.value) c.flush.ensures.fails)

pub returns-in-Err : goal.returns-in-Err
returns-in-Err g c =
    let h = c.loop-read.invariant in
    let flushed = at_good c.flush.result (sym c.if-is_err.ensures.value) c.flush.ensures.flushed in
    let it = so_far _ _ _ _ _ c.args.output.now.chooser _ _ _ _ _ _ h.progress (gives_flushed _ _ _ _ _ _ h.given flushed) in
    (h.text, reads_no_more _ _ _ h.text h.read c.in-Err.ensures.kept, (it.0, it.1, inl c.in-Err.ensures.fails))

pub returns-then-count-eq0 : goal.returns-then-count-eq0
returns-then-count-eq0 g c =
    let h = c.loop-read.invariant in
    let flushed = at_good c.flush.result (sym c.if-is_err.ensures.value) c.flush.ensures.flushed in
    let none : take c.in-Ok.count c.read.new.buf ≡ [] = ap (λ (n : ℕ). take n c.read.new.buf) c.if-count-eq0.true in
    let given = rw none at c.in-Ok.ensures.bytes in
    let room : 0 < length c.read.new.buf = omega (arith, c.read.auto.buf) in
    let over = c.in-Ok.ensures.end c.if-count-eq0.true room in (
      h.text,
      reads_no_more _ _ _ h.text h.read given,
      at_end _ _ _ _ _ c.args.output.now.chooser _ _ _ _ _ _ h.text h.bytes h.events
          c.end.result (gives_flushed _ _ _ _ _ _ h.given flushed) over (c.end.ensures _ _ _ h.text h.bytes h.events h.progress),
    )

pub returns : goal.returns
returns g c =
    let h = c.loop-read.invariant in
    let many : c.args.max_reads ≤ length h.text = let all = h.many in omega arith in
    let it = so_far _ _ _ _ _ c.args.output.now.chooser _ _ _ _ _ _ h.progress h.given in
    (h.text, h.read, (it.0, it.1, inr many))

pub feed-requires-clause-few : goal.feed-requires-clause-few
feed-requires-clause-few g c = omega (arith, length-take c.in-Ok.count c.read.new.buf, c.read.auto.buf)

pub feed-requires-clause-room : goal.feed-requires-clause-room
feed-requires-clause-room g c =
    let small : length (take c.in-Ok.count c.read.new.buf) ≤ 4096 = omega (arith, length-take c.in-Ok.count c.read.new.buf, c.read.auto.buf) in
    round_has_room _ _ _ _ _ _ _ _ _ _ c.args.max_reads _ _ _ c.loop-read.invariant c.loop-read-test.true c.requires.few small

pub returns-in-Err-feed : goal.returns-in-Err-feed
returns-in-Err-feed g c =
    let h = c.loop-read.invariant in
    let flushed = at_good c.flush.result (sym c.if-is_err.ensures.value) c.flush.ensures.flushed in
    let piece = take c.in-Ok.count c.read.new.buf in
    let small : length (take c.in-Ok.count c.read.new.buf) ≤ 4096 = omega (arith, length-take c.in-Ok.count c.read.new.buf, c.read.auto.buf) in
    let counted = round_counts _ _ _ _ _ _ _ _ _ _ c.args.max_reads _ _ _ h c.loop-read-test.true c.requires.few small in
    let fed = c.in-Err-feed.ensures.fed h.text h.bytes h.events h.progress.so h.progress.taken in (
      h.text ++ piece,
      reads_both _ _ _ h.text piece h.read c.in-Ok.ensures.bytes,
      rw (c.ending_at.ensures, c.is_full-full.ensures) (fault_ends _ _ _ _ _ _ c.args.output.now.chooser _ _ _ _ _ _ _ _ _ _ h.text
          h.bytes piece h.events c.in-Err-feed.fault h.progress h.given flushed h.chooser
          (sym c.is_full.ensures ∙ c.if-is_full.false) c.feed.ensures.same_set c.feed.ensures.hex
          (this_fault _ _ c.in-Err-feed.ensures.answer) counted (λ old e stops. g.met.O.Output.stops_failed old e _ stops) fed),
    )

pub returns-in-Some : goal.returns-in-Some
returns-in-Some g c =
    let h = c.loop-read.invariant in
    let flushed = at_good c.flush.result (sym c.if-is_err.ensures.value) c.flush.ensures.flushed in
    let piece = take c.in-Ok.count c.read.new.buf in
    let some : 0 < length (take c.in-Ok.count c.read.new.buf) = omega (arith, length-take c.in-Ok.count c.read.new.buf, c.in-Ok.ensures.count) in
    let small : length (take c.in-Ok.count c.read.new.buf) ≤ 4096 = omega (arith, length-take c.in-Ok.count c.read.new.buf, c.read.auto.buf) in
    let fed = c.in-Ok-feed.ensures.fed h.text h.bytes h.events h.progress.so h.progress.taken in
    let r = round_more _ _ _ _ _ _ _ _ _ _ _ _ _ _ _ _ _ piece tt h flushed c.in-Ok.ensures.bytes some small c.feed.ensures.same_set
    c.feed.ensures.hex (no_fault _ tt c.in-Ok-feed.ensures.answer) fed in
    (r.text, r.read, bad_character_ends _ _ _ _ _ _ _ _ _ _ _ _ _ r c.in-Some.ensures.found)

pub loop-read-preserved : goal.loop-read-preserved
loop-read-preserved g c =
    let h = c.loop-read.invariant in
    let flushed = at_good c.flush.result (sym c.if-is_err.ensures.value) c.flush.ensures.flushed in
    let piece = take c.in-Ok.count c.read.new.buf in
    let some : 0 < length (take c.in-Ok.count c.read.new.buf) = omega (arith, length-take c.in-Ok.count c.read.new.buf, c.in-Ok.ensures.count) in
    let small : length (take c.in-Ok.count c.read.new.buf) ≤ 4096 = omega (arith, length-take c.in-Ok.count c.read.new.buf, c.read.auto.buf) in
    let fed = c.in-Ok-feed.ensures.fed h.text h.bytes h.events h.progress.so h.progress.taken in
    round_more _ _ _ _ _ _ _ _ _ _ _ _ _ _ _ _ _ piece tt h flushed c.in-Ok.ensures.bytes some small c.feed.ensures.same_set
    c.feed.ensures.hex (no_fault _ tt c.in-Ok-feed.ensures.answer) fed
