-- The end of a message and the start of the next, by one call of the sink or by two.
use Rattle.std.proofs.Common.{◌≡◌, ◌+◌, refl, sym, ap, subst, inl, ◌∙◌}
use Rattle.std.specs.Prelude.{Err, take}
use Rattle.fast_value.specs.meaning.Limits.{bounds}
use Rattle.fast_dict.specs.meaning.Slots.{slots_dictionary}
use Rattle.fast_stream.specs.meaning.Events.{MessageEnd}
use Rattle.fast_stream.specs.declared.faults.FaultCode.TheVariants.{SinkStopped}
use Rattle.fast_stream.specs.device.Readers.{Done}
use Rattle.fast_stream.specs.device.GrammarReaders.{reader_of}
use Rattle.fast_machine.specs.declared.machine.Machine.{Machine}
use Rattle.fast_machine.specs.device.Positions.{placed, set_of, turning, IsTurn}
use Rattle.fast_machine.specs.device.Starts.{message_from}
use Rattle.fast_machine.specs.device.TurnsLeft.{HasTurnsBehind}
use Rattle.fast_loop.specs.declared.spot.Went.{Went}
use Rattle.fast_loop.specs.device.Arms.{begun_by}
use Rattle.fast_loop.proofs.arms.Ends.{placed_turn}
use Rattle.fast_loop.proofs.arms.Starts.{start_went}
use Rattle.fast_machine.proofs.steps.SegmentTurns.{message_end, turn_halt}
use Rattle.fast_machine.proofs.steps.TurnCounts.{turns_taken}
use Rattle.fast_loop.proofs.start_arms.start_arm.Goals as goal

pub returns-then-turn_message : goal.returns-then-turn_message
returns-then-turn_message g c = record {
  went = λ m same counts.
      let a : Machine = placed c.args.machine.now c.args.spot.now.place in
      let at : a ≡ record (placed m c.args.spot.now.place) { turns = a.turns } = ap (λ (y : Machine). placed y c.args.spot.now.place) same in
      let ahead = c.requires.ahead in
      let set = set_of c.args.templates.now in
      let from = c.args.spot.now in
      let y = c.args.machine.now in
      let both = c.if-turn_message.ensures.both in
      let b = c.message_opens in
      start_went g.S.Sink.takes g.S.Sink.stops set c.args.limits m a from at counts c.requires.turn c.requires.end c.requires.outermost
      c.args.sink.now both.0 both.1
      c.args.start.now.number 1 (slots_dictionary y.slots) b.result b.new.sink b.new.machine b.new.spot ahead
      (inl b.ensures.answer) b.ensures.rest (b.ensures.waits ∙ c.requires.waits) b.ensures.place
      (λ t found. subst (λ (w : Went). IsTurn g.S.Sink.takes g.S.Sink.stops set c.args.limits
      (reader_of c.args.limits.strict (message_from set (bounds c.args.limits) c.args.start.now.number t (slots_dictionary y.slots)
      (take 1 from.rest.bytes.now))) both.0 (begun_by w) b.new.sink (placed b.new.machine b.new.spot.place))
      (sym b.ensures.answer) (b.ensures.turn both.0 t both.2 found))
      (λ way k h. subst (λ (w : Went). HasTurnsBehind (begun_by w) way set c.args.limits (1 + k) (placed b.new.machine b.new.spot.place))
      (sym b.ensures.answer) (b.ensures.turns way k h));
}

pub returns-in-Err : goal.returns-in-Err
returns-in-Err g c = record {
  went = λ m same counts.
      let a : Machine = placed c.args.machine.now c.args.spot.now.place in
      let at : a ≡ record (placed m c.args.spot.now.place) { turns = a.turns } = ap (λ (y : Machine). placed y c.args.spot.now.place) same in
      let ahead = c.requires.ahead in
      let takes = g.S.Sink.takes in
      let stops = g.S.Sink.stops in
      let set = set_of c.args.templates.now in
      let l = c.args.limits in
      let from = c.args.spot.now in
      let x : Machine = placed c.args.machine.now from.place in (
        0,
        refl,
        c.requires.place,
        placed_turn takes stops set l m a from at counts c.args.sink.now (Err SinkStopped) c.hand_end.new.sink x (λ e. cc e)
            (turn_halt takes stops set l (turning set l a) (Done (slots_dictionary a.slots)) MessageEnd c.args.sink.now SinkStopped
            c.hand_end.new.sink x (message_end set l a c.requires.end c.requires.outermost)
            (refl, subst (λ (s : g.row.S.Denot). stops s MessageEnd c.hand_end.new.sink) c.if-turn_message.ensures.none c.in-Err.ensures.1)
            c.requires.turn.supplied)
            (λ way k h. turns_taken way set l k a.turns.count a.counted a.cursor h),
      );
}

pub returns : goal.returns
returns g c = record {
  went = λ m same counts.
      let a : Machine = placed c.args.machine.now c.args.spot.now.place in
      let at : a ≡ record (placed m c.args.spot.now.place) { turns = a.turns } = ap (λ (y : Machine). placed y c.args.spot.now.place) same in
      let ahead = c.requires.ahead in
      let set = set_of c.args.templates.now in
      let y = c.args.machine.now in
      let b = c.message_begins in
      start_went g.S.Sink.takes g.S.Sink.stops set c.args.limits m a c.args.spot.now at counts c.requires.turn c.requires.end
      c.requires.outermost c.args.sink.now c.hand_end.new.sink
      (subst (λ (s : g.row.S.Denot). g.S.Sink.takes s MessageEnd c.hand_end.new.sink) c.if-turn_message.ensures.none c.in_default.ensures)
      c.args.start.now.number 1 (slots_dictionary y.slots) b.result b.new.sink b.new.machine b.new.spot ahead b.ensures.answer
      b.ensures.rest (b.ensures.waits ∙ c.requires.waits) b.ensures.place b.ensures.turn
      b.ensures.turns;
}
