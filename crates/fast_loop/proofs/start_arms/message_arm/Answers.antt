-- The end of the message: the next one begins, or the machine waits for it, or the sink stops.
use Rattle.std.proofs.Common.{refl, ap}
use Rattle.std.specs.Prelude.{Err}
use Rattle.fast_dict.specs.meaning.Slots.{slots_dictionary}
use Rattle.fast_stream.specs.meaning.Events.{MessageEnd}
use Rattle.fast_stream.specs.declared.faults.FaultCode.TheVariants.{SinkStopped}
use Rattle.fast_stream.specs.device.Readers.{Done}
use Rattle.fast_machine.specs.declared.machine.Machine.{Machine}
use Rattle.fast_machine.specs.device.Positions.{placed, set_of, turning}
use Rattle.fast_loop.proofs.arms.Ends.{placed_turn}
use Rattle.fast_machine.proofs.steps.SegmentTurns.{message_end, turn_halt}
use Rattle.fast_machine.proofs.steps.TurnCounts.{turns_taken}
use Rattle.fast_loop.proofs.start_arms.message_arm.Goals as goal

pub returns-in-Err : goal.returns-in-Err
returns-in-Err g c = record {
  went = λ m same counts.
      let takes = g.S.Sink.takes in
      let stops = g.S.Sink.stops in
      let set = set_of c.args.templates.now in
      let l = c.args.limits in
      let from = c.args.spot.now in
      let a : Machine = placed c.args.machine.now from.place in (
        0,
        refl,
        c.requires.place,
        placed_turn takes stops set l m a from (ap (λ (y : Machine). placed y from.place) same) counts c.args.sink.now
            (Err SinkStopped) c.hand_end.new.sink a (λ e. cc e)
            (turn_halt takes stops set l (turning set l a) (Done (slots_dictionary a.slots)) MessageEnd c.args.sink.now SinkStopped c.hand_end.new.sink a
            (message_end set l a c.requires.end c.requires.outermost) (refl, c.in-Err.ensures.1) c.requires.turn.supplied)
            (λ way k h. turns_taken way set l k a.turns.count a.counted a.cursor h),
      );
}
