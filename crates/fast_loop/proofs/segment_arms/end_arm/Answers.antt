-- The end of a segment, and the map of what follows.
use Rattle.std.proofs.Common.{refl}
use Rattle.fast_machine.specs.declared.machine.Machine.{Machine}
use Rattle.fast_machine.specs.device.Positions.{placed, set_of}
use Rattle.fast_machine.specs.device.Opening.{opened_result, opened_by}
use Rattle.fast_loop.proofs.arms.Ends.{placed_turn}
use Rattle.fast_machine.proofs.steps.Opened.{opened_not_silent}
use Rattle.fast_loop.proofs.segment_arms.end_arm.Goals as goal

pub returns : goal.returns
returns g c = record {
  went =
      let takes = g.S.Sink.takes in
      let stops = g.S.Sink.stops in
      let set = set_of c.args.templates.now in
      let l = c.args.limits in
      let m = c.args.machine.now in
      let a : Machine = record (placed m c.args.spot.now.place) { turns = c.after-machine.result } in
      c.segment_arm.ensures.went m c.args.spot.now c.args.sink.now 0 refl refl
      (placed_turn takes stops set l m a c.args.spot.now refl c.after-machine.ensures
      c.args.sink.now (opened_result c.leave_segment-begun.result) c.leave_segment-begun.new.sink
      (opened_by c.leave_segment-begun.result c.leave_segment-begun.new.self)
      (opened_not_silent c.leave_segment-begun.result) c.leave_segment-begun.ensures.turn c.leave_segment-begun.ensures.turns);
}
