-- The group's event, and its map.
use Rattle.std.proofs.Common.{refl}
use Rattle.fast_machine.specs.device.Opening.{opened_result, opened_by}
use Rattle.fast_machine.specs.device.Positions.{set_of, run_in}
use Rattle.fast_loop.proofs.arms.Groups.{entered_step}
use Rattle.fast_machine.proofs.steps.Opened.{opened_not_silent}
use Rattle.fast_loop.proofs.segment_arms.enter_arm.Goals as goal

pub returns : goal.returns
returns g c = record {
  went = λ from h.
      let takes = g.S.Sink.takes in
      let stops = g.S.Sink.stops in
      let set = set_of c.args.templates.now in
      let l = c.args.limits in
      let m = c.args.machine.now in
      let begun = c.enter_group-begun in
      let (optional, next) = c.requires.next in
      c.segment_arm.ensures.went m from c.args.sink.now 0 h.rest refl
      (entered_step takes stops set l m from c.after-machine.result c.after-machine.ensures c.args.node
      (run_in set c.args.start) c.args.spot.now h c.set_place.new.self c.set_place.ensures optional next
      c.args.sink.now (opened_result begun.result) begun.new.sink (opened_by begun.result begun.new.self)
      (opened_not_silent begun.result) begun.ensures.turn begun.ensures.turns);
}
