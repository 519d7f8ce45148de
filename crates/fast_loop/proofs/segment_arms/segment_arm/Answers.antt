-- The map behind the event, or the wait for it.
use Rattle.std.proofs.Common.{refl, subst, ap, sym, ◌∙◌, ◌≡◌, arith, rules}
use Rattle.std.specs.Prelude.{◌<◌, ◌+◌, ℕ, List, Result, Ok}
use Rattle.fast_stream.specs.declared.faults.FaultCode.{FaultCode}
use Rattle.fast_cursor.specs.device.Cursors.{CursorData}
use Rattle.fast_cursor.specs.device.MapTaking.{IsMapTaken}
use Rattle.fast_cursor.specs.declared.pending.MapFront.TheVariants.{Whole}
use Rattle.fast_machine.specs.declared.machine.Machine.{Machine}
use Rattle.fast_machine.specs.declared.machine.Turn.TheVariants.{Silent}
use Rattle.fast_machine.specs.device.Positions.{placed, set_of}
use Rattle.fast_machine.specs.device.Opening.{opened_result, opened_by, opened_turn, awaiting}
use Rattle.fast_machine.specs.device.Steps.{IsStep}
use Rattle.fast_loop.proofs.arms.Back.{further, mapped_step, went_took}
use Rattle.fast_loop.proofs.segment_arms.segment_arm.Goals as goal

pub returns : goal.returns
returns g c = record {
  went = λ m from s n rest answer step.
      let takes = g.S.Sink.takes in
      let stops = g.S.Sink.stops in
      let set = set_of c.args.templates.now in
      let l = c.args.limits in
      let a = c.args.machine.now in
      let width = c.in-Ok.width in
      let k = c.take_open_map-bytes.result in
      let d : CursorData = record a.cursor { map = c.take_open_map-bytes.new.machine.cursor.map } in
      let b : Machine = record a { cursor = d; turns = c.after-machine.result } in
      let some : 0 < width = search rules in
      let more : 0 < k = search rules in
      let is : record c.take_open_map-bytes.new.machine { turns = c.after-machine.result } ≡ b =
      ap (λ (x : Machine). record x { turns = c.after-machine.result }) c.take_open_map-bytes.ensures.same in
      let opened : IsStep takes stops set l (placed m from.place) from.rest.bytes.now s (record {
        bytes = n;
        turn = Ok (opened_turn width);
      }) c.args.sink.now (awaiting width a) =
      subst (λ (r : Result ℕ FaultCode). IsStep takes stops set l (placed m from.place) from.rest.bytes.now s (record {
        bytes = n;
        turn = opened_result r;
      }) c.args.sink.now (opened_by r a)) c.in-Ok.is step in
      let taken = subst (λ (w : List ℕ). IsMapTaken a.cursor.map w d.map (Whole k)) rest (c.take_open_map-bytes.ensures.map more) in
      let now : Machine = record c.take_open_map-bytes.new.machine { turns = c.after-machine.result } in
      went_took takes stops set l m from s now c.stand-2.new.self (n + k) Silent c.args.sink.now
      (record {
        at = c.stand-2.ensures.at;
        place = c.stand-2.ensures.place;
        rest = further from.rest.bytes.now c.args.spot.now.rest.bytes.now c.stand-2.new.self.rest.bytes.now n k rest c.stand-2.ensures.rest;
      })
      (ap (λ (x : Machine). x.waiting) is ∙ c.requires.waits) (omega (arith, more)) (λ e. cc e)
      (subst (λ (x : Machine). IsStep takes stops set l (placed m from.place) from.rest.bytes.now s (record {
        bytes = n + k;
        turn = Ok Silent;
      }) c.args.sink.now x) (sym is)
      (mapped_step takes stops set l (placed m from.place) a from.rest.bytes.now s c.args.sink.now n width k d c.after-machine.result c.requires.waits some
      taken (c.take_open_map-bytes.ensures.fit more) refl
      (c.after-machine.ensures ∙ ap (λ (x : Machine). x.turns.count + 1) c.take_open_map-bytes.ensures.same) opened));
}
