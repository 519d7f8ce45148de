-- The beginning of the sequence, and its first element or its end.
use Rattle.std.proofs.Common.{refl, ap, ◌∙◌}
use Rattle.std.specs.Prelude.{◌≡◌, drop, Some}
use Rattle.fast_value.specs.meaning.Kinds.{U}
use Rattle.fast_cursor.specs.device.Cursors.{CursorData}
use Rattle.fast_cursor.specs.device.Places.{at_place}
use Rattle.fast_machine.specs.device.Positions.{set_of, run_in}
use Rattle.fast_loop.proofs.arms.Back.{went_stopped}
use Rattle.fast_loop.proofs.arms.Lengths.{can_behind, stopped_step, elements_step}
use Rattle.fast_machine.proofs.steps.SegmentTurns.{width_from}
use Rattle.fast_loop.proofs.segment_arms.elements_arm.Goals as goal

pub returns-in-Err : goal.returns-in-Err
returns-in-Err g c =
    let takes = g.S.Sink.takes in
    let stops = g.S.Sink.stops in
    let set = set_of c.args.templates.now in
    let l = c.args.limits in
    let m = c.args.machine.now in
    let from = c.args.spot.now in
    let (f, claimed, h, fits) = c.requires.length in
    let is : c.advance.new.self ≡ record (at_place m.cursor from.place) { left = drop 1 (at_place m.cursor from.place).left } =
    c.advance.ensures ∙ ap (λ (x : CursorData). record x { left = drop 1 x.left }) c.set_place.ensures in
    let code = c.in-Err.field-0 in
    record {
      went = went_stopped takes stops set l m from c.args.sink.now _ c.stand.new.self c.args.bytes code c.hand.new.sink
          (record {
            at = c.stand.ensures.at;
            place = c.stand.ensures.place;
            rest = c.stand.ensures.rest ∙ c.skip-spot.ensures;
          }) c.in-Err.ensures.0
          (stopped_step takes stops set l m from c.args.node f (run_in set c.args.start)
          (Some (U claimed)) c.args.bytes h c.after-machine.result c.after-machine.ensures c.advance.new.self is claimed c.args.count
          refl fits c.requires.total
          c.args.sink.now code c.hand.new.sink c.in-Err.ensures);
    }

pub begin_element-begun-requires-clause-turn : goal.begin_element-begun-requires-clause-turn
begin_element-begun-requires-clause-turn g c =
    let set = set_of c.args.templates.now in
    let l = c.args.limits in
    let m = c.args.machine.now in
    let from = c.args.spot.now in
    let (f, claimed, h, fits) = c.requires.length in
    let is : c.advance.new.self ≡ record (at_place m.cursor from.place) { left = drop 1 (at_place m.cursor from.place).left } =
    c.advance.ensures ∙ ap (λ (x : CursorData). record x { left = drop 1 x.left }) c.set_place.ensures in
    can_behind g.S.Sink.takes g.S.Sink.stops set l m from c.args.node f (run_in set c.args.start)
    (Some (U claimed)) c.args.bytes h c.after-machine.result c.after-machine.ensures c.advance.new.self is claimed c.args.count refl
    fits c.requires.total

pub returns : goal.returns
returns g c =
    let takes = g.S.Sink.takes in
    let stops = g.S.Sink.stops in
    let set = set_of c.args.templates.now in
    let l = c.args.limits in
    let m = c.args.machine.now in
    let from = c.args.spot.now in
    let (f, claimed, h, fits) = c.requires.length in
    let is : c.advance.new.self ≡ record (at_place m.cursor from.place) { left = drop 1 (at_place m.cursor from.place).left } =
    c.advance.ensures ∙ ap (λ (x : CursorData). record x { left = drop 1 x.left }) c.set_place.ensures in
    let begun = c.begin_element-begun in
    record {
      went = c.segment_arm.ensures.went m from c.args.sink.now c.args.bytes (c.skip-spot.ensures) h.some
          (elements_step takes stops set l m from c.args.node f (run_in set c.args.start)
          (Some (U claimed)) c.args.bytes h c.after-machine.result c.after-machine.ensures c.advance.new.self is claimed c.args.count
          refl fits c.requires.total
          c.args.sink.now c.hand.new.sink begun.result begun.new.sink begun.new.self c.in_default.ensures begun.ensures.turn begun.ensures.turns);
    }

pub begin_element-begun-requires-clause-width : goal.begin_element-begun-requires-clause-width
begin_element-begun-requires-clause-width g c = width_from
    (set_of c.args.templates.now) c.args.node c.args.start c.segment_bits-width.result c.requires.node c.requires.body
    c.segment_bits-width.ensures
