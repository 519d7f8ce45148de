-- The length, or none.
use Rattle.std.proofs.Common.{sym, ap, ◌∙◌, subst}
use Rattle.std.specs.Prelude.{◌≡◌, ℕ, Option, None, option_map, List, length, slice_get, Some}
use Rattle.fast_value.specs.meaning.Kinds.{U}
use Rattle.fast_value.specs.meaning.Limits.{bounds}
use Rattle.fast_stream.specs.meaning.Messages.{within_limits}
use Rattle.fast_tree.specs.meaning.Nodes.{field_data}
use Rattle.fast_cursor.specs.device.Places.{at_place, place_left}
use Rattle.fast_machine.specs.device.Positions.{placed, set_of, run_in}
use Rattle.fast_loop.specs.device.Arms.{IsLengthTaken}
use Rattle.fast_tree.specs.meaning.Numbers.{numbers_of, AreBelow}
use Rattle.fast_machine.specs.declared.machine.Turn.TheVariants.{Silent}
use Rattle.fast_loop.proofs.arms.Lengths.{sequence_taken, absent_step}
use Rattle.fast_loop.proofs.arms.Before.{first_some}
use Rattle.fast_loop.proofs.arms.Taken.{took_handed}
use Rattle.fast_loop.proofs.segment_arms.sequence_arm.Goals as goal

pub returns-in_default-claimed : goal.returns-in_default-claimed
returns-in_default-claimed g c = record {
  went =
      let takes = g.S.Sink.takes in
      let stops = g.S.Sink.stops in
      let set = set_of c.args.templates.now in
      let l = c.args.limits in
      let m = c.args.machine.now in
      let from = c.args.spot.now in
      let h = sequence_taken c.args.templates.now l m from c.args.op.now c.from-node.result c.node.result.now c.in-Sequence.length
      c.in-Sequence.body (run_in set c.body_start-start.result) c.args.optional c.in-Some.claimed c.in-Some.bytes
      c.requires.spot c.requires.op c.from-node.ensures c.node.ensures.found c.in-Sequence.is
      ((c.body_start-start.ensures c.node.result.now c.node.ensures.found).nodes ∙ ap numbers_of c.in-Sequence.is) c.in-Some.ensures in
      let none : option_map U c.in-Some.claimed ≡ None = ap (option_map U) c.in_default-claimed.is in (
        c.in-Some.bytes,
        h.some,
        record {
          rest = c.skip-spot.ensures;
          waits = c.requires.spot.waits;
          place = c.advance.ensures.place m.cursor c.requires.spot.place;
          step = took_handed takes stops set l (placed m from.place) _ from.rest.bytes.now c.args.sink.now c.in-Some.bytes Silent c.args.sink.now
              h.some (λ e. cc e)
              (absent_step takes stops set l m from c.from-node.result (field_data c.in-Sequence.length)
              (run_in set c.body_start-start.result) (option_map U c.in-Some.claimed) c.in-Some.bytes h c.after-machine.result
              c.after-machine.ensures
              (at_place m.cursor c.advance.new.self) (c.advance.ensures.left m.cursor) none c.args.sink.now);
        },
      );
}

pub elements_arm-requires-clause-length : goal.elements_arm-requires-clause-length
elements_arm-requires-clause-length g c =
    let set = set_of c.args.templates.now in
    let l = c.args.limits in
    let m = c.args.machine.now in
    let from = c.args.spot.now in
    let claimed = c.in-Some-claimed.claimed in
    let h = sequence_taken c.args.templates.now l m from c.args.op.now c.from-node.result c.node.result.now c.in-Sequence.length
    c.in-Sequence.body (run_in set c.body_start-start.result) c.args.optional c.in-Some.claimed c.in-Some.bytes
    c.requires.spot c.requires.op c.from-node.ensures c.node.ensures.found c.in-Sequence.is
    ((c.body_start-start.ensures c.node.result.now c.node.ensures.found).nodes ∙ ap numbers_of c.in-Sequence.is) c.in-Some.ensures in (
      field_data c.in-Sequence.length,
      claimed,
      subst (λ (x : Option ℕ). IsLengthTaken set l m from c.from-node.result (field_data c.in-Sequence.length)
          (run_in set c.body_start-start.result) (option_map U x) c.in-Some.bytes) c.in-Some-claimed.is h,
      sym (c.in-Ok.ensures.count ∙ ap (within_limits (bounds l) m.counted) c.from.ensures),
    )

pub elements_arm-requires-clause-run : goal.elements_arm-requires-clause-run
elements_arm-requires-clause-run g c = (c.body_start-start.ensures c.node.result.now c.node.ensures.found).run

pub elements_arm-requires-clause-below : goal.elements_arm-requires-clause-below
elements_arm-requires-clause-below g c = subst (λ (ns : List ℕ). AreBelow (length (set_of c.args.templates.now).nodes) ns)
    (sym (c.body_start-start.ensures c.node.result.now c.node.ensures.found).nodes) (λ i inside. (c.node.ensures.body i inside).1)

pub unreachable-requires : goal.unreachable-requires
unreachable-requires g c =
    let (own, inside, is, operator, absent) = c.requires.op.is c.node.result.now
    (subst (λ (i : ℕ). slice_get (set_of c.args.templates.now).nodes i ≡ Some c.node.result.now) c.from-node.ensures
    c.node.ensures.found) in
    c.in_default.not-Sequence own inside is

pub advance-requires : goal.advance-requires
advance-requires g c = first_some (place_left c.args.spot.now.place) c.args.op.now.node c.requires.op.first
