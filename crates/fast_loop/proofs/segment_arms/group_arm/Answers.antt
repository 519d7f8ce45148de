-- The group's bit, if it has one.
use Rattle.std.proofs.Common.{refl, sym, subst, ap, ◌∙◌}
use Rattle.std.specs.Prelude.{ℕ, List, length}
use Rattle.fast_tree.specs.meaning.Numbers.{numbers_of, AreBelow}
use Rattle.fast_cursor.specs.device.Places.{at_place}
use Rattle.fast_machine.specs.device.Positions.{set_of, run_in, IsAtGroup}
use Rattle.fast_loop.proofs.arms.Groups.{group_here, group_always, group_by_bit, absent_group}
use Rattle.fast_loop.proofs.segment_arms.group_arm.Goals as goal

pub enter_arm-requires-clause-next : goal.enter_arm-requires-clause-next
enter_arm-requires-clause-next g c =
    let set = set_of c.args.templates.now in
    let next = group_here c.args.templates.now c.args.machine.now.cursor c.args.spot.now.place c.args.op.now c.from-node.result
    c.node.result.now c.in-Group.optional c.in-Group.body (run_in set c.body_start-start.result) c.args.optional
    c.requires.op c.from-node.ensures c.node.ensures.found c.in-Group.is
    ((c.body_start-start.ensures c.node.result.now c.node.ensures.found).nodes ∙ ap numbers_of c.in-Group.is) in
    (c.args.optional, next)

pub returns-then-not-optional : goal.returns-then-not-optional
returns-then-not-optional g c =
    let set = set_of c.args.templates.now in
    let m = c.args.machine.now in
    let next = group_here c.args.templates.now m.cursor c.args.spot.now.place c.args.op.now c.from-node.result c.node.result.now
    c.in-Group.optional c.in-Group.body (run_in set c.body_start-start.result) c.args.optional
    c.requires.op c.from-node.ensures c.node.ensures.found c.in-Group.is
    ((c.body_start-start.ensures c.node.result.now c.node.ensures.found).nodes ∙ ap numbers_of c.in-Group.is) in
    record {
      went = c.enter_arm.ensures.went c.args.spot.now
          (group_always set c.args.limits m c.args.spot.now c.from-node.result (run_in set c.body_start-start.result)
          (subst (λ b. IsAtGroup set (at_place m.cursor c.args.spot.now.place) c.from-node.result b (run_in set c.body_start-start.result))
          c.if-not-optional.true next));
    }

pub returns-then-not-bit : goal.returns-then-not-bit
returns-then-not-bit g c =
    let set = set_of c.args.templates.now in
    let m = c.args.machine.now in
    let next = group_here c.args.templates.now m.cursor c.args.spot.now.place c.args.op.now c.from-node.result c.node.result.now
    c.in-Group.optional c.in-Group.body (run_in set c.body_start-start.result) c.args.optional
    c.requires.op c.from-node.ensures c.node.ensures.found c.in-Group.is
    ((c.body_start-start.ensures c.node.result.now c.node.ensures.found).nodes ∙ ap numbers_of c.in-Group.is) in
    record {
      went = record {
        rest = refl;
        waits = c.requires.spot.waits;
        place = c.pass.ensures.place m.cursor c.requires.spot.place;
        step = absent_group g.S.Sink.takes g.S.Sink.stops set c.args.limits m c.args.spot.now c.after-machine.result
            c.after-machine.ensures c.from-node.result (run_in set c.body_start-start.result) c.pass.new.self c.requires.spot.can
            (subst (λ b. IsAtGroup set (at_place m.cursor c.args.spot.now.place) c.from-node.result b
            (run_in set c.body_start-start.result)) c.if-not-optional.false next)
            (sym (c.bit.ensures.is m.cursor c.requires.spot.place (c.bit.ensures.clear c.if-not-bit.true)) ∙ c.if-not-bit.true)
            (c.pass.ensures.past m.cursor) (c.pass.ensures.bits m.cursor c.requires.spot.place) c.args.sink.now;
      };
    }

pub enter_arm-requires-2-clause-next : goal.enter_arm-requires-2-clause-next
enter_arm-requires-2-clause-next g c =
    let set = set_of c.args.templates.now in
    let m = c.args.machine.now in
    let next = group_here c.args.templates.now m.cursor c.args.spot.now.place c.args.op.now c.from-node.result c.node.result.now
    c.in-Group.optional c.in-Group.body (run_in set c.body_start-start.result) c.args.optional
    c.requires.op c.from-node.ensures c.node.ensures.found c.in-Group.is
    ((c.body_start-start.ensures c.node.result.now c.node.ensures.found).nodes ∙ ap numbers_of c.in-Group.is) in (
      c.args.optional,
      subst (λ ns. IsAtGroup set (record m.cursor { left = ns }) c.from-node.result c.args.optional
          (run_in set c.body_start-start.result)) (sym c.use_bit.ensures.left) next,
    )

pub returns : goal.returns
returns g c =
    let set = set_of c.args.templates.now in
    let m = c.args.machine.now in
    let next = group_here c.args.templates.now m.cursor c.args.spot.now.place c.args.op.now c.from-node.result c.node.result.now
    c.in-Group.optional c.in-Group.body (run_in set c.body_start-start.result) c.args.optional
    c.requires.op c.from-node.ensures c.node.ensures.found c.in-Group.is
    ((c.body_start-start.ensures c.node.result.now c.node.ensures.found).nodes ∙ ap numbers_of c.in-Group.is) in
    record {
      went = c.enter_arm-2.ensures.went c.args.spot.now
          (group_by_bit set c.args.limits m c.args.spot.now _ c.from-node.result
          (run_in set c.body_start-start.result) refl c.use_bit.ensures.left (c.use_bit.ensures.bits m.cursor c.requires.spot.place)
          (c.use_bit.ensures.same m.cursor)
          (subst (λ b. IsAtGroup set (at_place m.cursor c.args.spot.now.place) c.from-node.result b (run_in set c.body_start-start.result))
          c.if-not-optional.false next)
          (sym (c.bit.ensures.is m.cursor c.requires.spot.place (c.is_spent.ensures.more c.if-is_spent.false)) ∙ c.if-not-bit.false));
    }

pub enter_arm-requires-clause-run : goal.enter_arm-requires-clause-run
enter_arm-requires-clause-run g c = (c.body_start-start.ensures c.node.result.now c.node.ensures.found).run

pub enter_arm-requires-clause-below : goal.enter_arm-requires-clause-below
enter_arm-requires-clause-below g c =
    let begins = (c.body_start-start.ensures c.node.result.now c.node.ensures.found) in
    subst (λ (ns : List ℕ). AreBelow (length (set_of c.args.templates.now).nodes) ns) (sym begins.nodes) (λ i inside. (c.node.ensures.body i inside).1)

pub enter_arm-requires-2-clause-run : goal.enter_arm-requires-2-clause-run
enter_arm-requires-2-clause-run g c = (c.body_start-start.ensures c.node.result.now c.node.ensures.found).run

pub enter_arm-requires-2-clause-below : goal.enter_arm-requires-2-clause-below
enter_arm-requires-2-clause-below g c =
    let begins = (c.body_start-start.ensures c.node.result.now c.node.ensures.found) in
    subst (λ (ns : List ℕ). AreBelow (length (set_of c.args.templates.now).nodes) ns) (sym begins.nodes) (λ i inside. (c.node.ensures.body i inside).1)
