use Rattle.std.proofs.Common.{sym, subst, refl, ap, ◌∙◌, drop}
use Rattle.fast_machine.specs.device.Positions.{set_of, run_in, turning, IsAtGroup, body_in}
use Rattle.fast_machine.specs.device.Opening.{opened_result, opened_by}
use Rattle.fast_machine.proofs.steps.FieldTurns.{turn_as}
use Rattle.fast_machine.proofs.steps.Opened.{begun_turns}
use Rattle.fast_machine.proofs.steps.SegmentTurns.{IsGroupBegun, group_there, group_present, group_absent, begun_from, group_can, group_some, group_nests}
use Rattle.fast_machine.proofs.steps.TurnCounts.{passed}
use Rattle.fast_tree.specs.meaning.Tree.{group}
use Rattle.fast_cursor.specs.device.Cursors.{CursorData}
use Rattle.fast_machine.proofs.machine.Machine.begin_group.Given.{Over}
use Rattle.fast_machine.proofs.machine.Machine.begin_group.Goals.{then-optional+else-not-bit, else-optional}
use Rattle.fast_machine.proofs.machine.Machine.begin_group.Goals as goal

-- The group begins, behind its bit or without one.
begun : (g : Over) (c : goal.After-enter_group-arg-2-1 g) → IsGroupBegun (set_of c.args.templates.now) c.args.limits c.args.self.now c.if-optional.self
    c.args.node (run_in (set_of c.args.templates.now) c.args.start)
begun g c =
    let m = c.args.self.now in
    let set = set_of c.args.templates.now in
    let body = run_in set c.args.start in
    elim c.if-optional.branch [
      | then-optional+else-not-bit w ↦ group_present set c.args.limits m c.if-optional.self w.use_bit.new.self c.args.node body
          (subst (λ b. IsAtGroup set m.cursor c.args.node b body) w.if-optional.true c.requires.next)
          (sym w.if-not-bit.ensures) w.use_bit.ensures.same w.use_bit.ensures.bits w.self-is
      | else-optional w ↦ group_there set c.args.limits m c.if-optional.self c.args.node body
          (subst (λ b. IsAtGroup set m.cursor c.args.node b body) w.if-optional.false c.requires.next) w.self-is
    ]

-- the same once it is entered
begun_open : (g : Over) (c : goal.After-open_segment g) → IsGroupBegun (set_of c.args.templates.now) c.args.limits c.args.self.now c.if-optional.self
    c.args.node (run_in (set_of c.args.templates.now) c.args.start)
begun_open g c =
    let m = c.args.self.now in
    let set = set_of c.args.templates.now in
    let body = run_in set c.args.start in
    elim c.if-optional.branch [
      | then-optional+else-not-bit w ↦ group_present set c.args.limits m c.if-optional.self w.use_bit.new.self c.args.node body
          (subst (λ b. IsAtGroup set m.cursor c.args.node b body) w.if-optional.true c.requires.next)
          (sym w.if-not-bit.ensures) w.use_bit.ensures.same w.use_bit.ensures.bits w.self-is
      | else-optional w ↦ group_there set c.args.limits m c.if-optional.self c.args.node body
          (subst (λ b. IsAtGroup set m.cursor c.args.node b body) w.if-optional.false c.requires.next) w.self-is
    ]

pub returns-then-not-bit-clause-turn : goal.returns-then-not-bit-clause-turn
returns-then-not-bit-clause-turn g c =
    let m = c.args.self.now in
    let set = set_of c.args.templates.now in
    group_absent g.S.Sink.takes g.S.Sink.stops set c.args.limits m c.use_bit.new.self c.advance.new.self c.args.node
    (run_in (set_of c.args.templates.now) c.args.start) c.args.sink.now c.requires.turn
    (subst (λ b. IsAtGroup set m.cursor c.args.node b (run_in (set_of c.args.templates.now) c.args.start)) c.if-optional.true
    c.requires.next) (sym c.if-not-bit.ensures) c.use_bit.ensures.same c.use_bit.ensures.bits c.advance.ensures

pub returns-clause-turn : goal.returns-clause-turn
returns-clause-turn g c =
    let m = c.args.self.now in
    let set = set_of c.args.templates.now in
    rw (c.open_segment.ensures.turn, c.open_segment.ensures.waits)
    (turn_as g.S.Sink.takes g.S.Sink.stops set c.args.limits (turning set c.args.limits m) _ c.args.sink.now
    (opened_result c.enter_group-begun.result) c.enter_group-begun.new.sink
    (opened_by c.enter_group-begun.result c.enter_group-begun.new.self)
    (begun_from set c.args.limits m c.if-optional.self c.args.node (run_in (set_of c.args.templates.now) c.args.start) (begun_open g c))
    c.enter_group-begun.ensures.turn)

pub returns-clause-turns : goal.returns-clause-turns
returns-clause-turns g c way n h =
    let m = c.args.self.now in
    let set = set_of c.args.templates.now in
    let (next, counted) = begun_turns way set c.args.limits n m c.if-optional.self c.args.node c.args.optional
    (run_in (set_of c.args.templates.now) c.args.start) (begun_open g c) c.requires.next h in
    rw (c.open_segment.ensures.turn, c.open_segment.ensures.waits) (c.enter_group-begun.ensures.turns way n c.args.optional next counted)

pub enter_group-begun-requires-clause-turn : goal.enter_group-begun-requires-clause-turn
enter_group-begun-requires-clause-turn g c =
    let m = c.args.self.now in
    let set = set_of c.args.templates.now in
    group_can set c.args.limits m c.if-optional.self c.args.node c.args.optional (run_in set c.args.start) c.requires.turn c.requires.next (begun g c)

pub enter_group-begun-requires-clause-left : goal.enter_group-begun-requires-clause-left
enter_group-begun-requires-clause-left g c =
    let m = c.args.self.now in
    let set = set_of c.args.templates.now in
    group_some set c.args.limits m c.if-optional.self c.args.node c.args.optional (run_in set c.args.start) c.requires.turn c.requires.next (begun g c)

pub enter_group-begun-requires-clause-nested : goal.enter_group-begun-requires-clause-nested
enter_group-begun-requires-clause-nested g c =
    let m = c.args.self.now in
    let set = set_of c.args.templates.now in
    group_nests set c.args.limits m c.if-optional.self c.args.node c.args.optional (run_in set c.args.start) c.requires.turn c.requires.next (begun g c)

pub returns-then-not-bit-clause-turns : goal.returns-then-not-bit-clause-turns
returns-then-not-bit-clause-turns g c way n h =
    let set = set_of c.args.templates.now in
    let m = c.args.self.now in
    let (at, number, some, next) = c.requires.next in
    passed way set c.args.limits n m.turns.count m.turns.count m.counted m.counted m.cursor c.advance.new.self
    (group at c.args.optional (body_in set (run_in set c.args.start))) next refl refl
    (ap (λ (x : CursorData). x.left) c.advance.ensures ∙ ap (λ (x : CursorData). drop 1 x.left) c.use_bit.ensures.same)
    (ap (λ (x : CursorData). x.frames) c.advance.ensures ∙ ap (λ (x : CursorData). x.frames) c.use_bit.ensures.same) h
