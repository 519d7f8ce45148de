-- The group's event, and the cursor in the group.
use Rattle.std.proofs.Common.{refl, ap, ◌∙◌}
use Rattle.std.specs.Prelude.{List, drop, None}
use Rattle.fast_value.specs.meaning.Limits.{bounds}
use Rattle.fast_dict.specs.meaning.Slots.{slots_dictionary}
use Rattle.fast_program.specs.declared.ops.Op.{Op}
use Rattle.fast_cursor.specs.device.Runs.{run_at}
use Rattle.fast_cursor.specs.device.Cursors.{CursorData, entered}
use Rattle.fast_stream.specs.device.GrammarReaders.{reader_of}
use Rattle.fast_stream.specs.meaning.Events.{GroupStart}
use Rattle.fast_machine.specs.declared.machine.Machine.{Machine}
use Rattle.fast_machine.specs.device.Opening.{opened_turn, awaiting}
use Rattle.fast_machine.specs.device.Passing.{group_from}
use Rattle.fast_machine.specs.device.Positions.{set_of, run_in}
use Rattle.fast_machine.proofs.steps.FieldTurns.{can_turn_past}
use Rattle.fast_machine.proofs.steps.Opened.{opened_waits, opened_goes}
use Rattle.fast_machine.proofs.steps.SegmentTurns.{like_at, turn_in, width_from}
use Rattle.fast_machine.proofs.machine.Machine.enter_group.Goals as goal

pub returns-clause-turn : goal.returns-clause-turn
returns-clause-turn g c =
    let m = c.args.self.now in
    let set = set_of c.args.templates.now in
    let l = c.args.limits in
    let past : CursorData = record m.cursor { left = drop 1 m.cursor.left } in
    let m1 : Machine = record m { cursor = past } in
    let w = c.segment_bits-width.result in
    let behind : Machine = record m { cursor = c.open_group.new.self } in
    let width = width_from set c.args.node c.args.start w c.requires.node c.requires.body c.segment_bits-width.ensures in
    let can = can_turn_past set l m m1 c.requires.turn (like_at m past refl) c.requires.turn.supplied.counted (record { same = refl }) in
    turn_in g.S.Sink.takes g.S.Sink.stops set l m1 (awaiting w behind) c.open_group.new.self (opened_turn w) w None
    (run_in (set_of c.args.templates.now) c.args.start)
    (reader_of l.strict (group_from set (bounds l) c.args.node (run_in (set_of c.args.templates.now) c.args.start)
    (slots_dictionary m.slots) m.counted m.cursor))
    (GroupStart c.args.node) c.args.sink.now c.hand.new.sink
    (opened_waits w behind) (opened_goes w behind) (c.open_group.ensures
    ∙ ap (λ (ops : List Op). entered c.advance.new.self None (run_at ops c.args.start))
    (ap (λ (x : CursorData). x.ops) c.advance.ensures ∙ c.requires.turn.supplied.program)
    ∙ ap (λ x. entered x None (run_in (set_of c.args.templates.now) c.args.start)) c.advance.ensures)
    can width c.requires.below c.requires.nested tt refl c.in_ok-hand.ensures
