use Rattle.std.proofs.Common.{◌≡◌, rules, []}
use Rattle.std.proofs.lemmas.Result.{err_from_is_err_and}
use Rattle.fast_dict.specs.meaning.Slots.{slots_dictionary}
use Rattle.fast_stream.specs.meaning.Events.{MessageEnd}
use Rattle.fast_stream.specs.device.Readers.{Done}
use Rattle.fast_machine.specs.device.Positions.{set_of, turning}
use Rattle.fast_machine.proofs.steps.SegmentTurns.{message_end, turn_halt, turn_end}
use Rattle.fast_machine.proofs.machine.Machine.close.Goals as goal

pub returns-in_err-hand_end-clause-turn : goal.returns-in_err-hand_end-clause-turn
returns-in_err-hand_end-clause-turn g c =
    let m = c.args.self.now in
    let set = set_of c.args.templates.now in
    let outermost : m.cursor.frames ≡ [] = search rules in
    let r = err_from_is_err_and c.from_residual.result c.from_residual.ensures.1 in
    rw (r.1, r.2) (turn_halt g.S.Sink.takes g.S.Sink.stops set c.args.limits (turning set c.args.limits m)
    (Done (slots_dictionary m.slots)) MessageEnd c.args.sink.now c.in_err-hand_end.field-0.0 c.hand_end.new.sink m
    (message_end set c.args.limits m c.requires.end outermost) c.in_err-hand_end.ensures c.requires.turn.supplied)

pub returns-then-is_outermost-clause-turn : goal.returns-then-is_outermost-clause-turn
returns-then-is_outermost-clause-turn g c =
    let m = c.args.self.now in
    let set = set_of c.args.templates.now in
    let outermost : m.cursor.frames ≡ [] = search rules in
    turn_end g.S.Sink.takes g.S.Sink.stops set c.args.limits
    (turning set c.args.limits m) c.args.sink.now c.hand_end.new.sink m c.clear_map.new.self c.requires.turn c.requires.end outermost
    c.clear_map.ensures
    (message_end set c.args.limits m c.requires.end outermost) c.in_ok-hand_end.ensures
