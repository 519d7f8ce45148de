-- The next element's event, and the cursor in it, or the end of the sequence.
use Rattle.std.proofs.Common.{◌<◌, ◌-◌, ◌∙◌, ap, Some, List, rules}
use Rattle.fast_value.specs.meaning.Limits.{bounds}
use Rattle.fast_dict.specs.meaning.Slots.{slots_dictionary}
use Rattle.fast_program.specs.declared.ops.Op.{Op}
use Rattle.fast_cursor.specs.device.Runs.{run_at}
use Rattle.fast_cursor.specs.device.Cursors.{entered}
use Rattle.fast_stream.specs.meaning.Events.{ElementStart}
use Rattle.fast_stream.specs.device.GrammarReaders.{reader_of}
use Rattle.fast_machine.specs.declared.machine.Machine.{Machine}
use Rattle.fast_machine.specs.device.Opening.{opened_turn, awaiting}
use Rattle.fast_machine.specs.device.Positions.{set_of, run_in, body_in, frames_in, state_in}
use Rattle.fast_machine.proofs.steps.Recounted.{can_turn-turns}
use Rattle.fast_machine.proofs.steps.Opened.{opened_waits, opened_goes}
use Rattle.fast_machine.proofs.steps.SegmentTurns.{element_turn, turn_in}
use Rattle.fast_machine.proofs.machine.Machine.begin_element.Goals as goal

pub returns-clause-turn : goal.returns-clause-turn
returns-clause-turn g c =
    let m = c.args.self.now in
    let set = set_of c.args.templates.now in
    let some : 0 < c.args.count = search rules in
    let behind : Machine = record m { cursor = c.open_element.new.self; turns = c.after-self.result } in
    turn_in g.S.Sink.takes g.S.Sink.stops set c.args.limits (record m { turns = c.after-self.result })
    (awaiting c.args.width behind) c.open_element.new.self (opened_turn c.args.width) c.args.width
    (Some (record {
      more = c.args.count - 1;
      body = (run_in (set_of c.args.templates.now) c.args.start);
      width = c.args.width;
    })) (run_in (set_of c.args.templates.now) c.args.start) _ ElementStart c.args.sink.now c.hand-2.new.sink
    (opened_waits c.args.width behind) (opened_goes c.args.width behind)
    (c.open_element.ensures ∙ ap (λ (ops : List Op). entered m.cursor (Some (record {
      more = c.args.count - 1;
      body = run_at ops c.args.start;
      width = c.args.width;
    })) (run_at ops c.args.start)) c.requires.turn.supplied.program)
    (can_turn-turns set c.args.limits m c.after-self.result c.requires.turn) c.requires.width c.requires.below c.requires.nested
    (c.requires.below, c.requires.nested, c.requires.width)
    (ap (reader_of c.args.limits.strict) (element_turn (bounds c.args.limits) (frames_in set m.cursor.frames) c.args.count
    (body_in set (run_in (set_of c.args.templates.now) c.args.start)) (body_in set m.cursor.left)
    (state_in (slots_dictionary m.slots) m.counted m.cursor) some))
    c.in_ok-hand-2.ensures
