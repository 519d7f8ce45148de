-- The end of a group, or of an element and what comes behind it.
use Rattle.std.proofs.Common.{ap, length, option_map, Some}
use Rattle.std.proofs.lemmas.Result.{err_from_is_err_and}
use Rattle.fast_value.specs.meaning.Limits.{bounds}
use Rattle.fast_dict.specs.meaning.Slots.{slots_dictionary}
use Rattle.fast_stream.specs.meaning.Events.{GroupEnd, ElementEnd}
use Rattle.fast_stream.specs.device.GrammarReaders.{reader_of}
use Rattle.fast_cursor.specs.device.Segments.{elements_data}
use Rattle.fast_machine.specs.device.Opening.{opened_result, opened_by}
use Rattle.fast_machine.specs.device.Passing.{elements_from}
use Rattle.fast_machine.specs.device.Positions.{placed, set_of, turning, AreElementsFit}
use Rattle.fast_machine.proofs.steps.Opened.{opened_not_silent}
use Rattle.fast_machine.proofs.steps.SegmentTurns.{IsClosed, closed, closed_in, turn_halt, turn_one, turn_more}
use Rattle.fast_machine.proofs.steps.TurnCounts.{group_left, element_left, turns_taken}
use Rattle.fast_machine.proofs.machine.Machine.close_segment.Given.{Over}
use Rattle.fast_machine.proofs.machine.Machine.close_segment.Goals as goal

pub returns-in_err-hand-in-None-clause-turn : goal.returns-in_err-hand-in-None-clause-turn
returns-in_err-hand-in-None-clause-turn g c =
    let m = placed c.args.self.now c.args.place in
    let m' = record m { cursor = c.close.new.self } in
    let set = set_of c.args.templates.now in
    let h = closed set c.args.limits m c.close.new.self (option_map (elements_data (set_of c.args.templates.now).program) c.close.result)
    c.requires.turn c.requires.end c.requires.inner
    (closed_in (set_of c.args.templates.now) c.args.limits m c.close.new.self c.close.result c.requires.turn.supplied c.close.ensures.left) in
    let r = err_from_is_err_and c.from_residual.result c.from_residual.ensures.1 in
    rw (r.1, r.2) (turn_halt g.S.Sink.takes g.S.Sink.stops set c.args.limits (turning set c.args.limits m)
    (turning set c.args.limits m') GroupEnd c.args.sink.now c.in_err-hand-in-None.field-0.0 c.hand.new.sink m'
    (h.group (ap (option_map (elements_data (set_of c.args.templates.now).program)) c.in-None.is)) c.in_err-hand-in-None.ensures h.can.supplied)

pub returns-in_err-hand-in-Some-clause-turn : goal.returns-in_err-hand-in-Some-clause-turn
returns-in_err-hand-in-Some-clause-turn g c =
    let m = placed c.args.self.now c.args.place in
    let e = elements_data (set_of c.args.templates.now).program c.in-Some.elements in
    let set = set_of c.args.templates.now in
    let h = closed set c.args.limits m c.close.new.self (option_map (elements_data (set_of c.args.templates.now).program) c.close.result)
    c.requires.turn c.requires.end c.requires.inner
    (closed_in (set_of c.args.templates.now) c.args.limits m c.close.new.self c.close.result c.requires.turn.supplied c.close.ensures.left) in
    let r = err_from_is_err_and c.from_residual-in_err-hand-in-Some.result c.from_residual-in_err-hand-in-Some.ensures.1 in
    rw (r.1, r.2) (turn_halt g.S.Sink.takes g.S.Sink.stops set c.args.limits (turning set c.args.limits m)
    (reader_of c.args.limits.strict (elements_from set (bounds c.args.limits) e.more e.body (slots_dictionary m.slots) m.counted c.close.new.self))
    ElementEnd c.args.sink.now c.in_err-hand-in-Some.field-0.0 c.hand-in-Some.new.sink (record m { cursor = c.close.new.self })
    (h.element e (ap (option_map (elements_data (set_of c.args.templates.now).program)) c.in-Some.is)) c.in_err-hand-in-Some.ensures h.can.supplied)

-- Behind an element the next one of its sequence fits.
behind : (g : Over) (c : goal.After-begin_element-arg-in-Some-1 g) → IsClosed (set_of c.args.templates.now) c.args.limits (placed c.args.self.now c.args.place)
    c.close.new.self (option_map (elements_data (set_of c.args.templates.now).program) c.close.result)
behind g c =
    let m = placed c.args.self.now c.args.place in
    closed (set_of c.args.templates.now) c.args.limits m c.close.new.self
    (option_map (elements_data (set_of c.args.templates.now).program) c.close.result) c.requires.turn c.requires.end c.requires.inner
    (closed_in (set_of c.args.templates.now) c.args.limits m c.close.new.self c.close.result c.requires.turn.supplied c.close.ensures.left)

fits : (g : Over) (c : goal.After-begin_element-arg-in-Some-1 g) → AreElementsFit (set_of c.args.templates.now) c.close.new.self.depth
    (length c.close.new.self.frames) (Some (elements_data (set_of c.args.templates.now).program c.in-Some.elements))
fits g c = (behind g c).elements_fit (elements_data (set_of c.args.templates.now).program c.in-Some.elements)
    (ap (option_map (elements_data (set_of c.args.templates.now).program)) c.in-Some.is)

pub begin_element-requires-clause-turn : goal.begin_element-requires-clause-turn
begin_element-requires-clause-turn g c = (behind g c).can

pub begin_element-requires-clause-below : goal.begin_element-requires-clause-below
begin_element-requires-clause-below g c = (fits g c).0

pub begin_element-requires-clause-nested : goal.begin_element-requires-clause-nested
begin_element-requires-clause-nested g c = (fits g c).1

pub begin_element-requires-clause-width : goal.begin_element-requires-clause-width
begin_element-requires-clause-width g c = (fits g c).2

pub returns-in_ok-hand-in-None-clause-turn : goal.returns-in_ok-hand-in-None-clause-turn
returns-in_ok-hand-in-None-clause-turn g c =
    let m = placed c.args.self.now c.args.place in
    let set = set_of c.args.templates.now in
    let h = closed set c.args.limits m c.close.new.self (option_map (elements_data (set_of c.args.templates.now).program) c.close.result)
    c.requires.turn c.requires.end c.requires.inner
    (closed_in (set_of c.args.templates.now) c.args.limits m c.close.new.self c.close.result c.requires.turn.supplied c.close.ensures.left) in
    turn_one g.S.Sink.takes g.S.Sink.stops set c.args.limits (turning set c.args.limits m) GroupEnd c.args.sink.now c.hand.new.sink
    (record m { cursor = c.close.new.self })
    (h.group (ap (option_map (elements_data (set_of c.args.templates.now).program)) c.in-None.is)) c.in_ok-hand-in-None.ensures h.can

pub returns-in_ok-hand-in-Some-clause-turn : goal.returns-in_ok-hand-in-Some-clause-turn
returns-in_ok-hand-in-Some-clause-turn g c =
    let m = placed c.args.self.now c.args.place in
    let e = elements_data (set_of c.args.templates.now).program c.in-Some.elements in
    let set = set_of c.args.templates.now in
    let h = closed set c.args.limits m c.close.new.self (option_map (elements_data (set_of c.args.templates.now).program) c.close.result)
    c.requires.turn c.requires.end c.requires.inner
    (closed_in (set_of c.args.templates.now) c.args.limits m c.close.new.self c.close.result c.requires.turn.supplied c.close.ensures.left) in
    turn_more g.S.Sink.takes g.S.Sink.stops set c.args.limits (turning set c.args.limits m)
    (reader_of c.args.limits.strict (elements_from set (bounds c.args.limits) e.more e.body (slots_dictionary m.slots) m.counted c.close.new.self))
    ElementEnd c.args.sink.now c.hand-in-Some.new.sink (opened_result c.begin_element.result) c.begin_element.new.sink
    (opened_by c.begin_element.result c.begin_element.new.self)
    (h.element e (ap (option_map (elements_data (set_of c.args.templates.now).program)) c.in-Some.is)) c.in_ok-hand-in-Some.ensures
    c.begin_element.ensures.turn (opened_not_silent c.begin_element.result)

pub returns-in_err-hand-in-None-clause-turns : goal.returns-in_err-hand-in-None-clause-turns
returns-in_err-hand-in-None-clause-turns g c way n h =
    let m = placed c.args.self.now c.args.place in
    let r = err_from_is_err_and c.from_residual.result c.from_residual.ensures.1 in
    rw (r.1) (turns_taken way (set_of c.args.templates.now) c.args.limits n m.turns.count m.counted m.cursor h)

pub returns-in_err-hand-in-Some-clause-turns : goal.returns-in_err-hand-in-Some-clause-turns
returns-in_err-hand-in-Some-clause-turns g c way n h =
    let m = placed c.args.self.now c.args.place in
    let r = err_from_is_err_and c.from_residual-in_err-hand-in-Some.result c.from_residual-in_err-hand-in-Some.ensures.1 in
    rw (r.1) (turns_taken way (set_of c.args.templates.now) c.args.limits n m.turns.count m.counted m.cursor h)

pub returns-in_ok-hand-in-None-clause-turns : goal.returns-in_ok-hand-in-None-clause-turns
returns-in_ok-hand-in-None-clause-turns g c way n h =
    let m = placed c.args.self.now c.args.place in
    group_left way (set_of c.args.templates.now) c.args.limits n m.turns.count m.counted m.cursor c.close.new.self
    (option_map (elements_data (set_of c.args.templates.now).program) c.close.result) c.requires.end c.requires.inner
    (closed_in (set_of c.args.templates.now) c.args.limits m c.close.new.self c.close.result c.requires.turn.supplied c.close.ensures.left)
    (ap (option_map (elements_data (set_of c.args.templates.now).program)) c.in-None.is) h

pub returns-in_ok-hand-in-Some-clause-turns : goal.returns-in_ok-hand-in-Some-clause-turns
returns-in_ok-hand-in-Some-clause-turns g c way n h =
    let m = placed c.args.self.now c.args.place in
    c.begin_element.ensures.turns way n
    (element_left way (set_of c.args.templates.now) c.args.limits n m.turns.count m.counted m.cursor c.close.new.self
    (option_map (elements_data (set_of c.args.templates.now).program) c.close.result)
    (elements_data (set_of c.args.templates.now).program c.in-Some.elements) c.requires.end c.requires.inner
    (closed_in (set_of c.args.templates.now) c.args.limits m c.close.new.self c.close.result c.requires.turn.supplied c.close.ensures.left)
    (ap (option_map (elements_data (set_of c.args.templates.now).program)) c.in-Some.is) h)
