-- The end of an element and the start of the next one, where there is one.
use Rattle.std.proofs.Common.{inl, inr}
use Rattle.std.proofs.lemmas.Result.{err_from_is_err_and}
use Rattle.fast_stream.specs.declared.faults.FaultCode.{FaultCode}
use Rattle.fast_machine.specs.device.Positions.{placed, set_of}
use Rattle.fast_machine.proofs.steps.NextElements.{next_begun, next_counts, next_stops, next_halts, next_begins}
use Rattle.fast_machine.proofs.steps.TurnCounts.{turns_taken}
use Rattle.fast_machine.proofs.machine.Machine.leave_segment.Goals as goal

pub returns-in_err-hand_next-clause-turn : goal.returns-in_err-hand_next-clause-turn
returns-in_err-hand_next-clause-turn g c =
    let takes = g.S.Sink.takes in
    let stops = g.S.Sink.stops in
    let m = placed c.args.self.now c.args.place in
    let set = set_of c.args.templates.now in
    let d = c.next_element.new.self in
    let b = next_begun c.args.self.now c.args.place d c.next_element.result c.in-Some.width c.in-Some.is c.requires.inner
    c.next_element.ensures.next c.next_element.ensures.width in
    let r = err_from_is_err_and c.from_residual.result c.from_residual.ensures.1 in
    let code : FaultCode = c.in_err-hand_next.field-0.0 in
    let s = c.args.sink.now in
    let s' = c.hand_next.new.sink in
    let (is, why) = c.in_err-hand_next.ensures in
    rw (r.1, r.2) (elim why [
      | inl stopped ↦ next_stops set c.args.limits m d c.in-Some.width b c.requires.end takes stops c.requires.turn s s' code is stopped
      | inr later ↦ let (mid, taken, stopped) = later in next_halts set c.args.limits m d c.in-Some.width b c.requires.end takes stops
          c.requires.turn s mid s' code is taken stopped
    ])

pub returns-in_err-hand_next-clause-turns : goal.returns-in_err-hand_next-clause-turns
returns-in_err-hand_next-clause-turns g c way n h =
    let m = placed c.args.self.now c.args.place in
    let r = err_from_is_err_and c.from_residual.result c.from_residual.ensures.1 in
    rw (r.1) (turns_taken way (set_of c.args.templates.now) c.args.limits n m.turns.count m.counted m.cursor h)

pub returns-clause-turn : goal.returns-clause-turn
returns-clause-turn g c =
    let m = placed c.args.self.now c.args.place in
    let d = c.next_element.new.self in
    let b = next_begun c.args.self.now c.args.place d c.next_element.result c.in-Some.width c.in-Some.is c.requires.inner
    c.next_element.ensures.next c.next_element.ensures.width in
    let (mid, taken, started) = c.in_ok-hand_next.ensures in
    next_begins (set_of c.args.templates.now) c.args.limits m d c.in-Some.width b c.requires.end g.S.Sink.takes g.S.Sink.stops
    c.requires.turn c.after-self.result c.args.sink.now mid c.hand_next.new.sink taken started

pub returns-clause-turns : goal.returns-clause-turns
returns-clause-turns g c way n h =
    let m = placed c.args.self.now c.args.place in
    let d = c.next_element.new.self in
    let b = next_begun c.args.self.now c.args.place d c.next_element.result c.in-Some.width c.in-Some.is c.requires.inner
    c.next_element.ensures.next c.next_element.ensures.width in
    next_counts (set_of c.args.templates.now) c.args.limits m d c.in-Some.width b c.requires.end c.after-self.result c.after-self.ensures way n h
