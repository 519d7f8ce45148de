-- The turn is counted first.
use Rattle.std.proofs.Common.{subst, ◌+◌}
use Rattle.fast_dict.specs.meaning.Dictionary.{Dictionary}
use Rattle.fast_stream.specs.device.Readers.{Reader}
use Rattle.fast_machine.specs.device.Positions.{set_of}
use Rattle.fast_machine.specs.device.UnitTaken.{IsTakenTo}
use Rattle.fast_machine.proofs.steps.Recounted.{meaning-turns, supplied-turns, takes-turns}
use Rattle.fast_machine.proofs.steps.TurnCounts.{unit_paid}
use Rattle.fast_machine.proofs.machine.Machine.take_unit.Goals as goal

pub returns-clause-taken : goal.returns-clause-taken
returns-clause-taken g c =
    let set = set_of c.args.templates.now in
    let l = c.args.limits.now in
    let m = c.args.self.now in
    subst (λ (r : Reader Dictionary). IsTakenTo g.S.Sink.takes g.S.Sink.stops set l r c.args.rest.now c.args.sink.now c.take_awaited.result.bytes
    c.take_awaited.result.turn c.take_awaited.new.sink c.take_awaited.new.self)
    (meaning-turns m.waiting set l m c.after-self.result) c.take_awaited.ensures.taken

pub take_awaited-requires-clause-ready : goal.take_awaited-requires-clause-ready
take_awaited-requires-clause-ready g c =
    let set = set_of c.args.templates.now in
    let l = c.args.limits.now in
    let m = c.args.self.now in
    let ready = c.requires.ready in
    record { supplied = supplied-turns set l m c.after-self.result ready.supplied; takes = takes-turns m.waiting set l m c.after-self.result ready.takes }

pub returns-clause-turns : goal.returns-clause-turns
returns-clause-turns g c way n h =
    c.take_awaited.ensures.turns way (1 + n) (unit_paid way (set_of c.args.templates.now) c.args.limits.now n c.args.self.now c.after-self.result
    c.after-self.ensures h)
