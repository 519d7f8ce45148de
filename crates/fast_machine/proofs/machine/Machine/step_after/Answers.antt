-- The end of a step after its turn, and the unit that the machine waits for then.
use Rattle.std.proofs.Common.{ap, ◌∙◌, subst}
use Rattle.std.specs.Prelude.{Result, Ok}
use Rattle.fast_stream.specs.declared.faults.FaultCode.{FaultCode}
use Rattle.fast_machine.specs.declared.machine.Turn.{Turn}
use Rattle.fast_machine.specs.declared.machine.Waiting.TheVariants.{Field}
use Rattle.fast_machine.specs.device.Moving.{Moves}
use Rattle.fast_machine.specs.device.Positions.{set_of, turning, meaning}
use Rattle.fast_machine.specs.device.TurnsLeft.{HasTurnsBehind}
use Rattle.fast_machine.specs.device.Steps.{IsStep}
use Rattle.fast_machine.proofs.streams.Running.{turn_step, step_waits}
use Rattle.fast_machine.proofs.machine.Machine.step_after.Goals as goal

pub take_behind-requires : goal.take_behind-requires
take_behind-requires g c = record { ready = c.requires.ready (c.in-Ok.is ∙ ap Ok c.in-Waits.is) }

pub returns-in-Waits-clause-step : goal.returns-in-Waits-clause-step
returns-in-Waits-clause-step g c m s h past turns =
    let takes = g.S.Sink.takes in
    let stops = g.S.Sink.stops in
    let set = set_of c.args.templates.now in
    let l = c.args.limits.now in
    let b = c.args.self.now in
    c.take_behind.ensures.step m s
    (subst (λ (t : Result Turn FaultCode). Moves takes stops (turning set l m) s t c.args.sink.now (turning set l b) (meaning set l b))
    (c.in-Ok.is ∙ ap Ok c.in-Waits.is) h.moves)
    (λ way n k. subst (λ (t : Result Turn FaultCode). HasTurnsBehind t way set l n b) (c.in-Ok.is ∙ ap Ok c.in-Waits.is) (turns way n k))

pub returns-in_default-clause-step : goal.returns-in_default-clause-step
returns-in_default-clause-step g c m s h past turns =
    let takes = g.S.Sink.takes in
    let stops = g.S.Sink.stops in
    let set = set_of c.args.templates.now in
    let l = c.args.limits.now in
    step_waits takes stops set l m c.args.rest.now s 0
    (Ok c.in-Ok.next) c.args.sink.now c.args.self.now c.wait_for_field.new.self Field c.wait_for_field.ensures
    (λ e. c.in_default.not-Waits (cc e))
    (subst (λ (t : Result Turn FaultCode). IsStep takes stops set l m c.args.rest.now s (record {
      bytes = 0;
      turn = t;
    }) c.args.sink.now c.args.self.now) c.in-Ok.is
    (turn_step takes stops set l m c.args.rest.now s c.args.turn c.args.sink.now c.args.self.now h past turns))

pub returns-in-Err-clause-step : goal.returns-in-Err-clause-step
returns-in-Err-clause-step g c m s h past turns =
    let takes = g.S.Sink.takes in
    let stops = g.S.Sink.stops in
    let set = set_of c.args.templates.now in
    let l = c.args.limits.now in
    subst (λ (t : Result Turn FaultCode). IsStep takes stops set l m c.args.rest.now s (record {
      bytes = 0;
      turn = t;
    }) c.args.sink.now c.args.self.now) c.in-Err.is
    (turn_step takes stops set l m c.args.rest.now s c.args.turn c.args.sink.now c.args.self.now h past turns)
