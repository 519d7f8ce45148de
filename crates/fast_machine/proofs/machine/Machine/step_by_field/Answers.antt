-- The field is read, or a turn leads past it. The machine then waits for a field.
use Rattle.std.proofs.Common.{refl, sym, ◌∙◌, subst}
use Rattle.std.specs.Prelude.{Result}
use Rattle.fast_stream.specs.declared.faults.FaultCode.{FaultCode}
use Rattle.fast_tree.specs.meaning.Nodes.{field_data}
use Rattle.fast_machine.specs.declared.machine.Turn.{Turn}
use Rattle.fast_machine.specs.declared.machine.Waiting.TheVariants.{Field}
use Rattle.fast_machine.specs.device.Positions.{set_of, GoesOn}
use Rattle.fast_machine.proofs.steps.FieldTurns.{state_of, sent_next}
use Rattle.fast_machine.proofs.streams.Running.{step_waits}
use Rattle.fast_machine.proofs.machine.Machine.step_by_field.Goals as goal

pub step_after-requires : goal.step_after-requires
step_after-requires g c = record {
  ready = λ e. subst (λ (t : Result Turn FaultCode). GoesOn (set_of c.args.templates.now) c.args.limits.now c.turn_at_field-turn.new.self t) e
      c.turn_at_field-turn.ensures.turn.goes_on;
}

pub returns-then-not-needs_bytes-clause-step : goal.returns-then-not-needs_bytes-clause-step
returns-then-not-needs_bytes-clause-step g c = c.step_after.ensures.step c.args.self.now c.args.sink.now c.turn_at_field-turn.ensures.turn
    c.turn_at_field-turn.ensures.past c.turn_at_field-turn.ensures.turns

pub take_sent_field-unit-requires-clause-sent : goal.take_sent_field-unit-requires-clause-sent
take_sent_field-unit-requires-clause-sent g c =
    sent_next (field_data c.args.field.now) c.bit.result (state_of c.args.self.now) c.bit.ensures
    (c.needs_bytes.ensures.operator c.if-not-needs_bytes.false) (c.needs_bytes.ensures.sent c.if-not-needs_bytes.false)

pub returns-then-goes_on-clause-step : goal.returns-then-goes_on-clause-step
returns-then-goes_on-clause-step g c =
    let unit = c.take_sent_field-unit in
    let (turn, is, on) = c.if-goes_on.ensures.on refl in
    step_waits g.S.Sink.takes g.S.Sink.stops (set_of c.args.templates.now) c.args.limits.now c.args.self.now c.args.rest.now c.args.sink.now
    unit.result.bytes unit.result.turn unit.new.sink unit.new.self c.wait_for_field.new.self Field c.wait_for_field.ensures
    (λ e. on (cc (sym is ∙ e))) unit.ensures.step
