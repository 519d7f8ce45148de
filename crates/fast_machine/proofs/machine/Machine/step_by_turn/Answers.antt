-- A turn, and what ends the step after it.
use Rattle.std.proofs.Common.{subst}
use Rattle.std.specs.Prelude.{Result}
use Rattle.fast_stream.specs.declared.faults.FaultCode.{FaultCode}
use Rattle.fast_machine.specs.declared.machine.Turn.{Turn}
use Rattle.fast_machine.specs.device.Positions.{set_of, GoesOn}
use Rattle.fast_machine.proofs.machine.Machine.step_by_turn.Goals as goal

pub step_after-requires : goal.step_after-requires
step_after-requires g c = record {
  ready = λ e. subst (λ (t : Result Turn FaultCode). GoesOn (set_of c.args.templates.now) c.args.limits.now c.turn-turn.new.self t) e
      c.turn-turn.ensures.turn.goes_on;
}

pub returns-clause-step : goal.returns-clause-step
returns-clause-step g c = c.step_after.ensures.step c.args.self.now c.args.sink.now c.turn-turn.ensures.turn c.turn-turn.ensures.past
    c.turn-turn.ensures.turns
