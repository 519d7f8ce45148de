-- The unit that the machine waits for, or as much of it as there is.
use Rattle.std.proofs.Common.{rules, refl, sym, ◌∙◌, subst}
use Rattle.std.specs.Prelude.{◌≡◌, ◌<◌, length, Ok}
use Rattle.fast_machine.specs.declared.machine.Machine.{Machine}
use Rattle.fast_machine.specs.declared.machine.Turn.TheVariants.{Waits}
use Rattle.fast_machine.specs.declared.machine.Waiting.TheVariants.{Field}
use Rattle.fast_machine.specs.device.Handing.{Hands}
use Rattle.fast_machine.specs.device.Positions.{set_of, turning, meaning}
use Rattle.fast_machine.specs.device.TurnsLeft.{HasTurnsWaiting}
use Rattle.fast_machine.proofs.machines.Gathers.{gathered_to, gathered_behind}
use Rattle.fast_machine.proofs.streams.Running.{turn_step, unit_step, step_waits}
use Rattle.fast_machine.proofs.machine.Machine.take_behind.Goals as goal

pub returns-then-is_empty-clause-step : goal.returns-then-is_empty-clause-step
returns-then-is_empty-clause-step g c m s hands turns =
    turn_step g.S.Sink.takes g.S.Sink.stops (set_of c.args.templates.now) c.args.limits.now m c.args.rest.now s (Ok Waits) c.args.sink.now c.args.self.now
    (record { moves = hands; supplied = c.requires.ready.supplied; goes_on = c.requires.ready })
    (λ e. absurd (cc e)) turns

pub returns-then-gathers-clause-step : goal.returns-then-gathers-clause-step
returns-then-gathers-clause-step g c m s hands turns =
    let takes = g.S.Sink.takes in
    let stops = g.S.Sink.stops in
    let set = set_of c.args.templates.now in
    let l = c.args.limits.now in
    let rest = c.args.rest.now in
    let b = c.args.self.now in
    let a = c.gathers.new.self in
    let sink = c.args.sink.now in
    let some : 0 < length rest = search rules in
    let got = c.if-gathers.ensures.gathered refl in
    unit_step takes stops set l m b rest s sink c.cut.result sink a
    hands
    (gathered_to takes stops set l b a rest got some sink c.cut.result.bytes c.cut.result.turn
    c.cut.ensures.bytes c.cut.ensures.turn)
    (λ way n h. gathered_behind way set l n b a rest c.cut.result.turn got c.cut.ensures.turn (turns way n h))

pub returns-then-goes_on-clause-step : goal.returns-then-goes_on-clause-step
returns-then-goes_on-clause-step g c m s hands turns =
    let takes = g.S.Sink.takes in
    let stops = g.S.Sink.stops in
    let set = set_of c.args.templates.now in
    let l = c.args.limits.now in
    let unit = c.take_unit-unit in
    let b = c.gathers.new.self in
    let sink = c.args.sink.now in
    let same : b ≡ c.args.self.now = c.if-gathers.ensures.same refl in
    let (turn, is, on) = c.if-goes_on.ensures.on refl in
    step_waits takes stops set l m c.args.rest.now s unit.result.bytes unit.result.turn unit.new.sink unit.new.self
    c.wait_for_field.new.self Field c.wait_for_field.ensures (λ e. on (cc (sym is ∙ e)))
    (unit_step takes stops set l m b c.args.rest.now s sink unit.result unit.new.sink unit.new.self
    (subst (λ (x : Machine). Hands takes stops (turning set l m) s (Ok tt) c.args.sink.now (meaning set l x)) (sym same) hands) unit.ensures.taken
    (λ way n h. unit.ensures.turns way n (subst (λ (x : Machine). HasTurnsWaiting way set l n x) (sym same) (turns way n h))))

pub returns-else-goes_on-clause-step : goal.returns-else-goes_on-clause-step
returns-else-goes_on-clause-step g c m s hands turns =
    let takes = g.S.Sink.takes in
    let stops = g.S.Sink.stops in
    let set = set_of c.args.templates.now in
    let l = c.args.limits.now in
    let unit = c.take_unit-unit in
    let b = c.gathers.new.self in
    let sink = c.args.sink.now in
    let same : b ≡ c.args.self.now = c.if-gathers.ensures.same refl in
    unit_step takes stops set l m b c.args.rest.now s sink unit.result unit.new.sink unit.new.self
    (subst (λ (x : Machine). Hands takes stops (turning set l m) s (Ok tt) c.args.sink.now (meaning set l x)) (sym same) hands) unit.ensures.taken
    (λ way n h. unit.ensures.turns way n (subst (λ (x : Machine). HasTurnsWaiting way set l n x) (sym same) (turns way n h)))
