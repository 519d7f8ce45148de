-- The machine waits at once, or goes on.
use Rattle.std.specs.Prelude.{Ok}
use Rattle.fast_machine.specs.declared.machine.Turn.TheVariants.{Waits}
use Rattle.fast_machine.specs.device.Positions.{set_of}
use Rattle.fast_machine.proofs.streams.Running.{turn_step}
use Rattle.fast_loop.proofs.pieces.go_on.Goals as goal

pub returns-then-waits_at_once-clause-step : goal.returns-then-waits_at_once-clause-step
returns-then-waits_at_once-clause-step g c =
    let waits = c.waits_at_once.ensures in
    let yes = c.if-waits_at_once.true in
    turn_step g.S.Sink.takes g.S.Sink.stops (set_of c.args.templates.now) c.args.limits.now c.args.machine.now c.args.piece.now c.args.sink.now
    (Ok Waits) c.waits_at_once.new.sink c.waits_at_once.new.self
    (record { moves = waits.hands yes; supplied = (waits.ready yes).supplied; goes_on = waits.ready yes })
    (λ e. absurd (cc e)) (waits.turns yes)
