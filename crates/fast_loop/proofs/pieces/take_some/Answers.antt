-- A unit, and the steps behind it.
use Rattle.std.proofs.Common.{refl, sym, ap, ◌∙◌, subst, arith}
use Rattle.std.specs.Prelude.{◌≡◌, ◌+◌, ◌-◌, ◌<◌, length, take, drop, Result, Ok, Err}
use Rattle.fast_stream.specs.declared.faults.FaultCode.{FaultCode}
use Rattle.fast_machine.specs.declared.machine.Turn.{Turn}
use Rattle.fast_machine.specs.declared.machine.Turn.TheVariants.{Waits}
use Rattle.fast_machine.specs.device.Positions.{set_of, tree_in, meaning}
use Rattle.fast_machine.specs.device.UnitTaken.{IsTakenTo}
use Rattle.fast_machine.specs.device.TurnsLeft.{HasTurnsBehind, turns_begun_at}
use Rattle.fast_machine.proofs.streams.Feeding.{within_piece}
use Rattle.fast_loop.proofs.steps.Kept.{IsKeptOf, both_fed, kept_within, kept_ready, kept_counted}
use Rattle.fast_machine.proofs.streams.Running.{unit_alone, unit_and_steps, counted_one, counted_both, ready_end}
use Rattle.fast_loop.proofs.pieces.take_some.Goals as goal

pub returns-in-Err-clause-fed : goal.returns-in-Err-clause-fed
returns-in-Err-clause-fed g c =
    let unit = c.take_first-unit in
    unit_alone g.S.Sink.takes g.S.Sink.stops (set_of c.args.templates.now) c.args.limits.now c.args.machine.now c.args.rest.now c.args.sink.now
    unit.result.bytes unit.result.turn (Err c.in-Err.code) unit.new.sink unit.new.machine
    (λ t e. absurd (cc (sym c.in-Err.is ∙ e))) (λ t e. absurd (cc (sym c.in-Err.is ∙ e))) (λ x e. cc (sym c.in-Err.is ∙ e)) unit.ensures.taken

pub returns-in-Err-clause-turns : goal.returns-in-Err-clause-turns
returns-in-Err-clause-turns g c way =
    let unit = c.take_first-unit in
    counted_one (set_of c.args.templates.now) c.args.limits.now c.args.machine.now unit.new.machine unit.result.bytes unit.result.turn
    (Err c.in-Err.code) way unit.ensures.taken.some (unit.ensures.turns way)
    (λ t e. absurd (cc (sym c.in-Err.is ∙ e))) (λ t e. absurd (cc (sym c.in-Err.is ∙ e))) (λ x e. cc (sym c.in-Err.is ∙ e))

pub returns-in-Waits : goal.returns-in-Waits
returns-in-Waits g c =
    let takes = g.S.Sink.takes in
    let stops = g.S.Sink.stops in
    let set = set_of c.args.templates.now in
    let l = c.args.limits.now in
    let m = c.args.machine.now in
    let rest = c.args.rest.now in
    let unit = c.take_first-unit in
    let b = unit.new.machine in
    let a = c.gather.new.self in
    let n = unit.result.bytes in
    let k = c.gather.result in
    let is : unit.result.turn ≡ Ok Waits = c.in-Ok.is ∙ ap Ok c.in-Waits.is in
    let taken : IsTakenTo takes stops set l (meaning set l m) rest c.args.sink.now n (Ok Waits) unit.new.sink b =
    subst (λ (t : Result Turn FaultCode). IsTakenTo takes stops set l (meaning set l m) rest c.args.sink.now n t unit.new.sink b) is unit.ensures.taken in
    let kept : IsKeptOf set l b a (take (length rest - n) (drop n rest)) k = record { kept = c.gather.ensures.kept; none = c.gather.ensures.none } in
    let ready = kept_ready set l b a (take (length rest - n) (drop n rest)) k kept taken.turn.goes_on in
    let some = taken.some in
    record {
      some = omega (arith, some);
      within = within_piece rest n k taken.within (kept_within set l b a (take (length rest - n) (drop n rest)) k kept);
      fed = both_fed takes stops set l m b a rest n k c.args.sink.now unit.new.sink taken kept;
      ready = ready;
      supplied = ready.supplied;
      turns = λ way. kept_counted set l m b a (take (length rest - n) (drop n rest)) n k kept way
          (counted_one set l m b n unit.result.turn (Ok tt) way some (unit.ensures.turns way) (λ t e. cc (sym is ∙ e)) (λ t e. refl)
          (λ x e. absurd (cc (sym is ∙ e))));
    }

pub returns-in_default : goal.returns-in_default
returns-in_default g c =
    let takes = g.S.Sink.takes in
    let stops = g.S.Sink.stops in
    let set = set_of c.args.templates.now in
    let l = c.args.limits.now in
    let m = c.args.machine.now in
    let rest = c.args.rest.now in
    let unit = c.take_first-unit in
    let run = c.go_on-run in
    let taken : IsTakenTo takes stops set l (meaning set l m) rest c.args.sink.now unit.result.bytes (Ok c.in-Ok.turn) unit.new.sink unit.new.machine =
    subst (λ (t : Result Turn FaultCode). IsTakenTo takes stops set l
    (meaning set l m) rest c.args.sink.now unit.result.bytes t unit.new.sink unit.new.machine) c.in-Ok.is unit.ensures.taken in
    let some : 0 < unit.result.bytes = unit.ensures.taken.some in
    record {
      some = omega (arith, some);
      within = within_piece rest unit.result.bytes run.result.bytes taken.within run.ensures.step.within;
      fed = unit_and_steps takes stops set l m unit.new.machine rest c.args.sink.now unit.new.sink unit.result.bytes c.in-Ok.turn run.result
          c.outcome.result run.new.sink run.new.machine c.in_default.not-Waits taken run.ensures.step run.ensures.ends c.outcome.ensures.ok
          c.outcome.ensures.err;
      ready = ready_end set l run.new.machine run.result.turn c.outcome.result run.ensures.ends c.outcome.ensures.ok c.outcome.ensures.err
          run.ensures.step.goes_on;
      supplied = run.ensures.step.supplied;
      turns = λ way. counted_both set l m unit.new.machine run.new.machine unit.result.bytes c.in-Ok.turn run.result c.outcome.result way some
          c.in_default.not-Waits
          (λ k h. subst (λ (t : Result Turn FaultCode). HasTurnsBehind t way set l
          (1 + k + turns_begun_at m.waiting m.cursor.map way (tree_in set) l) unit.new.machine) c.in-Ok.is (unit.ensures.turns way k h))
          (run.ensures.step.turns way) run.ensures.ends c.outcome.ensures.ok c.outcome.ensures.err;
    }
