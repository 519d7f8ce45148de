-- The step, by how it ended.
use Rattle.std.proofs.Common.{refl, ap, ◌∙◌, subst, arith}
use Rattle.std.specs.Prelude.{◌≡◌, drop, Ok, Err}
use Rattle.fast_machine.specs.declared.machine.Turn.TheVariants.{Silent, Handed, Waits}
use Rattle.fast_cursor.specs.device.Cursors.{CursorData}
use Rattle.fast_machine.specs.declared.machine.Machine.{Machine}
use Rattle.fast_machine.specs.device.Positions.{placed, set_of}
use Rattle.fast_machine.specs.device.Steps.{IsStep}
use Rattle.fast_loop.proofs.arms.Taken.{took_handed}
use Rattle.fast_loop.proofs.arms.Walks.{step_at}
use Rattle.fast_loop.proofs.walking.general_arm.Goals as goal

pub returns-then-step-gt0-2 : goal.returns-then-step-gt0-2
returns-then-step-gt0-2 g c =
    let is = c.in-Ok.is ∙ ap Ok c.in-Silent.is in
    record {
      gone = (
        c.general_step-step.result.bytes,
        c.if-step-gt0-2.true,
        record {
          rest = c.skip-spot.ensures;
          waits = c.general_step-step.ensures.waits Silent (is) (λ e. cc e);
          place = c.place-spot.ensures.place;
          step = took_handed g.S.Sink.takes g.S.Sink.stops (set_of c.args.templates.now) c.args.limits.now
              (placed c.args.machine.now c.args.spot.now.place) (placed c.general_step-step.new.machine c.place-spot.result)
              c.args.spot.now.rest.bytes.now c.args.sink.now c.general_step-step.result.bytes Silent c.general_step-step.new.sink
              c.if-step-gt0-2.true (λ e. cc e)
              (step_at g.S.Sink.takes g.S.Sink.stops (set_of c.args.templates.now) c.args.limits.now c.args.machine.now c.args.spot.now
              c.args.sink.now c.set_place.new.self c.general_step-step.result.bytes
              (Ok Silent) c.general_step-step.result c.general_step-step.new.sink c.general_step-step.new.machine c.place-spot.result
              c.set_place.ensures refl (is) c.place-spot.ensures.same c.general_step-step.ensures.step);
        },
      );
    }

pub returns-in-Err : goal.returns-in-Err
returns-in-Err g c = record {
  gone = (
    c.general_step-step.result.bytes,
    c.skip-spot.ensures,
    subst (λ (b : Machine). IsStep g.S.Sink.takes g.S.Sink.stops (set_of c.args.templates.now) c.args.limits.now
        (placed c.args.machine.now c.args.spot.now.place) c.args.spot.now.rest.bytes.now c.args.sink.now (record {
          bytes = c.general_step-step.result.bytes;
          turn = Err c.in-Err.code;
        }) c.general_step-step.new.sink b)
        (ap (λ (x : CursorData). record c.general_step-step.new.machine { cursor = x }) c.place-spot.ensures.same)
        (step_at g.S.Sink.takes g.S.Sink.stops (set_of c.args.templates.now) c.args.limits.now c.args.machine.now c.args.spot.now
        c.args.sink.now c.set_place.new.self c.general_step-step.result.bytes
        (Err c.in-Err.code) c.general_step-step.result c.general_step-step.new.sink c.general_step-step.new.machine c.place-spot.result
        c.set_place.ensures refl (c.in-Err.is) c.place-spot.ensures.same c.general_step-step.ensures.step),
  );
}

pub returns-else-step-gt0 : goal.returns-else-step-gt0
returns-else-step-gt0 g c =
    let is = c.in-Ok.is ∙ ap Ok c.in-Handed.is in
    let none : c.general_step-step.result.bytes ≡ 0 = let few = c.if-step-gt0.false in omega (arith, few) in
    record {
      gone = record {
        rest = c.skip-spot.ensures ∙ ap (λ k. drop k c.args.spot.now.rest.bytes.now) none;
        waits = c.general_step-step.ensures.waits Handed (is) (λ e. cc e);
        place = c.place-spot.ensures.place;
        step = step_at g.S.Sink.takes g.S.Sink.stops (set_of c.args.templates.now) c.args.limits.now c.args.machine.now c.args.spot.now
            c.args.sink.now c.set_place.new.self 0 (Ok Handed) c.general_step-step.result c.general_step-step.new.sink
            c.general_step-step.new.machine c.place-spot.result c.set_place.ensures none
            (is) c.place-spot.ensures.same c.general_step-step.ensures.step;
      };
    }

pub returns-else-step-gt0-2 : goal.returns-else-step-gt0-2
returns-else-step-gt0-2 g c =
    let is = c.in-Ok.is ∙ ap Ok c.in-Silent.is in
    let none : c.general_step-step.result.bytes ≡ 0 = let few = c.if-step-gt0-2.false in omega (arith, few) in
    record {
      gone = record {
        rest = c.skip-spot.ensures ∙ ap (λ k. drop k c.args.spot.now.rest.bytes.now) none;
        waits = c.general_step-step.ensures.waits Silent (is) (λ e. cc e);
        place = c.place-spot.ensures.place;
        step = step_at g.S.Sink.takes g.S.Sink.stops (set_of c.args.templates.now) c.args.limits.now c.args.machine.now c.args.spot.now
            c.args.sink.now c.set_place.new.self 0 (Ok Silent) c.general_step-step.result c.general_step-step.new.sink
            c.general_step-step.new.machine c.place-spot.result c.set_place.ensures none
            (is) c.place-spot.ensures.same c.general_step-step.ensures.step;
      };
    }

pub returns-then-step-gt0 : goal.returns-then-step-gt0
returns-then-step-gt0 g c =
    let is = c.in-Ok.is ∙ ap Ok c.in-Handed.is in
    record {
      gone = (
        c.general_step-step.result.bytes,
        c.if-step-gt0.true,
        record {
          rest = c.skip-spot.ensures;
          waits = c.general_step-step.ensures.waits Handed (is) (λ e. cc e);
          place = c.place-spot.ensures.place;
          step = took_handed g.S.Sink.takes g.S.Sink.stops (set_of c.args.templates.now) c.args.limits.now
              (placed c.args.machine.now c.args.spot.now.place) (placed c.general_step-step.new.machine c.place-spot.result)
              c.args.spot.now.rest.bytes.now c.args.sink.now c.general_step-step.result.bytes Handed c.general_step-step.new.sink
              c.if-step-gt0.true (λ e. cc e)
              (step_at g.S.Sink.takes g.S.Sink.stops (set_of c.args.templates.now) c.args.limits.now c.args.machine.now c.args.spot.now
              c.args.sink.now c.set_place.new.self c.general_step-step.result.bytes
              (Ok Handed) c.general_step-step.result c.general_step-step.new.sink c.general_step-step.new.machine c.place-spot.result
              c.set_place.ensures refl (is) c.place-spot.ensures.same c.general_step-step.ensures.step);
        },
      );
    }

pub returns-in-Waits : goal.returns-in-Waits
returns-in-Waits g c = record {
  gone = (
    c.general_step-step.result.bytes,
    c.skip-spot.ensures,
    subst (λ (b : Machine). IsStep g.S.Sink.takes g.S.Sink.stops (set_of c.args.templates.now) c.args.limits.now
        (placed c.args.machine.now c.args.spot.now.place) c.args.spot.now.rest.bytes.now c.args.sink.now (record {
          bytes = c.general_step-step.result.bytes;
          turn = Ok Waits;
        }) c.general_step-step.new.sink b)
        (ap (λ (x : CursorData). record c.general_step-step.new.machine { cursor = x }) c.place-spot.ensures.same)
        (step_at g.S.Sink.takes g.S.Sink.stops (set_of c.args.templates.now) c.args.limits.now c.args.machine.now c.args.spot.now
        c.args.sink.now c.set_place.new.self c.general_step-step.result.bytes
        (Ok Waits) c.general_step-step.result c.general_step-step.new.sink c.general_step-step.new.machine c.place-spot.result
        c.set_place.ensures refl (c.in-Ok.is ∙ ap Ok c.in-Waits.is) c.place-spot.ensures.same c.general_step-step.ensures.step),
  );
}
