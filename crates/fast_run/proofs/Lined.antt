-- What an output of lines has written.
use Rattle.std.proofs.Common.{◌≡◌, ℕ, Bool, List, [], ◌∷◌, ◌++◌, Option, Result, Ok, Err, refl, sym, ap, ◌∙◌}
use Rattle.std.specs.Prelude.{OnOk, OnErr}
use Rattle.std.specs.Borrow.{Bor}
use Rattle.fast_template.specs.meaning.Flat.{tree_of}
use Rattle.fast_stream.specs.declared.events.Stop.{Stop}
use Rattle.fast_stream.specs.meaning.Events.{EventData}
use Rattle.fast_text.specs.declared.fronts.Fronts.{Fronts}
use Rattle.fast_text.specs.declared.line_sink.LineSink.{LineSink}
use Rattle.fast_text.specs.meaning.Fronts.{set_of}
use Rattle.fast_text.specs.meaning.LineSink.{TakesLine, StopsInLine}
use Rattle.fast_run.specs.declared.outputs.Lines.{Lines}
use Rattle.fast_run.specs.meaning.Outputs.{WritesLine, FailsInLine}

-- the sink keeps its target
pub keeps_target : {T : Type 0} (written : T → Option (List ℕ)) (failed : T → Bool) (s s' : LineSink T) (e : EventData) (r : Result (Unit {0}) Stop)
    → OnOk r (TakesLine written failed s e s') → OnErr r (StopsInLine written failed s e s') → s'.target.ghost_name ≡ s.target.ghost_name
keeps_target written failed s s' e (Ok u) took stopped = took.same_target
keeps_target written failed s s' e (Err x) took stopped = stopped.same_target

-- the line was written
pub line_written : {T : Type 0} (written : T → Option (List ℕ)) (failed : T → Bool) (begun ended : T) (fronts : Bor Fronts)
    (s s' : LineSink T) (e : EventData) (r : Result (Unit {0}) Stop)
    → s.target.now ≡ begun → ended ≡ s'.target.now → s.templates.now ≡ (set_of fronts.now).now → OnOk r (TakesLine written failed s e s')
    → OnOk r (WritesLine written failed (record { fronts = fronts; target = begun }) e (record { fronts = fronts; target = ended }))
line_written written failed begun ended fronts s s' e (Ok u) begins ends names h = record {
  names = refl;
  added = rw (← names, ← begins, ends) h.line;
  as_before = rw (← begins, ends) h.as_before;
}
line_written written failed begun ended fronts s s' e (Err x) begins ends names h = tt

-- a front of it was written, and the target has failed
pub line_failed : {T : Type 0} (written : T → Option (List ℕ)) (failed : T → Bool) (begun ended : T) (fronts : Bor Fronts)
    (s s' : LineSink T) (e : EventData) (r : Result (Unit {0}) Stop)
    → s.target.now ≡ begun → ended ≡ s'.target.now → s.templates.now ≡ (set_of fronts.now).now → OnErr r (StopsInLine written failed s e s')
    → OnErr r (FailsInLine written failed (record { fronts = fronts; target = begun }) e (record { fronts = fronts; target = ended }))
line_failed written failed begun ended fronts s s' e (Ok u) begins ends names h = tt
line_failed written failed begun ended fronts s s' e (Err x) begins ends names h = record {
  names = refl;
  front = rw (← names, ← begins, ends) h.front;
  has_failed = rw ends h.has_failed;
}
