use Rattle.std.proofs.Common.{◌≡◌, ◌∙◌, ap, sym, refl, List, [], Ok, Err}
use Rattle.fast_stream.specs.declared.faults.MakeError.{MakeError}
use Rattle.fast_template.specs.meaning.Flat.{tree_of}
use Rattle.fast_text.proofs.Writing.{reads_none}
use Rattle.fast_command.specs.meaning.Showing.{IsRefusal}
use Rattle.fast_run.proofs.Running.{refusal_ran, cause_of, begun, shown}
use Rattle.fast_run.proofs.runs.show_over.Goals as goal

pub returns-in-Err : goal.returns-in-Err
returns-in-Err g c =
    let cause = cause_of c.args.templates.now c.args.limits c.in-Err.error
    (λ is. c.in-Err.ensures.bad_limits.0 (ap (λ (e : MakeError). Err e) is))
    (λ is. c.in-Err.ensures.long_initial.0 (ap (λ (e : MakeError). Err e) is)) in
    ([], reads_none _, rw c.refusal.ensures (refusal_ran _ _ _ _ _ (Unit {0}) _ _ _ c.in-Err.error cause))

pub read-ending-requires-clause-begun : goal.read-ending-requires-clause-begun
read-ending-requires-clause-begun g c = begun _ _ _ refl refl c.in-Ok.ensures.made.0 c.unhexer_of.ensures.taken

pub returns-in-Ok-flush : goal.returns-in-Ok-flush
returns-in-Ok-flush g c =
    let h = c.read-ending.ensures in
    let ran = rw c.in-Ok.ensures.made.1 at (rw c.in-Ok.ensures.made.2 at (rw c.unhexer_of.ensures.there at h.2)) in (
      h.0,
      h.1,
      shown g.O.Sink.takes g.O.Output.flushes g.O.Output.puts_fault g.O.Output.puts_cut g.O.Output.has_failed
          (tree_of c.args.templates.now) c.args.limits c.args.hex c.args.output.now.chooser _ _ _ _
          (IsRefusal c.args.templates.now c.args.limits) _ _ h.0 c.read-ending.result
          (c.put_end.ensures.put c.if-not-put_end.false) c.in-Ok-flush.ensures.flushed c.in-Ok-flush.ensures.stays ran,
    )

pub returns : goal.returns
returns g c = let h = c.read-ending.ensures in (h.0, h.1, c.in-Err-flush.ensures.fails)

pub returns-then-not-put_end : goal.returns-then-not-put_end
returns-then-not-put_end g c = let h = c.read-ending.ensures in (h.0, h.1, c.put_end.ensures.fails c.if-not-put_end.true)
