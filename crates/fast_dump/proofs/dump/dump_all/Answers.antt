use Rattle.std.proofs.Common.{◌⊎◌, ◌≤◌, ℕ, length, ap, sym, refl, subst, List, [], Err}
use Rattle.std.specs.Prelude.{IsTrue}
use Rattle.std.specs.Io.KnownBytes.{IsAtEnd}
use Rattle.fast_stream.specs.declared.faults.MakeError.{MakeError}
use Rattle.fast_template.specs.meaning.Flat.{tree_of}
use Rattle.fast_text.proofs.Writing.{reads_none}
use Rattle.fast_command.specs.meaning.Showing.{IsRefusal}
use Rattle.fast_run.proofs.Running.{cause_of}
use Rattle.fast_dump.specs.meaning.Pages.{IsPage}
use Rattle.fast_dump.proofs.Ending.{finished, not_made, begun}
use Rattle.fast_dump.proofs.dump.dump_all.Goals as goal

pub returns-in-Err : goal.returns-in-Err
returns-in-Err g c =
    let cause = cause_of c.args.templates.now c.args.limits c.in-Err.error
    (λ is. c.in-Err.ensures.bad_limits.0 (ap (λ (e : MakeError). Err e) is))
    (λ is. c.in-Err.ensures.long_initial.0 (ap (λ (e : MakeError). Err e) is)) in
    let none : List ℕ = [] in (
      [],
      reads_none _,
      rw c.refusal.ensures (not_made (tree_of c.args.templates.now) c.args.limits c.args.hex
          (IsRefusal c.args.templates.now c.args.limits) (IsAtEnd (g.S.Source.left c.args.reader.now))
          (IsTrue (g.S.Source.has_failed c.args.reader.now) ⊎ (c.args.max_reads ≤ length none)) (g.T.Target.written c.args.writer)
          (g.T.Target.has_failed c.args.writer) c.in-Err.error cause),
    )

pub read-ending-requires-clause-begun : goal.read-ending-requires-clause-begun
read-ending-requires-clause-begun g c =
    let page = c.new-page.ensures.page (ap tree_of c.in-Ok-new.ensures) in
    let held = subst (λ x. IsPage g.T.Target.written g.T.Target.has_failed (g.T.Target.written x) (g.T.Target.has_failed x)
    (tree_of c.args.templates.now) c.new-page.result [] []) (sym c.new-page.ensures.target) page in
    begun _ _ _ _ _ _ refl refl c.in-Ok.ensures.made.0 (rw c.in-Ok.ensures.made.1 held)

pub returns : goal.returns
returns g c =
    let h = c.read-ending.ensures in
    let ran = rw c.new-page.ensures.target at (rw c.in-Ok.ensures.made.1 at (rw c.in-Ok.ensures.made.2 at (rw c.unhexer_of-unhexer.ensures.there at h.2))) in
    let flushed = rw c.into_target-writer.ensures at c.finish-ending.ensures in (
      h.0,
      h.1,
      finished (tree_of c.args.templates.now) c.args.limits c.args.hex (IsRefusal c.args.templates.now c.args.limits)
          (Unit {0}) _ _ _ _ _ _ _ _ h.0 c.read-ending.result c.finish-ending.result ran flushed,
    )
