-- What was shown stays so where it is flushed; else the writer's failure is told.
use Rattle.std.proofs.Common.{◌≡◌, ◌∙◌, sym, refl, inl, true}
use Rattle.fast_template.specs.meaning.Flat.{tree_of}
use Rattle.fast_text.proofs.Writing.{appends_no_more}
use Rattle.fast_command.specs.meaning.Showing.{IsRefusal, has_begun}
use Rattle.fast_command.proofs.Flushed.{unflushed, had_begun}
use Rattle.fast_command.proofs.Outcomes.{still_told}
use Rattle.fast_command.proofs.show.show_all.Goals as goal

pub returns-in-Ok-clause-shown : goal.returns-in-Ok-clause-shown
returns-in-Ok-clause-shown g c =
    let h = c.run_show-ending.ensures.shown in
    (h.0, h.1, h.2, appends_no_more _ _ _ h.1 h.3 c.flush.ensures.kept, rw c.in-Ok.ensures.stays h.4)

pub returns-in-Err-clause-shown : goal.returns-in-Err-clause-shown
returns-in-Err-clause-shown g c =
    let h = c.run_show-ending.ensures.shown in
    let begun : has_begun c.run_show-ending.result ≡ true = sym c.has_begun.ensures ∙ c.if-not-has_begun.false in (
      h.0,
      h.1,
      h.2,
      appends_no_more _ _ _ h.1 h.3 c.flush.ensures.kept,
      unflushed (tree_of c.args.templates.now) c.args.limits c.args.hex
          (IsRefusal c.args.templates.now c.args.limits) _ _ _ _ h.0 h.1 c.run_show-ending.result begun c.in-Err.ensures.fails h.4,
    )

pub run_show-ending-requires : goal.run_show-ending-requires
run_show-ending-requires g c = c.requires

pub returns-then-not-has_begun-clause-shown : goal.returns-then-not-has_begun-clause-shown
returns-then-not-has_begun-clause-shown g c = c.run_show-ending.ensures.shown

pub returns-in-Ok-clause-writer_told : goal.returns-in-Ok-clause-writer_told
returns-in-Ok-clause-writer_told g c = still_told c.run_show-ending.ensures.writer_told c.in-Ok.ensures.stays

pub returns-in-Ok-clause-bad_limits : goal.returns-in-Ok-clause-bad_limits
returns-in-Ok-clause-bad_limits g c = c.run_show-ending.ensures.bad_limits

pub returns-in-Ok-clause-long_initial : goal.returns-in-Ok-clause-long_initial
returns-in-Ok-clause-long_initial g c = c.run_show-ending.ensures.long_initial

pub returns-in-Err-clause-writer_told : goal.returns-in-Err-clause-writer_told
returns-in-Err-clause-writer_told g c = inl refl

pub returns-in-Err-clause-bad_limits : goal.returns-in-Err-clause-bad_limits
returns-in-Err-clause-bad_limits g c = λ bad. absurd (had_begun _ _ (sym c.has_begun.ensures ∙ c.if-not-has_begun.false)
    (c.run_show-ending.ensures.bad_limits bad))

pub returns-in-Err-clause-long_initial : goal.returns-in-Err-clause-long_initial
returns-in-Err-clause-long_initial g c = λ bad. absurd (had_begun _ _ (sym c.has_begun.ensures ∙ c.if-not-has_begun.false)
    (c.run_show-ending.ensures.long_initial bad))
