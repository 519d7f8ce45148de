use Rattle.fast_template.specs.meaning.Flat.{tree_of}
use Rattle.std.proofs.Common.{[], inr, refl}
use Rattle.fast_text.proofs.Writing.{appends_none, reads_none}
use Rattle.fast_command.specs.meaning.Showing.{IsRefusal}
use Rattle.fast_command.proofs.Showing.{refusal_shown}
use Rattle.std.proofs.Common.{Err, ap, ◌∙◌}
use Rattle.fast_command.specs.declared.faults.RunFault.{RunFault}
use Rattle.fast_command.specs.meaning.Showing.{refusal_of}
use Rattle.fast_command.proofs.Outcomes.{no_err, same_err}
use Rattle.fast_command.proofs.show.run_show.Goals as goal

pub returns-in-Err-clause-shown : goal.returns-in-Err-clause-shown
returns-in-Err-clause-shown g c =
    let at = refusal_shown (tree_of c.args.templates.now) c.args.limits c.args.hex
    (IsRefusal c.args.templates.now c.args.limits) _ _ _ c.in-Err.error c.in-Err.ensures.refused in
    ([], [], reads_none (g.S.Source.left c.args.reader.now), appends_none (g.T.Target.written c.args.writer.now), rw c.refusal.ensures at)

pub returns-in-Ok-clause-shown : goal.returns-in-Ok-clause-shown
returns-in-Ok-clause-shown g c = c.show_reads.ensures.shown

pub returns-in-Ok-clause-bad_limits : goal.returns-in-Ok-clause-bad_limits
returns-in-Ok-clause-bad_limits g c = λ bad. absurd (no_err (c.in-Ok.ensures.bad_limits bad))

pub returns-in-Ok-clause-long_initial : goal.returns-in-Ok-clause-long_initial
returns-in-Ok-clause-long_initial g c = λ bad. absurd (no_err (c.in-Ok.ensures.long_initial bad))

pub show_reads-requires-clause-made : goal.show_reads-requires-clause-made
show_reads-requires-clause-made g c = c.in-Ok.ensures.made

pub returns-in-Err-clause-writer_told : goal.returns-in-Err-clause-writer_told
returns-in-Err-clause-writer_told g c = inr refl

pub returns-in-Err-clause-reader_told : goal.returns-in-Err-clause-reader_told
returns-in-Err-clause-reader_told g c = inr refl

pub returns-in-Ok-clause-writer_told : goal.returns-in-Ok-clause-writer_told
returns-in-Ok-clause-writer_told g c = c.show_reads.ensures.writer_told

pub returns-in-Ok-clause-reader_told : goal.returns-in-Ok-clause-reader_told
returns-in-Ok-clause-reader_told g c = c.show_reads.ensures.reader_told

pub show_reads-requires-clause-few : goal.show_reads-requires-clause-few
show_reads-requires-clause-few g c = c.requires

pub returns-in-Err-clause-bad_limits : goal.returns-in-Err-clause-bad_limits
returns-in-Err-clause-bad_limits g c = λ bad. ap (λ (f : RunFault). Err f) (c.refusal.ensures ∙ ap refusal_of (same_err (c.in-Err.ensures.bad_limits bad)))

pub returns-in-Err-clause-long_initial : goal.returns-in-Err-clause-long_initial
returns-in-Err-clause-long_initial g c = λ bad. ap (λ (f : RunFault). Err f) (c.refusal.ensures ∙ ap refusal_of (same_err (c.in-Err.ensures.long_initial bad)))
