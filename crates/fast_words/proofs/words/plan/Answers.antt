use Rattle.std.proofs.Common.{◌≡◌, List, [], ap, map, is_some, ◌∙◌, sym, subst}
use Rattle.std.proofs.lemmas.Result.{err_from_is_err_and}
use Rattle.clap.specs.Faults.{fault_of, is_simple_and_free}
use Rattle.clap.specs.Kinds.{HasKind}
use Rattle.clap.specs.Simple.{app_of, is_simple, subcommand_of}
use Rattle.clap.specs.Matches.{found_of}
use Rattle.clap.specs.Walk.{Text, rows_of}
use Rattle.std.proofs.lemmas.Bool.{false≢true}
use Rattle.fast_usage.specs.meaning.Commands.{fastcat_app}
use Rattle.fast_usage.proofs.Making.{fastcat_simple, fastcat_free}
use Rattle.fast_words.specs.meaning.Words.{IsPlanOf}
use Rattle.fast_words.proofs.Subcommands.{names_one, found_both, still_there}
use Rattle.fast_words.proofs.words.plan.Goals as goal
use Rattle.fast_words.proofs.words.plan.Goals.{in-Some, in-None}

pub returns-in_err-matches-clause-fault : goal.returns-in_err-matches-clause-fault
returns-in_err-matches-clause-fault c =
    let made : app_of c.in_ok-fastcat_command.field-0 ≡ fastcat_app = c.in_ok-fastcat_command.ensures.is in
    let words : List Text = map (λ w. w.now) c.args.words.now in
    let e = c.in_err-matches.field-0.0 in
    let fails : HasKind (fault_of fastcat_app words) e = subst (λ a. HasKind (fault_of a words) e) made
    (c.in_err-matches.ensures.kinds (ap is_simple_and_free made ∙ fastcat_free)) in
    let r = err_from_is_err_and c.from_residual-in_err-matches.result c.from_residual-in_err-matches.ensures.1 in
    rw (r.1, r.2) fails

pub returns-clause-plan : goal.returns-clause-plan
returns-clause-plan c =
    let made : app_of c.in_ok-fastcat_command.field-0 ≡ fastcat_app = c.in_ok-fastcat_command.ensures.is in
    let words : List Text = map (λ w. w.now) c.args.words.now in
    let taken : fault_of fastcat_app words ≡ [] = subst (λ a. fault_of a words ≡ []) made
    (c.in_ok-matches.ensures.kinds (ap is_simple_and_free made ∙ fastcat_free)) in
    let matches = (c.in_ok-matches.ensures.matches (ap is_simple made ∙ fastcat_simple)).1 ∙ ap (λ a. subcommand_of a words) made in
    elim c.match-subcommand.branch [
      | in-Some w ↦ (
        w.in-Some.name.now,
        rows_of (found_of w.in-Some.given.now),
        sym matches ∙ found_both _ _ _ _ _ (sym w.in-Some.ensures.name) (sym w.in-Some.ensures.rows),
        subst (IsPlanOf w.in-Some.name.now (rows_of (found_of w.in-Some.given.now))) (sym w.result-is) w.plan_of.ensures,
      )
      | in-None w ↦ absurd (false≢true (w.in-None.ensures.variant ∙ sym (still_there _ _) ∙ ap is_some matches ∙ names_one words taken))
    ]

pub returns-clause-fault : goal.returns-clause-fault
returns-clause-fault c =
    let made : app_of c.in_ok-fastcat_command.field-0 ≡ fastcat_app = c.in_ok-fastcat_command.ensures.is in
    let words : List Text = map (λ w. w.now) c.args.words.now in
    subst (λ a. fault_of a words ≡ []) made (c.in_ok-matches.ensures.kinds (ap is_simple_and_free made ∙ fastcat_free))
