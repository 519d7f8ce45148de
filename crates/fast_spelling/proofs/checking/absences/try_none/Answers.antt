-- What an absence writes is what its step says.
use Rattle.std.proofs.Common.{[], ◌∷◌, ap, sym, ◌∙◌}
use Rattle.std.specs.Prelude.{false}
use Rattle.std.proofs.lemmas.List.{append-nil}
use Rattle.fast_spelling.specs.declared.forms.Step.{Step}
use Rattle.fast_spelling.specs.declared.forms.Absence.TheVariants.{Null, Clear}
use Rattle.fast_spelling.proofs.rules.Heads.{node_step, absence_suits, absent_null, absent_clear, null_not, clear_not}
use Rattle.fast_spelling.proofs.checking.absences.try_none.Goals as goal

pub returns-in_ok-push_byte-in-Null-clause-suits : goal.returns-in_ok-push_byte-in-Null-clause-suits
returns-in_ok-push_byte-in-Null-clause-suits c =
    let h = node_step c.args.plan.now c.args.here.now c.requires.node in
    absence_suits c.args.plan.now.templates.now c.args.here.now.node h.0 Null h.1 (ap (λ (s : Step). s.absence) h.2 ∙ c.in-Null.is) null_not

pub returns-in_ok-push_byte-in-Null-clause-ok : goal.returns-in_ok-push_byte-in-Null-clause-ok
returns-in_ok-push_byte-in-Null-clause-ok c =
    let h = node_step c.args.plan.now c.args.here.now c.requires.node in (
      [],
      0x80 ∷ [],
      sym (append-nil c.args.work.now.draft.bits),
      c.in_ok-push_byte-in-Null.ensures,
      absent_null c.args.plan.now.templates.now c.args.plan.now.limits c.args.here.now.node h.0 c.args.work.now.ledger.now h.1
          (ap (λ (s : Step). s.absence) h.2 ∙ c.in-Null.is),
    )

pub returns-in_ok-push_bit-in-Clear-clause-suits : goal.returns-in_ok-push_bit-in-Clear-clause-suits
returns-in_ok-push_bit-in-Clear-clause-suits c =
    let h = node_step c.args.plan.now c.args.here.now c.requires.node in
    absence_suits c.args.plan.now.templates.now c.args.here.now.node h.0 Clear h.1 (ap (λ (s : Step). s.absence) h.2 ∙ c.in-Clear.is) clear_not

pub returns-in_ok-push_bit-in-Clear-clause-ok : goal.returns-in_ok-push_bit-in-Clear-clause-ok
returns-in_ok-push_bit-in-Clear-clause-ok c =
    let h = node_step c.args.plan.now c.args.here.now c.requires.node in (
      false ∷ [],
      [],
      c.in_ok-push_bit-in-Clear.ensures.bits,
      c.push_bit.ensures.bytes ∙ sym (append-nil c.args.work.now.draft.bytes.items),
      absent_clear c.args.plan.now.templates.now c.args.plan.now.limits c.args.here.now.node h.0 c.args.work.now.ledger.now h.1
          (ap (λ (s : Step). s.absence) h.2 ∙ c.in-Clear.is),
    )
