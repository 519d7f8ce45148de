use Rattle.std.proofs.Common.{sym, subst, []}
use Rattle.fast_program.specs.device.Runs.{AreNumbered, Begins}
use Rattle.fast_program.specs.device.Programs.{SuitNodes}
use Rattle.fast_program.proofs.KeptPrograms.{kept_rests, kept_numbered, kept_suits}
use Rattle.fast_template.specs.declared.sets.Templates.{Templates}
use Rattle.fast_template.proofs.sets.Templates.program.Goals as goal

pub returns-clause-rests : goal.returns-clause-rests
returns-clause-rests c =
    let t : Templates = c.args.self.now in
    subst (λ os. Begins os 0 []) (sym c.deref.ensures.value) (kept_rests t.program t.templates.items t.nodes.items t.program_of_set)

pub returns-clause-numbered : goal.returns-clause-numbered
returns-clause-numbered c =
    let t : Templates = c.args.self.now in
    subst AreNumbered (sym c.deref.ensures.value) (kept_numbered t.program t.templates.items t.nodes.items t.program_of_set)

pub returns-clause-suits : goal.returns-clause-suits
returns-clause-suits c =
    let t : Templates = c.args.self.now in
    subst (λ os. SuitNodes os t.nodes.items) (sym c.deref.ensures.value) (kept_suits t.program t.templates.items t.nodes.items t.program_of_set)
