-- What is kept of a template.
use Rattle.std.proofs.Common.{Vec, Global, ◌∙◌}
use Rattle.fast_tree.specs.declared.instructions.Template.{Template}
use Rattle.fast_template.specs.meaning.Flat.{nodes_of, templates_of}
use Rattle.fast_spelling.specs.declared.forms.BodyStep.{BodyStep}
use Rattle.fast_spelling.specs.device.Forms.{body_steps}
use Rattle.fast_spelling.proofs.rules.FormsTold.{mapped_at}
use Rattle.fast_spelling.proofs.plan.Plan.root.Goals as goal

pub returns : goal.returns
returns c = λ t found.
    let p = c.args.self.now in
    let nodes = nodes_of p.templates.now in
    c.deref.ensures.value ∙ mapped_at (λ (v : Vec BodyStep Global). v.items) (λ (u : Template). body_steps nodes u.body.items) p.roots.items
    (templates_of p.templates.now) c.args.template c.index.result.now t p.roots_fit c.index.ensures found
