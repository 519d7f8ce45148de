-- What is kept of a node.
use Rattle.std.proofs.Common.{Vec, Global, ◌∙◌}
use Rattle.fast_tree.specs.declared.instructions.Node.{Node}
use Rattle.fast_tree.specs.meaning.Numbers.{numbers_of}
use Rattle.fast_template.specs.meaning.Flat.{nodes_of}
use Rattle.fast_spelling.specs.declared.forms.BodyStep.{BodyStep}
use Rattle.fast_spelling.specs.device.Forms.{body_steps}
use Rattle.fast_spelling.proofs.rules.FormsTold.{mapped_at}
use Rattle.fast_spelling.proofs.plan.Plan.body.Goals as goal

pub returns : goal.returns
returns c = λ x found.
    let p = c.args.self.now in
    let nodes = nodes_of p.templates.now in
    c.deref.ensures.value ∙ mapped_at (λ (v : Vec BodyStep Global). v.items) (λ (y : Node). body_steps nodes (numbers_of y.shape)) p.bodies.items nodes
    c.args.node c.index.result.now x p.bodies_fit c.index.ensures found
