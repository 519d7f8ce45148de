-- The body of one node more.
use Rattle.std.proofs.Common.{◌<◌, ◌∷◌, [], Vec, Global, length, map, ap, ◌∙◌, arith}
use Rattle.std.proofs.lemmas.List.{map-append, take_all}
use Rattle.fast_tree.specs.declared.instructions.Node.{Node}
use Rattle.fast_tree.specs.meaning.Numbers.{numbers_of}
use Rattle.fast_template.specs.meaning.Flat.{nodes_of}
use Rattle.fast_spelling.specs.declared.forms.BodyStep.{BodyStep}
use Rattle.fast_spelling.specs.device.Forms.{body_steps}
use Rattle.fast_spelling.proofs.rules.FormsTold.{mapped_more}
use Rattle.fast_spelling.proofs.forms.bodies_of.Goals as goal

pub loop-node-preserved : goal.loop-node-preserved
loop-node-preserved c =
    let nodes = nodes_of c.args.templates.now in
    let items = λ (v : Vec BodyStep Global). v.items in
    let test = c.loop-node-test.true in
    let all = c.nodes-node-end.ensures.number in
    let within : c.loop-node.node < length nodes = omega (arith, test, all) in
    ap (map items) c.in_ok-push.ensures.items ∙ map-append items c.loop-node.bodies.items (c.in_ok-node_steps.field-0 ∷ [])
    ∙ mapped_more (λ (x : Node). body_steps nodes (numbers_of x.shape)) nodes c.loop-node.node (map items c.loop-node.bodies.items)
    c.in_ok-node_steps.field-0.items within c.loop-node.invariant c.in_ok-node_steps.ensures

pub returns : goal.returns
returns c =
    let nodes = nodes_of c.args.templates.now in
    let test = c.loop-node-test.false in
    let all = c.nodes-node-end.ensures.number in
    c.loop-node.invariant ∙ ap (map (λ (x : Node). body_steps nodes (numbers_of x.shape))) (take_all c.loop-node.node nodes (omega (arith, test, all)))
