-- The step of one node more.
use Rattle.std.proofs.Common.{◌++◌, ◌∷◌, [], ℕ, List, get_or, take, ap, ◌∙◌}
use Rattle.std.proofs.lemmas.List.{take_all}
use Rattle.fast_template.specs.meaning.Flat.{nodes_of}
use Rattle.fast_spelling.specs.declared.forms.Step.{Step}
use Rattle.fast_spelling.specs.declared.forms.BodyStep.{BodyStep}
use Rattle.fast_spelling.specs.device.Forms.{body_steps}
use Rattle.fast_spelling.proofs.rules.FormsTold.{steps_more}
use Rattle.fast_spelling.proofs.forms.steps_along.Goals as goal

pub loop-i-preserved : goal.loop-i-preserved
loop-i-preserved c =
    let nodes = nodes_of c.args.templates.now in
    let body = c.args.body.now in
    let i = c.loop-i.i in
    let n : ℕ = get_or body i 0 in
    c.in_ok-push.ensures.items ∙ ap (λ (z : List BodyStep). z ++ record { node = n; step = c.of.result } ∷ []) c.loop-i.invariant
    ∙ ap (λ (s : Step). body_steps nodes (take i body) ++ record { node = n; step = s } ∷ []) c.of.ensures
    ∙ steps_more nodes body i c.node.result.now c.loop-i-test.true c.node.ensures.found

pub returns : goal.returns
returns c = c.loop-i.invariant ∙ ap (body_steps (nodes_of c.args.templates.now)) (take_all c.loop-i.i c.args.body.now c.loop-i-test.false)
