-- The body of one template more.
use Rattle.std.proofs.Common.{◌≡◌, ◌<◌, ◌∷◌, [], Vec, Global, length, map, ap, sym, ◌∙◌, arith}
use Rattle.std.specs.Prelude.{Some}
use Rattle.std.proofs.lemmas.List.{map-append, take_all}
use Rattle.fast_tree.specs.declared.instructions.Template.{Template}
use Rattle.fast_template.specs.meaning.Flat.{nodes_of, templates_of}
use Rattle.fast_spelling.specs.declared.forms.BodyStep.{BodyStep}
use Rattle.fast_spelling.specs.device.Forms.{body_steps}
use Rattle.fast_spelling.proofs.rules.FormsTold.{mapped_more}
use Rattle.fast_spelling.proofs.forms.roots_of.Goals as goal

some_is : (x y : Template) → Some x ≡ Some y → x ≡ y
some_is x y e = cc

pub loop-template-preserved : goal.loop-template-preserved
loop-template-preserved c =
    let nodes = nodes_of c.args.templates.now in
    let templates = templates_of c.args.templates.now in
    let items = λ (v : Vec BodyStep Global). v.items in
    let test = c.loop-template-test.true in
    let all = c.count-template-end.ensures in
    let within : c.loop-template.template < length templates = omega (arith, test, all) in
    let u = c.template.result.now in
    ap (map items) c.in_ok-push.ensures.items ∙ map-append items c.loop-template.roots.items (c.in_ok-steps_along.field-0 ∷ [])
    ∙ mapped_more (λ (t : Template). body_steps nodes t.body.items) templates c.loop-template.template (map items c.loop-template.roots.items)
    c.in_ok-steps_along.field-0.items within c.loop-template.invariant
    (λ t found. c.in_ok-steps_along.ensures ∙ ap (body_steps nodes) c.deref.ensures.value
    ∙ ap (λ (z : Template). body_steps nodes z.body.items) (some_is u t (sym c.template.ensures.found ∙ found)))

pub returns : goal.returns
returns c =
    let nodes = nodes_of c.args.templates.now in
    let templates = templates_of c.args.templates.now in
    let test = c.loop-template-test.false in
    let all = c.count-template-end.ensures in
    c.loop-template.invariant
    ∙ ap (map (λ (t : Template). body_steps nodes t.body.items)) (take_all c.loop-template.template templates (omega (arith, test, all)))
