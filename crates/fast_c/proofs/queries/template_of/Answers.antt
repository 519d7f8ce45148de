use Rattle.std.proofs.Common.{◌≡◌, ap, sym, ◌∙◌, true, false}
use Rattle.fast_template.specs.meaning.Flat.{templates_of}
use Rattle.fast_c.specs.meaning.Queries.{has_number, has_node}
use Rattle.fast_c.proofs.Firsts.{first_here, first_past}
use Rattle.fast_c.proofs.queries.template_of.Goals as goal

pub returns-then-contains : goal.returns-then-contains
returns-then-contains c =
    let n = c.args.node in let t = c.template.result.now in
    let has : has_node n t ≡ true = ap (has_number n) (sym c.deref.ensures.value) ∙ sym c.contains.ensures.value ∙ c.if-contains.true in
    sym (c.loop-template.invariant ∙ first_here (has_node n) (templates_of c.args.set.now) c.loop-template.template t c.template.ensures.found has)

pub loop-template-preserved : goal.loop-template-preserved
loop-template-preserved c =
    let n = c.args.node in let t = c.template.result.now in
    let has : has_node n t ≡ false = ap (has_number n) (sym c.deref.ensures.value) ∙ sym c.contains.ensures.value ∙ c.if-contains.false in
    c.loop-template.invariant ∙ first_past (has_node n) (templates_of c.args.set.now) c.loop-template.template t c.template.ensures.found has
