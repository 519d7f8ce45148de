use Rattle.std.proofs.Common.{◌≡◌, ap, sym, ◌∙◌, true, false}
use Rattle.fast_template.specs.meaning.Flat.{nodes_of}
use Rattle.fast_c.specs.meaning.Queries.{has_number, names_node}
use Rattle.fast_c.proofs.Firsts.{first_here, first_past}
use Rattle.fast_c.proofs.queries.parent_of.Goals as goal

pub returns-then-contains : goal.returns-then-contains
returns-then-contains c =
    let n = c.args.node in let v = c.node.result.now in
    let has : names_node n v ≡ true = ap (has_number n) (sym c.body_of.ensures) ∙ sym c.contains.ensures.value ∙ c.if-contains.true in
    sym (c.loop-parent.invariant ∙ first_here (names_node n) (nodes_of c.args.set.now) c.loop-parent.parent v c.node.ensures.found has)

pub loop-parent-preserved : goal.loop-parent-preserved
loop-parent-preserved c =
    let n = c.args.node in let v = c.node.result.now in
    let has : names_node n v ≡ false = ap (has_number n) (sym c.body_of.ensures) ∙ sym c.contains.ensures.value ∙ c.if-contains.false in
    c.loop-parent.invariant ∙ first_past (names_node n) (nodes_of c.args.set.now) c.loop-parent.parent v c.node.ensures.found has
