use Rattle.std.proofs.Common.{sym, refl, subst}
use Rattle.std.proofs.lemmas.Bool.{false≢true}
use Rattle.std.proofs.lemmas.List.Elements.{All-more}
use Rattle.fast_template.specs.meaning.TextFields.{IsTextNode}
use Rattle.fast_notation.proofs.lists.Lists.{all_taken}
use Rattle.fast_template.proofs.TextNodes.{holds_as_nodes, nodes_as_holds}
use Rattle.fast_template.proofs.sets.Templates.holds_text.Goals as goal

pub returns-then-is_text_node-clause-nodes : goal.returns-then-is_text_node-clause-nodes
returns-then-is_text_node-clause-nodes c =
    let d = c.deref-node-items.ensures.value in
    let inside = rw d at c.loop-node-test.true in
    let read = rw d at c.node-item.is in
    ((λ h. (c.loop-node.node-index, c.node-item.result, inside, sym read, c.if-is_text_node.ensures.0 refl)), (λ h. refl))

pub returns-then-is_text_node-clause-tree : goal.returns-then-is_text_node-clause-tree
returns-then-is_text_node-clause-tree c =
    let d = c.deref-node-items.ensures.value in
    let inside = rw d at c.loop-node-test.true in
    let read = rw d at c.node-item.is in (
      (λ h. holds_as_nodes c.args.self.now c.args.entry (
        c.loop-node.node-index,
        c.node-item.result,
        inside,
        sym read,
        c.if-is_text_node.ensures.0 refl,
      )),
      (λ h. refl),
    )

pub loop-node-preserved : goal.loop-node-preserved
loop-node-preserved c =
    let d = c.deref-node-items.ensures.value in
    let ns = c.args.self.now.nodes.items in
    let read = rw d at c.node-item.is in
    All-more (λ v. ¬ (IsTextNode c.args.entry v)) ns c.loop-node.node-index c.node-item.result (rw d at c.loop-node-test.true) c.loop-node.invariant
    (subst (λ v. ¬ (IsTextNode c.args.entry v)) read (λ e. false≢true (c.if-is_text_node.ensures.1 e)))

pub returns-clause-nodes : goal.returns-clause-nodes
returns-clause-nodes c =
    let d = c.deref-node-items.ensures.value in
    let none = all_taken (λ v. ¬ (IsTextNode c.args.entry v)) c.args.self.now.nodes.items c.loop-node.node-index
    (rw d at c.loop-node-test.false) c.loop-node.invariant in
    ((λ h. absurd (false≢true h)), (λ some. absurd (none some.0 some.1 some.2 (subst (IsTextNode c.args.entry) (sym some.3) some.4))))

pub returns-clause-tree : goal.returns-clause-tree
returns-clause-tree c =
    let d = c.deref-node-items.ensures.value in
    let none = all_taken (λ v. ¬ (IsTextNode c.args.entry v)) c.args.self.now.nodes.items c.loop-node.node-index
    (rw d at c.loop-node-test.false) c.loop-node.invariant in (
      (λ h. absurd (false≢true h)),
      (λ holds. let some = nodes_as_holds c.args.self.now c.args.entry holds in
          absurd (none some.0 some.1 some.2 (subst (IsTextNode c.args.entry) (sym some.3) some.4))),
    )
