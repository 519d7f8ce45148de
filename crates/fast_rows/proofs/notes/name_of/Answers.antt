use Rattle.std.proofs.Common.{◌∙◌, sym, arith}
use Rattle.fast_text.proofs.Names.{node_named, node_unnamed}
use Rattle.fast_rows.proofs.notes.name_of.Goals as goal

pub returns-then-node-nodes : goal.returns-then-node-nodes
returns-then-node-nodes c = c.as_str.ensures.value ∙ sym
    (node_named c.args.templates.now c.args.node c.node.result.now c.nodes.ensures.preorder c.node.ensures.found)

pub returns-else-node-nodes : goal.returns-else-node-nodes
returns-else-node-nodes c = sym (node_unnamed c.args.templates.now c.args.node c.nodes.ensures.preorder (omega arith))
