use Rattle.std.proofs.Common.{drop, length}
use Rattle.fast_template.specs.meaning.Flat.{nodes_of}
use Rattle.fast_text.specs.declared.line_writer.LineWriter.{LineWriter}
use Rattle.fast_text.specs.meaning.LineWriter.{Writes}
use Rattle.fast_tree.specs.meaning.Nodes.{body_among}
use Rattle.fast_notation.proofs.nodes.Measures.{left_at_node, left_at_body}
use Rattle.fast_command.specs.device.Paths.{path_text}
use Rattle.fast_command.specs.meaning.Listing.{body_lines}
use Rattle.fast_command.proofs.list.+lines.Given as goal

abbrev pub decreases-put_body : goal.decreases-put_body
decreases-put_body g l = left_at_body (length (nodes_of l.templates.now)) l.body.now

abbrev pub decreases-put_node : goal.decreases-put_node
decreases-put_node g l = left_at_node (length (nodes_of l.templates.now)) l.number

-- Who writes the lines that are left writes all.
abbrev pub invariant-put_body-loop-number : goal.invariant-put_body-loop-number
invariant-put_body-loop-number g l = (end : LineWriter g.row.T.Denot)
    → Writes g.T.Target.written g.T.Target.has_failed l.line
    (body_lines (path_text l.path) (body_among (nodes_of l.templates) (drop l.number-index l.body))) end
    → Writes g.T.Target.written g.T.Target.has_failed l.fn.line (body_lines (path_text l.path) (body_among (nodes_of l.templates) l.body)) end
