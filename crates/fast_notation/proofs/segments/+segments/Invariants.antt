use Rattle.std.proofs.Common.{drop, length}
use Rattle.std.specs.Prelude.{◌↔◌}
use Rattle.fast_notation.specs.meaning.Checked.{AreNarrowInside}
use Rattle.fast_tree.specs.meaning.Nodes.{body_of, instructions_from}
use Rattle.fast_notation.proofs.nodes.Measures.{left_at_node, left_at_body}
use Rattle.fast_notation.proofs.segments.+segments.Given as goal

abbrev pub decreases-is_narrow_segment : goal.decreases-is_narrow_segment
decreases-is_narrow_segment l = left_at_body (length l.nodes.now) l.body.now

abbrev pub decreases-is_narrow_inside : goal.decreases-is_narrow_inside
decreases-is_narrow_inside l = left_at_node (length l.nodes.now) l.number

abbrev pub invariant-is_narrow_segment-loop-number : goal.invariant-is_narrow_segment-loop-number
invariant-is_narrow_segment-loop-number l =
    AreNarrowInside (body_of 0 (instructions_from 0 l.nodes) l.body) ↔ AreNarrowInside (body_of 0 (instructions_from 0 l.nodes) (drop l.number-index l.body))
