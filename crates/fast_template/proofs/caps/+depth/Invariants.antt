use Rattle.std.proofs.Common.{◌≡◌, drop, length, max}
use Rattle.fast_template.specs.meaning.Flat.{body_of, instructions_from}
use Rattle.fast_template.specs.device.Saturation.{in_32_bits}
use Rattle.fast_tree.specs.meaning.Sizes.{body_depth}
use Rattle.fast_notation.proofs.nodes.Measures.{left_at_node, left_at_body}
use Rattle.fast_template.proofs.caps.+depth.Given as goal

abbrev pub decreases-body_depth : goal.decreases-body_depth
decreases-body_depth l = left_at_body (length l.nodes.now) l.body.now

abbrev pub decreases-node_depth : goal.decreases-node_depth
decreases-node_depth l = left_at_node (length l.nodes.now) l.number

abbrev pub invariant-body_depth-loop-number : goal.invariant-body_depth-loop-number
invariant-body_depth-loop-number l = max l.deepest (in_32_bits
    (body_depth (body_of 0 (instructions_from 0 l.nodes) (drop l.number-index l.body)))) ≡ in_32_bits
    (body_depth (body_of 0 (instructions_from 0 l.nodes) l.body))
