use Rattle.std.proofs.Common.{◌≡◌, ◌+◌, ℕ, drop, length, max}
use Rattle.fast_template.specs.device.Counts.{AreCounts}
use Rattle.fast_template.specs.meaning.Flat.{body_of, instructions_from}
use Rattle.fast_tree.specs.meaning.Sizes.{event_weights, body_size, body_outer, body_widest}
use Rattle.fast_notation.proofs.nodes.Measures.{left_at_node, left_at_body}
use Rattle.fast_template.proofs.caps.+counts.Given as goal

abbrev pub decreases-body_counts : goal.decreases-body_counts
decreases-body_counts l = left_at_body (length l.nodes.now) l.body.now

abbrev pub decreases-node_counts : goal.decreases-node_counts
decreases-node_counts l = left_at_node (length l.nodes.now) l.number

abbrev pub invariant-body_counts-loop-number : goal.invariant-body_counts-loop-number
invariant-body_counts-loop-number l =
    let rest = body_of 0 (instructions_from 0 l.nodes) (drop l.number-index l.body) in
    let whole = body_of 0 (instructions_from 0 l.nodes) l.body in
    (a o w : ℕ) × AreCounts l.counts a o w × (a + body_size event_weights l.limits rest ≡ body_size event_weights l.limits whole)
    × (o + body_outer event_weights rest ≡ body_outer event_weights whole) × (max w (body_widest event_weights rest) ≡ body_widest event_weights whole)
