use Rattle.std.proofs.Common.{◌≡◌, ℕ, ◌<◌, Some, length}
use Rattle.std.specs.Prelude.{slice_get, slice_index}
use Rattle.fast_tree.specs.declared.instructions.Node.{Node}
use Rattle.fast_tree.specs.meaning.Tree.{bits_of}
use Rattle.fast_tree.specs.meaning.Numbers.{numbers_of}
use Rattle.fast_tree.specs.meaning.Nodes.{body_among}
use Rattle.fast_template.proofs.widths.segment_widths_of.Given as goal

-- the widths of the nodes so far
abbrev pub invariant-loop-node : goal.invariant-loop-node
invariant-loop-node l = record {
  long : length l.widths.items ≡ l.node-index;
  each : (k : ℕ) (v : Node) → k < l.node-index → slice_get l.nodes k ≡ Some v
      → slice_index l.widths.items k ≡ bits_of (body_among l.nodes (numbers_of v.shape));
}
