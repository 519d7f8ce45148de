use Rattle.std.proofs.Common.{◌≡◌, ◌≤◌, ◌+◌, ◌*◌}
use Rattle.std.specs.Prelude.{drop}
use Rattle.fast_tree.specs.meaning.Tree.{bits_of}
use Rattle.fast_tree.specs.meaning.Nodes.{body_among}
use Rattle.fast_template.proofs.widths.body_bits.Given as goal

-- the bits so far, and those of the nodes that are left
abbrev pub invariant-loop-n : goal.invariant-loop-n
invariant-loop-n l = record {
  sum : l.bits + bits_of (body_among l.nodes (drop l.n-index l.body)) ≡ bits_of (body_among l.nodes l.body);
  few : l.bits ≤ 2 * l.n-index;
}
