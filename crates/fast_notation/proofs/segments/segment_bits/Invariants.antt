use Rattle.std.proofs.Common.{◌≡◌, ◌≤◌, ◌+◌, ◌*◌, drop}
use Rattle.fast_tree.specs.meaning.Nodes.{body_of, instructions_from}
use Rattle.fast_tree.specs.meaning.Tree.{bits_of}
use Rattle.fast_notation.proofs.segments.segment_bits.Given as goal

abbrev pub invariant-loop-number : goal.invariant-loop-number
invariant-loop-number l = record {
  few : l.bits ≤ 2 * l.number-index;
  all : l.bits + bits_of (body_of 0 (instructions_from 0 l.nodes) (drop l.number-index l.body)) ≡ bits_of (body_of 0 (instructions_from 0 l.nodes) l.body);
}
