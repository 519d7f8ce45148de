use Rattle.std.proofs.Common.{◌≡◌, ℕ, ◌<◌, ◌↔◌, Some, length}
use Rattle.std.specs.Prelude.{slice_get, slice_index_or, false, IsTrue}
use Rattle.fast_tree.specs.declared.instructions.Node.{Node}
use Rattle.fast_template.specs.meaning.Flat.{nodes_of, tree_of}
use Rattle.fast_tree.specs.meaning.NodeData.{shape_data}
use Rattle.fast_dict.specs.meaning.EntryTexts.{AnyField, HoldsTextAt}
use Rattle.fast_machine.proofs.layout.text_marks.Given as goal

-- the entries of the nodes so far are marked
abbrev pub invariant-loop-n : goal.invariant-loop-n
invariant-loop-n l = record {
  long : length l.marks.items ≡ (tree_of l.templates).entries;
  marked : (e : ℕ) → IsTrue (slice_index_or l.marks.items e false) ↔
      ((k : ℕ) × (v : Node) × (k < l.n) × (slice_get (nodes_of l.templates) k ≡ Some v) × AnyField (HoldsTextAt e) (shape_data v.shape));
}
