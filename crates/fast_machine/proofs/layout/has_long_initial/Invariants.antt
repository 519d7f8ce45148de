use Rattle.std.proofs.Common.{◌≡◌, ℕ, ◌<◌, Some}
use Rattle.std.specs.Prelude.{slice_get}
use Rattle.fast_tree.specs.declared.instructions.Node.{Node}
use Rattle.fast_template.specs.meaning.Flat.{nodes_of}
use Rattle.fast_tree.specs.meaning.NodeData.{shape_data}
use Rattle.fast_dict.specs.meaning.EntryTexts.{AnyField, IsLongText}
use Rattle.fast_machine.proofs.layout.has_long_initial.Given as goal

-- none of the nodes so far has a long initial value
abbrev pub invariant-loop-n : goal.invariant-loop-n
invariant-loop-n l = (k : ℕ) (v : Node) → k < l.n → slice_get (nodes_of l.templates) k ≡ Some v
    → ¬ (AnyField (λ f. IsLongText l.max_text f.initial) (shape_data v.shape))
