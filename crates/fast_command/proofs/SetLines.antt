-- The numbers of a set.
use Rattle.std.proofs.Common.{◌≡◌, ℕ, List, [], ◌∷◌, refl, ap, suc, length}
use Rattle.fast_tree.specs.declared.instructions.Node.{Node}
use Rattle.fast_notation.specs.meaning.Labels.{labels_from}

-- as many labels as nodes
pub labels_count : (own : ℕ) (ns : List Node) → length (labels_from own ns) ≡ length ns
labels_count own [] = refl
labels_count own (n ∷ ns) = ap suc (labels_count (suc own) ns)
