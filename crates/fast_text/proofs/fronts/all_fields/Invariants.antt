use Rattle.std.proofs.Common.{◌≡◌, length}
use Rattle.fast_template.specs.meaning.Flat.{tree_of}
use Rattle.fast_text.specs.device.Front.{field_front, AreFronts}
use Rattle.fast_text.proofs.fronts.all_fields.Given as goal

-- the fronts of the nodes so far
abbrev pub invariant-loop-n : goal.invariant-loop-n
invariant-loop-n l = (length l.fronts.items ≡ l.n) × AreFronts (field_front (tree_of l.templates)) l.fronts.items
