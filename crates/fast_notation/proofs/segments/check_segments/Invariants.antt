use Rattle.std.proofs.Common.{take}
use Rattle.std.specs.Prelude.{All}
use Rattle.fast_tree.specs.meaning.Nodes.{template_data, instructions_from}
use Rattle.fast_notation.specs.device.Segments.{IsNarrow}
use Rattle.fast_notation.proofs.segments.check_segments.Given as goal

abbrev pub invariant-loop-k : goal.invariant-loop-k
invariant-loop-k l = All (λ t. IsNarrow (template_data (instructions_from 0 l.nodes) t)) (take l.k l.templates)
