use Rattle.std.proofs.Common.{take}
use Rattle.std.specs.Prelude.{All}
use Rattle.fast_template.specs.meaning.TextFields.{IsTextNode}
use Rattle.fast_template.proofs.sets.Templates.holds_text.Given as goal

abbrev pub invariant-loop-node : goal.invariant-loop-node
invariant-loop-node l = All (λ v. ¬ (IsTextNode l.entry v)) (take l.node-index l.self.nodes.items)
