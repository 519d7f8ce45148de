use Rattle.std.proofs.Common.{take}
use Rattle.std.specs.Prelude.{All}
use Rattle.fast_tree.specs.meaning.AsWritten.{all_uses}
use Rattle.fast_notation.specs.device.Sound.{IsSound}
use Rattle.fast_notation.specs.device.WrittenSets.{written_data}
use Rattle.fast_notation.proofs.checks.check_uses.Given as goal

abbrev pub invariant-loop-k : goal.invariant-loop-k
invariant-loop-k l = All (λ t. All IsSound (all_uses (written_data t).fields)) (take l.k l.templates)
