use Rattle.std.proofs.Common.{take}
use Rattle.std.specs.Prelude.{All}
use Rattle.fast_tree.specs.meaning.AsWritten.{IsNameByte}
use Rattle.fast_notation.proofs.names.is_name.Given as goal

abbrev pub invariant-loop-b : goal.invariant-loop-b
invariant-loop-b l = All IsNameByte (take l.b-index l.name)
