use Rattle.std.proofs.lemmas.Grind.{elements}
use Rattle.std.proofs.Common.{arith}
use Rattle.fast_lines.proofs.holding.elements_are_bytes.Goals as goal

pub returns : goal.returns
returns c = grind (arith, elements)
