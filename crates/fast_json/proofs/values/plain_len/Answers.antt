use Rattle.std.proofs.Common.{arith}
use Rattle.std.proofs.lemmas.Grind.{elements}
use Rattle.fast_json.proofs.values.plain_len.Goals as goal

pub returns-clause-within : goal.returns-clause-within
returns-clause-within c = grind (arith, elements) steps 2000000

pub returns-clause-plain : goal.returns-clause-plain
returns-clause-plain c = grind (arith, elements) steps 2000000
