-- The goal that a wrong body would leave: `search` proves it of this one, and a named one says at once what is missing.
use Rattle.std.proofs.Common.{rules}
use Rattle.fast_dict.proofs.operators.texts.joined.Goals as goal

pub returns : goal.returns
returns c = search rules
