-- The goals that a wrong body would leave: `search` proves them of this one, and named ones say at once what is missing.
use Rattle.std.proofs.Common.{rules}
use Rattle.fast_dict.proofs.operators.texts.tail_keeps.Goals as goal

pub returns-then-size-base : goal.returns-then-size-base
returns-then-size-base c = search rules
