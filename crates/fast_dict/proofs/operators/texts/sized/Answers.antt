-- The goals that a wrong body would leave: `search` proves them of this one, and named ones say at once what is missing.
use Rattle.std.proofs.Common.{rules}
use Rattle.fast_dict.proofs.operators.texts.sized.Goals as goal

pub returns-else-size-room : goal.returns-else-size-room
returns-else-size-room c = search rules
