-- The goals that a wrong body would leave: `search` proves them of this one, and named ones say at once what is missing.
use Rattle.std.proofs.Common.{rules}
use Rattle.fast_dict.proofs.slots.Slots.previous.Goals as goal

pub returns-in-Empty : goal.returns-in-Empty
returns-in-Empty c = search rules
