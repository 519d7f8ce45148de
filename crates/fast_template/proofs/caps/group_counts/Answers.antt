-- The goals that a wrong body would leave: `search` proves them of this one, and named ones say at once what is missing.
use Rattle.std.proofs.Common.{rules}
use Rattle.fast_template.proofs.caps.group_counts.Goals as goal

pub returns : goal.returns
returns c = search rules
