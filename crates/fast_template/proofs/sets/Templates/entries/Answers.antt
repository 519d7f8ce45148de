-- The goals that a wrong body would leave: `search` proves them of this one, and named ones say at once what is missing.
use Rattle.std.proofs.Common.{rules}
use Rattle.fast_template.proofs.sets.Templates.entries.Goals as goal

pub returns-clause-number : goal.returns-clause-number
returns-clause-number c = search rules
