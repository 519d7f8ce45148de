-- The goals that a wrong body would leave: `search` proves them of this one, and named ones say at once what is missing.
use Rattle.std.proofs.Common.{rules}
use Rattle.fast_dict.proofs.rule.goes_unsent.Goals as goal

pub returns-then-not-uses_bit : goal.returns-then-not-uses_bit
returns-then-not-uses_bit c = search rules
