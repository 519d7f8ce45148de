use Rattle.fast_value.specs.device.Numerals.{range_between}
use Rattle.fast_value.proofs.Numerals.{signed_of_integer}
use Rattle.fast_value.proofs.initial.parse_within.Goals as goal

pub returns-in_default-3-clause-none : goal.returns-in_default-3-clause-none
returns-in_default-3-clause-none c x h = c.in_default.ensures.none x (signed_of_integer (range_between c.args.low c.args.high) c.args.text.now x h)
