use Rattle.fast_value.specs.meaning.Limits.{bounds}
use Rattle.fast_units.proofs.ScalarTakes.{unit_settled}
use Rattle.fast_units.proofs.scalars.take_first.Goals as goal

pub returns-in-UInt32-clause-unit : goal.returns-in-UInt32-clause-unit
returns-in-UInt32-clause-unit c = unit_settled _ _ _ _ _ _ _ c.take_integer.result c.settled.result c.settled.ensures
    (c.take_integer.ensures.unit (bounds c.args.limits) c.args.scratch.now.text)

pub returns-in-Decimal-clause-unit : goal.returns-in-Decimal-clause-unit
returns-in-Decimal-clause-unit c = c.take_exponent.ensures.unit c.args.scratch.now.text

pub returns-in-Delta-clause-unit : goal.returns-in-Delta-clause-unit
returns-in-Delta-clause-unit c = c.take_subtraction.ensures.unit c.args.scratch.now.text
