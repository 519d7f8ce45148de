use Rattle.fast_units.specs.device.NextUnits.{range_data}
use Rattle.fast_units.proofs.NextUnits.{first_whole, first_wrong, first_cut}
use Rattle.fast_units.proofs.units.next_integer.Goals as goal

pub returns-in-Whole-clause-unit : goal.returns-in-Whole-clause-unit
returns-in-Whole-clause-unit c =
    first_whole (λ x. x) c.args.strict (range_data c.args.range) c.args.nullable c.args.outside c.args.rest.now
    c.in-Whole.x c.in-Whole.len c.in-Whole.ensures

pub returns-in-Wrong-clause-unit : goal.returns-in-Wrong-clause-unit
returns-in-Wrong-clause-unit c =
    first_wrong (λ x. x) c.args.strict (range_data c.args.range) c.args.nullable c.args.outside c.args.rest.now
    c.in-Wrong.fault c.stream_fault.result c.in-Wrong.len c.in-Wrong.ensures
    (c.stream_fault.ensures c.args.strict (range_data c.args.range) c.args.nullable c.in-Wrong.ensures.1)

pub returns-in-Cut-clause-unit : goal.returns-in-Cut-clause-unit
returns-in-Cut-clause-unit c =
    first_cut (λ x. x) c.args.strict (range_data c.args.range) c.args.nullable c.args.outside c.args.rest.now c.in-Cut.ensures
