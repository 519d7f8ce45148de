use Rattle.std.proofs.Common.{rules}
use Rattle.fast_dict.proofs.operators.unsent.next_in_range.Goals as goal

pub overflow_add-number : goal.overflow_add-number
overflow_add-number c = search rules

pub integer_value-requires-clause-low : goal.integer_value-requires-clause-low
integer_value-requires-clause-low c = search rules

pub integer_value-requires-clause-high : goal.integer_value-requires-clause-high
integer_value-requires-clause-high c = search rules

pub returns : goal.returns
returns c = search rules
