use Rattle.std.proofs.Common.{rules}
use Rattle.fast_dict.proofs.rule.items.difference.Goals as goal

pub returns-in-UInt32 : goal.returns-in-UInt32
returns-in-UInt32 c = search rules

pub returns-in-Ascii : goal.returns-in-Ascii
returns-in-Ascii c = search rules

pub returns-in-Decimal : goal.returns-in-Decimal
returns-in-Decimal c = search rules

pub minus-requires-clause-low_a : goal.minus-requires-clause-low_a
minus-requires-clause-low_a c = search rules

pub minus-requires-clause-high_a : goal.minus-requires-clause-high_a
minus-requires-clause-high_a c = search rules

pub minus-requires-clause-low_b : goal.minus-requires-clause-low_b
minus-requires-clause-low_b c = search rules

pub minus-requires-clause-high_b : goal.minus-requires-clause-high_b
minus-requires-clause-high_b c = search rules

pub minus-exponent-requires-clause-low_a : goal.minus-exponent-requires-clause-low_a
minus-exponent-requires-clause-low_a c = search rules

pub minus-exponent-requires-clause-high_a : goal.minus-exponent-requires-clause-high_a
minus-exponent-requires-clause-high_a c = search rules

pub minus-exponent-requires-clause-low_b : goal.minus-exponent-requires-clause-low_b
minus-exponent-requires-clause-low_b c = search rules

pub minus-exponent-requires-clause-high_b : goal.minus-exponent-requires-clause-high_b
minus-exponent-requires-clause-high_b c = search rules

pub minus-mantissa-requires-clause-low_a : goal.minus-mantissa-requires-clause-low_a
minus-mantissa-requires-clause-low_a c = search rules

pub minus-mantissa-requires-clause-high_a : goal.minus-mantissa-requires-clause-high_a
minus-mantissa-requires-clause-high_a c = search rules

pub minus-mantissa-requires-clause-low_b : goal.minus-mantissa-requires-clause-low_b
minus-mantissa-requires-clause-low_b c = search rules

pub minus-mantissa-requires-clause-high_b : goal.minus-mantissa-requires-clause-high_b
minus-mantissa-requires-clause-high_b c = search rules
