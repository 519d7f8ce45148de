use Rattle.std.proofs.Common.{rules}
use Rattle.fast_dict.proofs.operators.decimals.mantissa_delta.Goals as goal

pub returns-in_err-base : goal.returns-in_err-base
returns-in_err-base c = search rules

pub returns-in_err-sum : goal.returns-in_err-sum
returns-in_err-sum c = search rules

pub decimal_value-requires-clause-low : goal.decimal_value-requires-clause-low
decimal_value-requires-clause-low c = search rules

pub decimal_value-requires-clause-high : goal.decimal_value-requires-clause-high
decimal_value-requires-clause-high c = search rules

pub returns : goal.returns
returns c = search rules
