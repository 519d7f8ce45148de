use Rattle.std.proofs.Common.{rules}
use Rattle.fast_dict.proofs.operators.integers.sum_in.Goals as goal

pub returns-in_default-clause-sum : goal.returns-in_default-clause-sum
returns-in_default-clause-sum c = search rules

pub returns-in_default-clause-inside : goal.returns-in_default-clause-inside
returns-in_default-clause-inside c = search rules

pub returns-then-sum-low-clause-sum : goal.returns-then-sum-low-clause-sum
returns-then-sum-low-clause-sum c = search rules

pub returns-then-sum-low-clause-inside : goal.returns-then-sum-low-clause-inside
returns-then-sum-low-clause-inside c = search rules

pub returns-clause-sum : goal.returns-clause-sum
returns-clause-sum c = search rules

pub returns-clause-inside : goal.returns-clause-inside
returns-clause-inside c = search rules
