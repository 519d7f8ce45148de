use Rattle.std.proofs.Common.{rules}
use Rattle.fast_dict.proofs.operators.unsent.kept.Goals as goal

pub returns-in-Assigned : goal.returns-in-Assigned
returns-in-Assigned c = search rules

pub returns-in-Assigned-2 : goal.returns-in-Assigned-2
returns-in-Assigned-2 c = search rules

pub returns-in-Assigned-3 : goal.returns-in-Assigned-3
returns-in-Assigned-3 c = search rules

pub returns-in-Some : goal.returns-in-Some
returns-in-Some c = search rules

pub returns-in-None : goal.returns-in-None
returns-in-None c = search rules

pub returns-in-Empty : goal.returns-in-Empty
returns-in-Empty c = search rules
