use Rattle.fast_laws.proofs.messages.RaisedMessages.{limit_passed, with_more_room, passing_ends}
use Rattle.fast_laws.proofs.laws.limits_come_where_passed.Goals as goal

pub returns-clause-passed : goal.returns-clause-passed
returns-clause-passed c = limit_passed

pub returns-clause-same : goal.returns-clause-same
returns-clause-same c = with_more_room

pub returns-clause-ends : goal.returns-clause-ends
returns-clause-ends c = passing_ends
