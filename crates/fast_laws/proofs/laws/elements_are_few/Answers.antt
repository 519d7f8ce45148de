use Rattle.fast_laws.proofs.messages.Counting.{few, each_few}
use Rattle.fast_laws.proofs.messages.Streams.{of_messages}
use Rattle.fast_laws.proofs.laws.elements_are_few.Goals as goal

pub returns-clause-each : goal.returns-clause-each
returns-clause-each c = λ t l w es e granted h. each_few t l es e (of_messages t l w es e granted h)

pub returns-clause-all : goal.returns-clause-all
returns-clause-all c = λ t l w es e granted h. few t l es e (of_messages t l w es e granted h)
