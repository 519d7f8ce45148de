use Rattle.fast_laws.proofs.messages.Streams.{of_messages}
use Rattle.fast_laws.proofs.laws.events_are_of_messages.Goals as goal

pub returns : goal.returns
returns c = of_messages
