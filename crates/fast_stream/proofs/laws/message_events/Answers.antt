use Rattle.fast_stream.proofs.terms.MessageEvents.{message-events}
use Rattle.fast_stream.proofs.laws.message_events.Goals as goal

pub returns : goal.returns
returns c = message-events
