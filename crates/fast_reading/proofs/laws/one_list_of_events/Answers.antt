use Rattle.fast_messages.proofs.unique.OneListOfEvents.{same_events}
use Rattle.fast_reading.proofs.laws.one_list_of_events.Goals as goal

pub returns : goal.returns
returns c = same_events
