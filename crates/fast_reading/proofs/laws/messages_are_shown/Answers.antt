use Rattle.fast_messages.proofs.values.ShownMessages.{messages_are_shown}
use Rattle.fast_reading.proofs.laws.messages_are_shown.Goals as goal

pub returns : goal.returns
returns c = messages_are_shown
