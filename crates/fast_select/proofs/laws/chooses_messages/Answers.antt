use Rattle.fast_select.proofs.Picked.{chooses_messages}
use Rattle.fast_select.proofs.laws.chooses_messages.Goals as goal

pub returns : goal.returns
returns c = chooses_messages
