use Rattle.fast_messages.proofs.unique.OneList.{same_messages}
use Rattle.fast_reading.proofs.laws.one_list.Goals as goal

pub returns : goal.returns
returns c = same_messages
