use Rattle.fast_spelling.proofs.bytes.Mapped.{message_has_map}
use Rattle.fast_spelling.proofs.laws.message_has_map.Goals as goal

pub returns : goal.returns
returns c = message_has_map
