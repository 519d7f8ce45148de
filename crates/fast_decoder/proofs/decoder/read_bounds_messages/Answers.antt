use Rattle.fast_decoder.proofs.streams.Bounds.{read-messages}
use Rattle.fast_decoder.proofs.decoder.read_bounds_messages.Goals as goal

pub returns : goal.returns
returns c = read-messages
