use Rattle.fast_stream.proofs.streams.Bound.{message-bound}
use Rattle.fast_stream.proofs.laws.message_bound.Goals as goal

pub returns : goal.returns
returns c = message-bound
