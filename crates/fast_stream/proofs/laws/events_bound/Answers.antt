use Rattle.fast_stream.proofs.streams.Bound.{stream-bound}
use Rattle.fast_stream.proofs.laws.events_bound.Goals as goal

pub returns : goal.returns
returns c = stream-bound
