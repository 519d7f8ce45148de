use Rattle.fast_stream.proofs.streams.Caps.{stream_begins, begun_bound}
use Rattle.fast_stream.proofs.laws.begun_bound.Goals as goal

pub returns-clause-some : goal.returns-clause-some
returns-clause-some c = stream_begins

pub returns-clause-bound : goal.returns-clause-bound
returns-clause-bound c = begun_bound
