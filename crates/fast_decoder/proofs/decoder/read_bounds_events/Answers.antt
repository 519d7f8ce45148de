use Rattle.fast_decoder.proofs.streams.Bounds.{read-events}
use Rattle.fast_decoder.proofs.decoder.read_bounds_events.Goals as goal

pub returns : goal.returns
returns c = read-events
