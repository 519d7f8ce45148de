use Rattle.fast_decoder.proofs.streams.Bounds.{read-bounded, read-events}
use Rattle.fast_decoder.proofs.streams.Ends.{read-stream}
use Rattle.fast_decoder.proofs.decoder.headline.Goals as goal

pub returns : goal.returns
returns c = λ d w es so. (read-stream d w es so, read-bounded d w es so, read-events d w es so)
