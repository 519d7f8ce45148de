use Rattle.fast_decoder.proofs.streams.Ends.{read-stream}
use Rattle.fast_decoder.proofs.decoder.read_is_stream.Goals as goal

pub returns : goal.returns
returns c = read-stream
