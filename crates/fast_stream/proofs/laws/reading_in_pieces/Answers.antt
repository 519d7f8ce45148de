use Rattle.fast_stream.proofs.streams.Reading.{reading-append}
use Rattle.fast_stream.proofs.laws.reading_in_pieces.Goals as goal

pub returns : goal.returns
returns c = reading-append
