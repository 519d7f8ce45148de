use Rattle.fast_stream.proofs.streams.Reading.{reading-sound}
use Rattle.fast_stream.proofs.laws.reading_is_the_stream.Goals as goal

pub returns : goal.returns
returns c = reading-sound
