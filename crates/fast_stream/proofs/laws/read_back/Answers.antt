use Rattle.fast_stream.proofs.streams.Reading.{read_back}
use Rattle.fast_stream.proofs.laws.read_back.Goals as goal

pub returns : goal.returns
returns c = read_back
