use Rattle.fast_stream.proofs.streams.Reading.{faults-stay}
use Rattle.fast_stream.proofs.laws.faults_stay.Goals as goal

pub returns : goal.returns
returns c = faults-stay
