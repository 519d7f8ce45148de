use Rattle.fast_stream.proofs.streams.Reading.{one_answer}
use Rattle.fast_stream.proofs.laws.one_answer.Goals as goal

pub returns : goal.returns
returns c = one_answer
