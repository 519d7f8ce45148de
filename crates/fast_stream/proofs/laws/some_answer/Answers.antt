use Rattle.fast_stream.proofs.streams.Reading.{some_answer}
use Rattle.fast_stream.proofs.laws.some_answer.Goals as goal

pub returns : goal.returns
returns c = some_answer
