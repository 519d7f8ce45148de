use Rattle.fast_stream.proofs.streams.Caps.{size_joined, outer_joined, widest_joined}
use Rattle.fast_stream.proofs.laws.body_parts.Goals as goal

pub returns-clause-size : goal.returns-clause-size
returns-clause-size c = size_joined

pub returns-clause-outer : goal.returns-clause-outer
returns-clause-outer c = outer_joined

pub returns-clause-widest : goal.returns-clause-widest
returns-clause-widest c = widest_joined
