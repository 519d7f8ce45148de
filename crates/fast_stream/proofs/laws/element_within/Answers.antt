use Rattle.fast_stream.proofs.streams.Caps.{element_size, element_widest}
use Rattle.fast_stream.proofs.laws.element_within.Goals as goal

pub returns-clause-size : goal.returns-clause-size
returns-clause-size c = element_size

pub returns-clause-widest : goal.returns-clause-widest
returns-clause-widest c = element_widest
