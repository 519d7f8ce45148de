use Rattle.fast_messages.proofs.names.Preorder.{distinct_bodies}
use Rattle.fast_reading.proofs.laws.distinct_bodies.Goals as goal

pub returns : goal.returns
returns c = distinct_bodies
