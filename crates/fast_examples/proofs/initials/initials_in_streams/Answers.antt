use Rattle.std.proofs.Common.{refl}
use Rattle.fast_examples.proofs.Computed.{answered, computing}
use Rattle.fast_examples.proofs.initials.initials_in_streams.Goals as goal

pub returns : goal.returns
unfolding computing
returns c = answered _ _ _ refl refl refl
