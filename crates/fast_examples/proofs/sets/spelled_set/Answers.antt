use Rattle.std.proofs.Common.{refl}
use Rattle.std.specs.Fmt.{digits}
use Rattle.fast_examples.proofs.sets.spelled_set.Goals as goal

pub returns : goal.returns
unfolding digits
returns c = refl
