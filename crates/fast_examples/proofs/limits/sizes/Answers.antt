use Rattle.std.proofs.Common.{refl}
use Rattle.fast_examples.proofs.limits.sizes.Goals as goal

pub returns : goal.returns
returns c = (refl, refl, refl, refl, refl, refl, refl, refl, refl, refl)
