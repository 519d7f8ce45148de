use Rattle.fast_encoder.proofs.ReadBack.{new_are_level}
use Rattle.fast_encoder.proofs.laws.new_are_level.Goals as goal

pub returns : goal.returns
returns c = new_are_level
