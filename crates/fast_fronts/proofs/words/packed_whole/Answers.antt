use Rattle.fast_fronts.proofs.numbers.Packing.{packed_is}
use Rattle.fast_fronts.proofs.words.packed_whole.Goals as goal

pub returns : goal.returns
returns c = λ w l bytes is. packed_is w c.args.word l bytes is
