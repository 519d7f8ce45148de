use Rattle.std.proofs.Common.{◌∙◌}
use Rattle.std.proofs.lemmas.Nat.{and_mask}
use Rattle.fast_fronts.proofs.stop_bits.FrontWords.{four_are}
use Rattle.fast_fronts.proofs.words.four_of.Goals as goal

pub returns : goal.returns
returns c = λ bytes are front. and_mask c.args.word 32 ∙ four_are c.args.word bytes are front
