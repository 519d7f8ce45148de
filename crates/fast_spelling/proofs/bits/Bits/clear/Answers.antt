-- There are no bits in the vector, and none in the word.
use Rattle.std.proofs.Common.{List, ap, ◌++◌, ◌∙◌}
use Rattle.std.specs.Prelude.{Bool}
use Rattle.fast_spelling.specs.device.Presence.{bits_after}
use Rattle.fast_spelling.proofs.bytes.Presence.{after_one}
use Rattle.fast_spelling.proofs.bits.Bits.clear.Goals as goal

pub returns : goal.returns
returns c = ap (λ (l : List Bool). l ++ bits_after 1) c.clear.ensures.items ∙ after_one
