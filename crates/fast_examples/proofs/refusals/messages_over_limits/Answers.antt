use Rattle.std.proofs.Common.{refl, arith}
use Rattle.fast_examples.proofs.Computed.{at_most}
use Rattle.std.specs.Prelude.{replicate}
use Rattle.fast_spelling.specs.meaning.Suiting.{IsKnown, SuitsTemplate}
use Rattle.fast_examples.specs.meaning.Vectors.{vectors, t2, t19}
use Rattle.fast_examples.specs.meaning.Refusals.{two_elements}
use Rattle.fast_examples.proofs.refusals.messages_over_limits.Goals as goal

known : IsKnown vectors two_elements
known = (t2, 2, refl, refl)

suits : SuitsTemplate vectors two_elements
suits = (t2, refl, (((((0, omega arith), tt), (((0, omega arith), tt), tt)), omega arith), tt))

pub returns : goal.returns
returns c = (
  ((t19, 19, refl, refl), (t19, refl, ((17, (omega arith, at_most 127 (replicate 17 0x41) refl)), tt)), λ ((h, _), _). absurd (omega (arith, h))),
  (known, suits, λ (((h, _), _), _). absurd (omega (arith, h))),
  (known, suits, λ (_, h). absurd (omega (arith, h))),
)
