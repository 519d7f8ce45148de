use Rattle.std.proofs.Common.{◌≡◌, refl, arith}
use Rattle.std.specs.Prelude.{pos}
use Rattle.fast_value.specs.meaning.Messages.{Slots, one, present}
use Rattle.fast_value.specs.meaning.Kinds.{U, I}
use Rattle.fast_spelling.specs.meaning.Suiting.{IsKnown, SuitsTemplate, SuitsBody}
use Rattle.fast_examples.specs.meaning.Vectors.{vectors, t1}
use Rattle.fast_examples.specs.meaning.Asked.{message, only, none}
use Rattle.fast_examples.proofs.refusals.unsuited_messages.Goals as goal

known : (vs : Slots) → IsKnown vectors (message 0 vs)
known vs = (t1, 1, refl, refl)

-- what does not suit the first template's body does not suit the template
unsuited : (vs : Slots) → ¬ (SuitsBody t1.body vs) → ¬ (SuitsTemplate vectors (message 0 vs))
unsuited vs n (u, e, s) = let same : t1 ≡ u = cc e in n (rw (← same) at s)

pub returns : goal.returns
returns c = (
  (known none, unsuited none (λ s. absurd (cc s.0))),
  (known (only (U 4294967296)), unsuited (only (U 4294967296)) (λ s. absurd (omega (arith, s.0.1)))),
  (known (only (I (pos 1))), unsuited (only (I (pos 1))) (λ s. absurd s.0.1)),
  (known (present (one (U 1)) (only (U 1))), unsuited (present (one (U 1)) (only (U 1))) (λ s. absurd s.1)),
)
