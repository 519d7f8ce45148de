use Rattle.std.proofs.Common.{◌<◌, ℕ, map, refl, subst}
use Rattle.std.specs.Prelude.{IfSome}
use Rattle.fast_notation.specs.declared.codes.StaticCode.TheVariants.{C3}
use Rattle.fast_notation.specs.meaning.Refused.{StandsAt}
use Rattle.fast_notation.specs.device.WrittenSets.{written_data}
use Rattle.fast_notation.proofs.chains.check_cycles.Goals as goal

pub returns-in-Ok-Some-clause-first : goal.returns-in-Ok-Some-clause-first
returns-in-Ok-Some-clause-first c apart =
    let ts = map written_data c.args.templates.now in
    (refl, subst (λ o. IfSome o (λ k. (j : ℕ) → j < k → ¬ (StandsAt ts C3 j))) c.in-Ok-Some.field-0-is (c.in-Ok-Some.ensures.first apart))
