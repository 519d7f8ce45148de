use Rattle.std.proofs.Common.{◌≡◌, ◌⊎◌, Result, Ok, Err, ap, inl, inr, refl}
use Rattle.std.specs.Prelude.{IfErr}
use Rattle.fast_value.specs.declared.settings.Limits.{Limits}
use Rattle.fast_template.specs.declared.sets.Templates.{Templates}
use Rattle.fast_stream.specs.declared.faults.MakeError.{MakeError}
use Rattle.fast_stream.specs.declared.faults.MakeError.TheVariants as Why
use Rattle.fast_command.specs.meaning.Showing.{IsRefusal}
use Rattle.fast_command.proofs.Outcomes.{no_err, same_err, of_tree}
use Rattle.fast_command.proofs.show.Show.new.Goals as goal

pub of-requires-clause-new : goal.of-requires-clause-new
of-requires-clause-new c = c.in-Ok.ensures.made.0

pub of-requires-clause-taken : goal.of-requires-clause-taken
of-requires-clause-taken c = c.unhexer_of.ensures.taken

pub returns-in-Ok-clause-made : goal.returns-in-Ok-clause-made
returns-in-Ok-clause-made c = rw c.in-Ok.ensures.made.1 at (rw c.in-Ok.ensures.made.2 at (rw c.unhexer_of.ensures.there at c.of.ensures.made))

pub returns-in-Ok-clause-bad_limits : goal.returns-in-Ok-clause-bad_limits
returns-in-Ok-clause-bad_limits c = λ bad. absurd (no_err (c.in-Ok.ensures.bad_limits.1 bad))

pub returns-in-Ok-clause-long_initial : goal.returns-in-Ok-clause-long_initial
returns-in-Ok-clause-long_initial c = λ bad. absurd (no_err (c.in-Ok.ensures.long_initial.1 bad))

pub returns-in-Err-clause-bad_limits : goal.returns-in-Err-clause-bad_limits
returns-in-Err-clause-bad_limits c = λ bad. ap (λ (e : MakeError). Err e) (same_err (c.in-Err.ensures.bad_limits.1 bad))

pub returns-in-Err-clause-long_initial : goal.returns-in-Err-clause-long_initial
returns-in-Err-clause-long_initial c = λ bad. ap (λ (e : MakeError). Err e) (same_err (c.in-Err.ensures.long_initial.1 bad))

-- no memory is a cause
only_memory : {A : Type 0} (P : MakeError → Type 0) (r : Result A MakeError) → IfErr r (λ (e : MakeError). e ≡ Why.Memory)
    → IfErr r (λ (e : MakeError). (e ≡ Why.Memory) ⊎ P e)
only_memory P (Ok x) h = h
only_memory P (Err e) h = inl h

-- what a decoder is refused for
refused_for : (set : Templates) (l : Limits) (e : MakeError) → (e ≡ Why.BadLimits → IsRefusal set l Why.BadLimits)
    → (e ≡ Why.InitialTooLong → IsRefusal set l Why.InitialTooLong) → (e ≡ Why.Memory) ⊎ IsRefusal set l e
refused_for set l Why.Memory bad long = inl refl
refused_for set l Why.BadLimits bad long = inr (bad refl)
refused_for set l Why.InitialTooLong bad long = inr (long refl)

pub returns-in-Ok-clause-refused : goal.returns-in-Ok-clause-refused
returns-in-Ok-clause-refused c = only_memory (IsRefusal c.args.templates.now c.args.limits) _ c.of.ensures.refused

pub returns-in-Err-clause-refused : goal.returns-in-Err-clause-refused
returns-in-Err-clause-refused c = refused_for c.args.templates.now c.args.limits c.in-Err.error
    (λ is. c.in-Err.ensures.bad_limits.0 (ap (λ (e : MakeError). Err e) is))
    (λ is. c.in-Err.ensures.long_initial.0 (ap (λ (e : MakeError). Err e) is))

pub of-requires-clause-set : goal.of-requires-clause-set
of-requires-clause-set c = of_tree c.new-in-Ok.result c.args.templates.now _ c.new-in-Ok.ensures c.in-Ok.ensures.made.1
