-- What making a decoder or an encoder tells of its limits.
use Rattle.std.proofs.Common.{◌≡◌, ◌↔◌, Result, Ok, Err}
use Rattle.fast_value.specs.declared.settings.Limits.{Limits}
use Rattle.fast_template.specs.declared.sets.Templates.{Templates}
use Rattle.fast_template.specs.meaning.Flat.{nodes_of}
use Rattle.fast_dict.specs.meaning.EntryTexts.{HasLongInitial}
use Rattle.fast_stream.specs.declared.faults.MakeError.{MakeError}
use Rattle.fast_stream.specs.declared.faults.MakeError.TheVariants as Why
use Rattle.fast_decoder.specs.meaning.Decoding.{AreBadLimits}
use Rattle.fast_records.specs.declared.status.Status.TheVariants as To
use Rattle.fast_c.specs.meaning.Opening.{CanBeMade, IsNotMade}

-- where something is made, the limits are good
pub can_be_made : {A : Type 0} (t : Templates) (l : Limits) (r : Result A MakeError) (a : A) → r ≡ Ok a → ((r ≡ Err Why.BadLimits) ↔ AreBadLimits l)
    → ((r ≡ Err Why.InitialTooLong) ↔ (¬ (AreBadLimits l) × HasLongInitial l.max_text (nodes_of t))) → CanBeMade t l
can_be_made t l r a made bad long =
    let good : ¬ (AreBadLimits l) = λ h. absurd (cc (made, bad.1 h)) in
    (good, λ h. absurd (cc (made, long.1 (good, h))))

-- where nothing is, the error says why
pub not_made : {A : Type 0} (t : Templates) (l : Limits) (r : Result A MakeError) (e : MakeError) → r ≡ Err e → ((r ≡ Err Why.BadLimits) ↔ AreBadLimits l)
    → ((r ≡ Err Why.InitialTooLong) ↔ (¬ (AreBadLimits l) × HasLongInitial l.max_text (nodes_of t))) → IsNotMade t l (To.Make e)
not_made t l r Why.BadLimits is bad long = bad.0 is
not_made t l r Why.InitialTooLong is bad long = long.0 is
not_made t l r Why.Memory is bad long =
    let good : ¬ (AreBadLimits l) = λ h. absurd (cc (is, bad.1 h)) in
    (good, λ h. absurd (cc (is, long.1 (good, h))))
