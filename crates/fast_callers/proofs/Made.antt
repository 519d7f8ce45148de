-- Why no decoder is made, told by a call that makes one.
use Rattle.std.proofs.Common.{◌≡◌, Result, Ok, Err, ap, ◌∙◌}
use Rattle.fast_stream.specs.declared.faults.Fault.{Fault}
use Rattle.fast_stream.specs.declared.faults.MakeError.{MakeError}
use Rattle.fast_callers.specs.declared.counting.Refusal.{Refusal}
use Rattle.fast_callers.specs.declared.counting.Refusal.TheVariants.{Make, Stream as AtFault}

-- the cause is what a decoder was refused for
pub made_by : {D T P : Type 0} (r : Result T Refusal) (cause wanted : MakeError) → r ≡ Err (Make cause)
    → (◌≡◌ {A = Result D MakeError} (Err cause) (Err wanted) → P) × (P → ◌≡◌ {A = Result D MakeError} (Err cause) (Err wanted))
    → (r ≡ Err (Make wanted) → P) × (P → r ≡ Err (Make wanted))
made_by r cause wanted is h = (λ e. h.0 (cc (is, e)), λ p. let e = h.1 p in is ∙ ap (λ (k : MakeError). Err (Make k)) (cc (e)))

-- a decoder that is made is refused for nothing
pub made_none : {D T P : Type 0} (d : D) (r : Result T Refusal) (wanted : MakeError) → (r ≡ Err (Make wanted) → ⊥)
    → (◌≡◌ {A = Result D MakeError} (Ok d) (Err wanted) → P) × (P → ◌≡◌ {A = Result D MakeError} (Ok d) (Err wanted))
    → (r ≡ Err (Make wanted) → P) × (P → r ≡ Err (Make wanted))
made_none d r wanted other h = (λ e. absurd (other e), λ p. let e = h.1 p in absurd (cc (e)))

-- a good answer, or a fault of the stream, is no cause
pub good_is_none : {T : Type 0} (x : T) (wanted : MakeError) → ◌≡◌ {A = Result T Refusal} (Ok x) (Err (Make wanted)) → ⊥
good_is_none x wanted e = absurd (cc (e))

pub fault_is_none : {T : Type 0} (r : Result T Refusal) (f : Fault) (wanted : MakeError) → r ≡ Err (AtFault f) → r ≡ Err (Make wanted) → ⊥
fault_is_none {T} r f wanted is e = let same : ◌≡◌ {A = Result T Refusal} (Err (AtFault f)) (Err (Make wanted)) = cc (is, e) in absurd (cc (same))
