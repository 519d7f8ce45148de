-- What is handed over by a reader that waits, and by one that begins with an event.
use Rattle.std.proofs.Common.{refl, sym, ap, subst, inl, inr}
use Rattle.std.specs.Prelude.{◌≡◌, Result, Ok, Err, MatchResult}
use Rattle.fast_value.specs.declared.codes.Code.{Code}
use Rattle.fast_dict.specs.meaning.Dictionary.{Dictionary}
use Rattle.fast_stream.specs.declared.faults.FaultCode.{FaultCode}
use Rattle.fast_stream.specs.declared.faults.FaultCode.TheVariants as Why
use Rattle.fast_stream.specs.meaning.Events.{EventData}
use Rattle.fast_stream.specs.device.Readers.{Reader, Done, Emit, Stop}
use Rattle.fast_machine.specs.device.Handing.{Hands, Waits}

module _ {S : Type 0} (takes stops : S → EventData → S → Type 0) where
  -- A reader that waits hands nothing over.
  pub hands_waits : (r : Reader Dictionary) (s : S) → Waits r → Hands takes stops r s (Ok tt) s r
  hands_waits r s (f, e) = rw e (refl, refl, refl)

  -- An event in front was taken, and the rest was handed over.
  pub hands_more : (e : EventData) (p : Reader Dictionary) (s mid : S) (r : Result Unit FaultCode) (s' : S) (q : Reader Dictionary)
      → takes s e mid → Hands takes stops p mid r s' q → Hands takes stops (Emit e p) s r s' q
  hands_more e p s mid r s' q h i = inl (mid, h, i)

  -- The sink stopped at an event in front.
  pub hands_stopped : (e : EventData) (p : Reader Dictionary) (s s' : S) (q : Reader Dictionary) (c : FaultCode)
      → (c ≡ Why.SinkStopped) × stops s e s' → Hands takes stops (Emit e p) s (Err c) s' q
  hands_stopped e p s s' q c (i, h) = inr (h, ap Err i)

  -- An event, and then the end.
  pub hands_last : (e : EventData) (d : Dictionary) (s s' : S) (r : Result Unit FaultCode)
      → MatchResult r (λ _. takes s e s') (λ c. (c ≡ Why.SinkStopped) × stops s e s') → Hands takes stops (Emit e (Done d)) s r s' (Done d)
  hands_last e d s s' (Ok u) h = inl (s', h, (refl, refl, refl))
  hands_last e d s s' (Err c) h = hands_stopped e (Done d) s s' (Done d) c h

  -- A reader that stops hands nothing over.
  pub hands_fault : {r : Reader Dictionary} {c : Code} (s : S) (q : Reader Dictionary) → r ≡ Stop c → Hands takes stops r s (Err (Why.Stream c)) s q
  hands_fault s q e = rw e (refl, refl)

  -- the same by another name of the reader
  pub hands_as : {p p' : Reader Dictionary} (s : S) (r : Result Unit FaultCode) (s' : S) (q : Reader Dictionary) → p ≡ p'
      → Hands takes stops p' s r s' q → Hands takes stops p s r s' q
  hands_as s r s' q e h = subst (λ (p : Reader Dictionary). Hands takes stops p s r s' q) (sym e) h
