-- How turns of a machine follow each other.
use Rattle.std.proofs.Common.{refl, sym, ap, ◌∙◌, subst, arith}
use Rattle.std.specs.Prelude.{◌≡◌, ◌+◌, ◌<◌, List, [], ◌∷◌, length, Result, Ok, Err}
use Rattle.fast_value.specs.declared.codes.Code.{Code}
use Rattle.fast_dict.specs.meaning.Dictionary.{Dictionary}
use Rattle.fast_stream.specs.declared.faults.FaultCode.{FaultCode}
use Rattle.fast_stream.specs.declared.faults.FaultCode.TheVariants as Why
use Rattle.fast_machine.specs.declared.machine.Turn.{Turn}
use Rattle.fast_machine.specs.declared.machine.Turn.TheVariants.{Silent, Handed, Waits as TurnWaits}
use Rattle.fast_stream.specs.meaning.Events.{EventData}
use Rattle.fast_stream.specs.meaning.Sinks.{Takes}
use Rattle.fast_stream.specs.device.Readers.{Reader, Emit, Stop}
use Rattle.fast_machine.specs.device.Handing.{Hands, Waits}
use Rattle.fast_machine.specs.device.Moving.{emits, events_due, Moves}
use Rattle.fast_machine.proofs.units.Hanging.{hands_waits, hands_more, hands_stopped, hands_fault, hands_as}

-- Fewer events are due behind some of them.
pub due_behind : (es : List EventData) (r : Reader Dictionary) → events_due (emits es r) ≡ length es + events_due r
due_behind [] r = omega arith
due_behind (e ∷ es) r = let h = due_behind es r in omega (arith, h)

module _ {S : Type 0} (takes stops : S → EventData → S → Type 0) where
  -- Events in front were taken, and the rest was handed over.
  pub hands_behind : (es : List EventData) (q : Reader Dictionary) (s mid : S) (o : Result Unit FaultCode) (s' : S)
      (to : Reader Dictionary) → Takes takes s es mid → Hands takes stops q mid o s' to → Hands takes stops (emits es q) s o s' to
  hands_behind [] q s mid o s' to h i = subst (λ (x : S). Hands takes stops q x o s' to) h i
  hands_behind (e ∷ es) q s mid o s' to h i = hands_more takes stops e (emits es q) s h.0 o s' to h.1 (hands_behind es q h.0 mid o s' to h.2 i)

  -- The same reader by another name.
  pub moves_as : {p p' : Reader Dictionary} (on waits : Reader Dictionary) (s : S) (result : Result Turn FaultCode) (s' : S) → p ≡ p'
      → Moves takes stops p' s result s' on waits → Moves takes stops p s result s' on waits
  moves_as on waits s result s' e h = subst (λ (r : Reader Dictionary). Moves takes stops r s result s' on waits) (sym e) h

  -- An event in front was taken, and the machine went on.
  pub moves_more : (e : EventData) (p on waits : Reader Dictionary) (s mid : S) (result : Result Turn FaultCode) (s' : S) → takes s e mid
      → Moves takes stops p mid result s' on waits → (result ≡ Ok Silent → ⊥) → Moves takes stops (Emit e p) s result s' on waits
  moves_more e p on waits s mid (Ok Silent) s' h i not_silent = absurd (not_silent refl)
  moves_more e p on waits s mid (Ok Handed) s' h (f, es, same, taken) not_silent = (e, f ∷ es, ap (Emit e) same, (mid, h, taken))
  moves_more e p on waits s mid (Ok TurnWaits) s' h i not_silent = hands_more takes stops e p s mid (Ok tt) s' waits h i
  moves_more e p on waits s mid (Err c) s' h i not_silent = λ q. hands_more takes stops e p s mid (Err c) s' q h (i q)

  -- One event was taken, and the machine goes on behind it.
  pub moves_one : {p on : Reader Dictionary} {e : EventData} (waits : Reader Dictionary) (s s' : S) → p ≡ Emit e on → takes s e s'
      → Moves takes stops p s (Ok Handed) s' on waits
  moves_one {e = e} waits s s' i h = (e, [], i, (s', h, refl))

  -- The sink stopped at the event in front.
  pub moves_halt : {p p' : Reader Dictionary} {e : EventData} (on waits : Reader Dictionary) (s : S) (c : FaultCode) (s' : S)
      → p ≡ Emit e p' → (c ≡ Why.SinkStopped) × stops s e s' → Moves takes stops p s (Err c) s' on waits
  moves_halt {p' = p'} {e = e} on waits s c s' i h = λ q. hands_as takes stops s (Err c) s' q i (hands_stopped takes stops e p' s s' q c h)

  -- The reader stops at its fault.
  pub moves_fault : {p : Reader Dictionary} {c : Code} (on waits : Reader Dictionary) (s : S) → p ≡ Stop c
      → Moves takes stops p s (Err (Why.Stream c)) s on waits
  moves_fault on waits s e = λ q. hands_fault takes stops s q e

  -- The reader waits.
  pub moves_waits : {p waits : Reader Dictionary} (on : Reader Dictionary) (s : S) → p ≡ waits → Waits p → Moves takes stops p s (Ok TurnWaits) s on waits
  moves_waits {p} {waits} on s e h = subst (λ (r : Reader Dictionary). Hands takes stops p s (Ok tt) s r) e (hands_waits takes stops p s h)

  -- Behind a turn that goes on.
  pub hands_turned : (p on waits : Reader Dictionary) (s : S) (turn : Turn) (mid : S) (o : Result Unit FaultCode) (s' : S)
      (to : Reader Dictionary) → (turn ≡ TurnWaits → ⊥)
      → Moves takes stops p s (Ok turn) mid on waits → Hands takes stops on mid o s' to → Hands takes stops p s o s' to
  hands_turned p on waits s Silent mid o s' to go (e, i) h = hands_as takes stops s o s' to e (subst (λ (x : S). Hands takes stops on x o s' to) i h)
  hands_turned p on waits s Handed mid o s' to go (e, es, i, taken) h = hands_as takes stops s o s' to i (hands_behind (e ∷ es) on s mid o s' to taken h)
  hands_turned p on waits s TurnWaits mid o s' to go i h = absurd (go refl)

  -- It leaves fewer events due.
  pub fewer_due : (r on waits : Reader Dictionary) (s s' : S) → Moves takes stops r s (Ok Handed) s' on waits → events_due on < events_due r
  fewer_due r on waits s s' (e, es, i, taken) =
      let k : events_due r ≡ length (e ∷ es) + events_due on = ap events_due i ∙ due_behind (e ∷ es) on in
      omega (arith, k)
