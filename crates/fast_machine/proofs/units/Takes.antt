-- How a machine takes the bytes of a unit.
use Rattle.std.proofs.Common.{refl, sym, ap, ◌∙◌, subst, arith}
use Rattle.std.specs.Prelude.{◌≡◌, ℕ, ◌<◌, ◌≤◌, List, [], ◌∷◌, ◌++◌, length, take, Result, Ok, Err}
use Rattle.std.proofs.lemmas.List.{take_all, length-take-le}
use Rattle.fast_value.specs.declared.settings.Limits.{Limits}
use Rattle.fast_value.specs.declared.codes.Code.{Code}
use Rattle.fast_tree.specs.meaning.Tree.{Tree}
use Rattle.fast_dict.specs.meaning.Dictionary.{Dictionary}
use Rattle.fast_stream.specs.declared.faults.FaultCode.{FaultCode}
use Rattle.fast_stream.specs.declared.faults.FaultCode.TheVariants as Why
use Rattle.fast_stream.specs.meaning.Events.{EventData}
use Rattle.fast_stream.specs.device.Readers.{Reader, Stop}
use Rattle.fast_stream.specs.device.Machine.{after_bytes}
use Rattle.fast_stream.specs.device.Running.{after_byte}
use Rattle.fast_machine.specs.device.Handing.{Hands, IsTaken, due}
use Rattle.fast_units.specs.device.Taking.{Waits, Quiet, Turns, Stays}
use Rattle.fast_machine.proofs.units.Hanging.{hands_waits, hands_fault, hands_as}
use Rattle.fast_machine.proofs.units.Takings.{due-waits}
use Rattle.fast_units.proofs.Turning.{after_run}

-- Behind a front that is in hand the reader is quiet under the rest.
pub quiet_behind : {A : Type 0} (r : Reader A) (u v : List ℕ) → Quiet r (u ++ v) → Quiet (after_bytes r u) v
quiet_behind r [] v h = h
quiet_behind r (b ∷ u) v h = quiet_behind (after_byte r b) u v h.1

pub waits_first : {A : Type 0} (r : Reader A) (w : List ℕ) → 0 < length w → Quiet r w → Waits r
waits_first r [] h q = absurd (omega (arith, h))
waits_first r (b ∷ w) h q = q.0

module _ {S : Type 0} (takes stops : S → EventData → S → Type 0) (t : Tree) (l : Limits) (r : Reader Dictionary) (front rest : List ℕ) where
  -- Some bytes lead the reader to another one, which hands over what is due.
  pub taken_turns : (n : ℕ) (q : Reader Dictionary) (s : S) (o : Result Unit FaultCode) (s' : S) (to : Reader Dictionary) → 0 < n → n ≤ length rest
      → Turns r (front ++ take n rest) q → Hands takes stops q s o s' to → IsTaken takes stops t l (after_bytes r front) rest s n o s' to
  taken_turns n q s o s' to some within h i =
      let len : length (take n rest) ≡ n = length-take-le n rest within in
      let quiet : Quiet (after_bytes r front) (take n rest) = quiet_behind r front (take n rest) h.quiet in
      let w : Waits (after_bytes r front) = waits_first (after_bytes r front) (take n rest) (omega (arith, len, some)) quiet in
      let same : due t l (after_bytes r front) ≡ after_bytes r front = due-waits t l (after_bytes r front) w in
      record {
        some = some;
        within = within;
        quiet = subst (λ (p : Reader Dictionary). Quiet p (take n rest)) (sym same) quiet;
        hands = hands_as takes stops s o s' to (ap (λ (p : Reader Dictionary). after_bytes p (take n rest)) same
            ∙ sym (after_run r front (take n rest)) ∙ h.becomes) i;
      }

  -- The last of some bytes decides a fault.
  pub taken_fault : (n : ℕ) (c : Code) (s : S) (to : Reader Dictionary) → 0 < n → n ≤ length rest → Turns r (front ++ take n rest) (Stop c)
      → IsTaken takes stops t l (after_bytes r front) rest s n (Err (Why.Stream c)) s to
  taken_fault n c s to some within h = taken_turns n (Stop c) s (Err (Why.Stream c)) s to some within h (hands_fault takes stops s to refl)

  -- All bytes are taken, and the unit is cut.
  pub taken_stays : (s : S) → 0 < length rest → Stays r (front ++ rest)
      → IsTaken takes stops t l (after_bytes r front) rest s (length rest) (Ok tt) s (after_bytes r (front ++ rest))
  taken_stays s some h =
      let all : take (length rest) rest ≡ rest = take_all (length rest) rest (omega arith) in
      let turns : Turns r (front ++ take (length rest) rest) (after_bytes r (front ++ rest)) =
      subst (λ (w : List ℕ). Turns r (front ++ w) (after_bytes r (front ++ rest))) (sym all) (record {
        quiet = h.quiet;
        becomes = refl;
      }) in
      taken_turns (length rest) (after_bytes r (front ++ rest)) s (Ok tt) s (after_bytes r (front ++ rest)) some (omega arith) turns
      (hands_waits takes stops (after_bytes r (front ++ rest)) s h.waits)
