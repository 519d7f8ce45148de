-- Behind a unit, and at the start of a piece, bytes may be kept of a unit that goes on behind the piece.
use Rattle.std.proofs.Common.{refl, sym, subst, arith}
use Rattle.std.specs.Prelude.{◌≡◌, ℕ, zero, suc, ◌+◌, ◌-◌, ◌<◌, ◌≤◌, List, [], length, take, drop, Ok}
use Rattle.std.proofs.Math.Nat.{le_refl}
use Rattle.fast_value.specs.declared.settings.Limits.{Limits}
use Rattle.fast_stream.specs.meaning.Events.{EventData}
use Rattle.fast_machine.specs.declared.machine.Machine.{Machine}
use Rattle.fast_machine.specs.declared.machine.Turn.TheVariants.{Waits}
use Rattle.fast_machine.specs.device.Gathered.{IsGatheredBy}
use Rattle.fast_machine.specs.device.Handing.{waiting_at, TookEvents}
use Rattle.fast_machine.specs.device.Positions.{Set, tree_in, IsReady, meaning}
use Rattle.fast_machine.specs.device.Steps.{IsCountedBy}
use Rattle.fast_machine.specs.device.TurnsLeft.{Way, HasTurnsWaiting}
use Rattle.fast_machine.specs.device.UnitTaken.{IsTakenTo}
use Rattle.fast_machine.proofs.machines.Gathers.{gathered_to, gathered_turns}
use Rattle.fast_machine.proofs.streams.Feeding.{fed_behind, took_none}
use Rattle.fast_machine.proofs.streams.Running.{unit_alone}

-- So many of the bytes are kept: all of them, or none.
pub record IsKeptOf (set : Set) (l : Limits) (b a : Machine) (rest : List ℕ) (k : ℕ) : Type 0 where
  pub kept : 0 < k → (k ≡ length rest) × IsGatheredBy set l b a rest
  pub none : k ≡ 0 → a ≡ b

module _ {S : Type 0} (takes stops : S → EventData → S → Type 0) (set : Set) (l : Limits) where
  -- What was kept was fed.
  pub kept_fed : (b a : Machine) (rest : List ℕ) (k : ℕ) (s : S) → IsKeptOf set l b a rest k
      → TookEvents takes (tree_in set) l (waiting_at (meaning set l b)) (take k rest) s s (waiting_at (meaning set l a))
  kept_fed b a rest zero s h =
      subst (λ (x : Machine). TookEvents takes (tree_in set) l (waiting_at (meaning set l b)) [] s s (waiting_at (meaning set l x)))
      (sym (h.none refl)) (took_none (tree_in set) l takes stops (waiting_at (meaning set l b)) s)
  kept_fed b a rest (suc k) s h =
      let (size, got) = h.kept (omega arith) in
      unit_alone takes stops set l b rest s (suc k) (Ok Waits) (Ok tt) s a (λ t e. cc e) (λ t e. refl) (λ x e. absurd (cc e))
      (gathered_to takes stops set l b a rest got (omega (arith, size)) s (suc k) (Ok Waits) size refl)

  -- Behind a unit.
  pub both_fed : (m b a : Machine) (rest : List ℕ) (n k : ℕ) (s s' : S)
      → IsTakenTo takes stops set l (meaning set l m) rest s n (Ok Waits) s' b → IsKeptOf set l b a (take (length rest - n) (drop n rest)) k
      → TookEvents takes (tree_in set) l (waiting_at (meaning set l m)) (take (n + k) rest) s s' (waiting_at (meaning set l a))
  both_fed m b a rest n k s s' taken h =
      fed_behind (tree_in set) l takes stops (waiting_at (meaning set l m)) (waiting_at (meaning set l b))
      (waiting_at (meaning set l a)) rest n k s s' s' (Ok tt)
      (unit_alone takes stops set l m rest s n (Ok Waits) (Ok tt) s' b (λ t e. cc e) (λ t e. refl) (λ x e. absurd (cc e)) taken)
      (kept_fed b a (take (length rest - n) (drop n rest)) k s' h)

-- No more is kept than there is.
pub kept_within : (set : Set) (l : Limits) (b a : Machine) (rest : List ℕ) (k : ℕ) → IsKeptOf set l b a rest k → k ≤ length rest
kept_within set l b a rest zero h = omega arith
kept_within set l b a rest (suc k) h = let (size, got) = h.kept (omega arith) in omega (arith, size)

-- The machine is ready.
pub kept_ready : (set : Set) (l : Limits) (b a : Machine) (rest : List ℕ) (k : ℕ) → IsKeptOf set l b a rest k → IsReady set l b → IsReady set l a
kept_ready set l b a rest zero h ready = subst (IsReady set l) (sym (h.none refl)) ready
kept_ready set l b a rest (suc k) h ready = (h.kept (omega arith)).1.ready

-- The turns are what they were.
pub kept_turns : (set : Set) (l : Limits) (b a : Machine) (rest : List ℕ) (k : ℕ) → IsKeptOf set l b a rest k → (way : Way) (n : ℕ)
    → HasTurnsWaiting way set l n b → HasTurnsWaiting way set l n a
kept_turns set l b a rest zero h way n i = subst (λ (x : Machine). HasTurnsWaiting way set l n x) (sym (h.none refl)) i
kept_turns set l b a rest (suc k) h way n i = gathered_turns way set l n n b a rest (h.kept (omega arith)).1 (le_refl n) i

pub kept_counted : (set : Set) (l : Limits) (m b a : Machine) (rest : List ℕ) (n k : ℕ) → IsKeptOf set l b a rest k → (way : Way)
    → IsCountedBy (Ok tt) way set l n m b → IsCountedBy (Ok tt) way set l (n + k) m a
kept_counted set l m b a rest n k h way (more, less, turns) = (more, omega (arith, less), λ x i. kept_turns set l b a rest k h way _ (turns x i))
