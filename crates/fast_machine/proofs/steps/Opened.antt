-- A turn at whose end a segment begins, with its map if it has one.
use Rattle.std.proofs.Common.{refl, sym, subst, arith}
use Rattle.std.specs.Prelude.{◌≡◌, ◌≢◌, ℕ, zero, suc, ◌<◌, Bool, List, Result, Ok, Err}
use Rattle.fast_value.specs.declared.settings.Limits.{Limits}
use Rattle.fast_stream.specs.declared.faults.FaultCode.{FaultCode}
use Rattle.fast_machine.specs.declared.machine.Machine.{Machine}
use Rattle.fast_machine.specs.declared.machine.Turn.TheVariants.{Silent, Handed, Waits}
use Rattle.fast_machine.specs.declared.machine.Waiting.TheVariants.{SegmentMap}
use Rattle.fast_machine.specs.device.Opening.{opened_turn, awaiting, opened_result}
use Rattle.fast_machine.specs.device.Positions.{Set, IsAtGroup}
use Rattle.fast_machine.specs.device.TurnsLeft.{Way}
use Rattle.fast_machine.specs.device.TurnsLeft.{HasTurns, HasTurnsBehind}
use Rattle.fast_machine.proofs.steps.SegmentTurns.{IsGroupBegun}
use Rattle.fast_machine.proofs.steps.TurnCounts.{segment_turns}

-- With a map the machine waits,
pub opened_waits : (n : ℕ) (m : Machine) → 0 < n → (opened_turn n ≡ Waits) × (awaiting n m ≡ record m { waiting = SegmentMap n })
opened_waits zero m h = absurd (omega (arith, h))
opened_waits (suc n) m h = (refl, refl)

-- and without one it goes on.
pub opened_goes : (n : ℕ) (m : Machine) → n ≡ 0 → (opened_turn n ≡ Handed) × (awaiting n m ≡ m)
opened_goes zero m e = (refl, refl)
opened_goes (suc n) m e = absurd (omega (arith, e))

-- It is never silent.
pub opened_not_silent : (r : Result ℕ FaultCode) → opened_result r ≢ Ok Silent
opened_not_silent (Ok zero) e = cc e
opened_not_silent (Ok (suc n)) e = cc e
opened_not_silent (Err c) e = cc e

-- The turns that are left, behind the machine's wait or not.
pub awaiting_turns : (way : Way) (set : Set) (l : Limits) (n : ℕ) (m : Machine) (width : ℕ) → HasTurns way set l 0 n m
    → HasTurnsBehind (Ok (opened_turn width)) way set l n (awaiting width m)
awaiting_turns way set l n m width h = segment_turns way set l n m (awaiting width m) (opened_turn width) width (opened_waits width m) (opened_goes width m) h

-- The bit of a group makes no difference to them.
pub begun_turns : (way : Way) (set : Set) (l : Limits) (n : ℕ) (m m' : Machine) (node : ℕ) (optional : Bool) (body : List ℕ) → IsGroupBegun set l m m' node body
    → IsAtGroup set m.cursor node optional body → HasTurns way set l 1 n m → IsAtGroup set m'.cursor node optional body × HasTurns way set l 1 n m'
begun_turns way set l n m m' node optional body begun next h =
    subst (λ (x : Machine). IsAtGroup set x.cursor node optional body × HasTurns way set l 1 n x) (sym begun.same)
    (next, record { each = h.each; body = h.body; frames = h.frames; most = h.most; all = h.all })
