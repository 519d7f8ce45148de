-- A turn of the machine that stands where its place is.
use Rattle.std.proofs.Common.{sym, ap, subst}
use Rattle.std.specs.Prelude.{◌≡◌, ◌≢◌, ℕ, ◌+◌, [], Result, Ok}
use Rattle.fast_value.specs.declared.settings.Limits.{Limits}
use Rattle.fast_dict.specs.meaning.Dictionary.{Dictionary}
use Rattle.fast_stream.specs.meaning.Events.{EventData, MessageEnd}
use Rattle.fast_stream.specs.declared.faults.FaultCode.{FaultCode}
use Rattle.fast_stream.specs.device.Readers.{Reader}
use Rattle.fast_cursor.specs.device.Cursors.{CursorData}
use Rattle.fast_machine.specs.declared.machine.Machine.{Machine}
use Rattle.fast_machine.specs.declared.machine.Turn.{Turn}
use Rattle.fast_machine.specs.declared.machine.Turn.TheVariants.{Silent, Waits}
use Rattle.fast_machine.specs.declared.machine.Waiting.TheVariants.{Map, Field}
use Rattle.fast_loop.specs.declared.spot.Spot.{Spot}
use Rattle.fast_machine.specs.declared.taking.UnitTaken.{UnitTaken}
use Rattle.fast_machine.specs.device.Positions.{placed, Set, tree_in, CanTurn, IsTurn, turning, meaning}
use Rattle.fast_machine.specs.device.Handing.{Hands}
use Rattle.fast_machine.specs.device.Steps.{IsStep}
use Rattle.fast_machine.specs.device.UnitTaken.{IsTakenTo}
use Rattle.fast_machine.specs.device.TurnsLeft.{Way, HasTurns, HasTurnsInMap, HasTurnsWaiting, HasTurnsBehind, turns_begun}
use Rattle.fast_machine.proofs.steps.SegmentTurns.{message_end, turn_end}
use Rattle.fast_machine.proofs.steps.TurnCounts.{one_turn, turns_taken}
use Rattle.fast_machine.proofs.streams.Running.{turn_step, unit_step, step_waits}

module _ {S : Type 0} (takes stops : S → EventData → S → Type 0) (set : Set) (l : Limits) (m a : Machine) (from : Spot)
    (same : a ≡ record (placed m from.place) { turns = a.turns }) (counts : a.turns.count ≡ m.turns.count + 1) where
  -- the turn is counted
  pub turn_counted : (way : Way) (k : ℕ) → HasTurns way set l 0 k (placed m from.place) → HasTurns way set l 1 k a
  turn_counted way k h = subst (HasTurns way set l 1 k) (sym same)
      (one_turn way set l k m.turns.count a.turns.count m.counted (placed m from.place).cursor counts h)

  -- what is to be read
  pub turning_here : turning set l a ≡ turning set l (placed m from.place)
  turning_here = ap (turning set l) same

  -- A turn that is not silent is a step.
  pub placed_turn : (s : S) (result : Result Turn FaultCode) (s' : S) (m' : Machine) → result ≢ Ok Silent
      → IsTurn takes stops set l (turning set l a) s result s' m'
      → ((way : Way) (k : ℕ) → HasTurns way set l 1 k a → HasTurnsBehind result way set l k m')
      → IsStep takes stops set l (placed m from.place) from.rest.bytes.now s (record { bytes = 0; turn = result }) s' m'
  placed_turn s result s' m' on turn turns =
      turn_step takes stops set l (placed m from.place) from.rest.bytes.now s result s' m'
      (subst (λ (r : Reader Dictionary). IsTurn takes stops set l r s result s' m') turning_here turn) (λ e. absurd (on e))
      (λ way k h. turns way k (turn_counted way k h))

  module _ (c : CursorData) (can : CanTurn set l a) (end : a.cursor.left ≡ []) (outermost : a.cursor.frames ≡ []) (is : c ≡ record a.cursor {
    map = [];
    used = 0;
    ends = 8;
  }) where
    -- The message is whole, and the machine waits for the next one's map,
    pub ended : (s s' : S) → takes s MessageEnd s' → IsTurn takes stops set l (turning set l a) s (Ok Waits) s' (record a { waiting = Map; cursor = c })
    ended s s' taken = turn_end takes stops set l (turning set l a) s s' a c can end outermost is (message_end set l a end outermost) taken

    -- with these turns.
    pub ended_turns : (way : Way) (k : ℕ) → HasTurns way set l 1 k a → HasTurnsWaiting way set l k (record a { waiting = Map; cursor = c })
    ended_turns way k h = subst (λ w. HasTurnsInMap w way set l k a.turns.count) (sym (ap (λ (x : CursorData). x.map) is))
        (turns_taken way set l k a.turns.count a.counted a.cursor h)

    -- The next message begins with a unit, and the machine goes on.
    pub message_begun : (s mid : S) (q : UnitTaken) (s' : S) (b' m' : Machine) → takes s MessageEnd mid → IsTakenTo takes stops set l (meaning set l (record a {
      waiting = Map;
      cursor = c;
    })) from.rest.bytes.now mid q.bytes q.turn s' b'
        → ((way : Way) (k : ℕ) → HasTurnsInMap c.map way set l k a.turns.count
        → HasTurnsBehind q.turn way set l (1 + k + turns_begun c.map way (tree_in set) l) b')
        → q.turn ≢ Ok Waits → m' ≡ record b' { waiting = Field } → IsStep takes stops set l (placed m from.place) from.rest.bytes.now s q s' m'
    message_begun s mid q s' b' m' taken unit turns on is =
        let end = ended s mid taken in
        step_waits takes stops set l (placed m from.place) from.rest.bytes.now s q.bytes q.turn s' b' m' Field is on
        (unit_step takes stops set l (placed m from.place) (record a { waiting = Map; cursor = c }) from.rest.bytes.now s mid q s' b'
        (subst (λ (r : Reader Dictionary). Hands takes stops r s (Ok tt) mid (meaning set l (record a {
          waiting = Map;
          cursor = c;
        }))) turning_here end.moves) unit
        (λ way k h. turns way k (ended_turns way k (turn_counted way k h))))
