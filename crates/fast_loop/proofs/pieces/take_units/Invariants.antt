use Rattle.std.proofs.Common.{◌≡◌, length, take, ◌-◌, ◌≤◌}
use Rattle.fast_machine.specs.device.Positions.{set_of, tree_in, meaning, IsReady}
use Rattle.fast_machine.specs.device.Handing.{TookEvents, waiting_at}
use Rattle.fast_machine.specs.device.TurnsLeft.{Way, most_by, HasTurnsWaiting}
use Rattle.fast_machine.proofs.steps.TurnCounts.{IsSpent}
use Rattle.fast_loop.proofs.pieces.take_units.Given as goal

-- the units so far were taken
abbrev pub invariant-loop-bytes : goal.invariant-loop-bytes
invariant-loop-bytes g l = record {
  within : l.bytes ≤ length l.piece;
  ready : IsReady (set_of l.templates) l.limits l.machine;
  took : TookEvents g.S.Sink.takes (tree_in (set_of l.templates)) l.limits
      (waiting_at (meaning (set_of l.templates) l.limits l.fn.machine)) (take l.bytes l.piece) l.fn.sink l.sink
      (waiting_at (meaning (set_of l.templates) l.limits l.machine));
  turns : (way : Way) → l.fn.machine.turns.count ≡ 0 → HasTurnsWaiting way (set_of l.templates) l.limits
      (most_by way (tree_in (set_of l.templates)) l.limits) l.fn.machine → IsSpent way (set_of l.templates) l.limits l.bytes l.machine;
}

abbrev pub decreases-loop-bytes : goal.decreases-loop-bytes
decreases-loop-bytes g l = length l.piece - l.bytes
