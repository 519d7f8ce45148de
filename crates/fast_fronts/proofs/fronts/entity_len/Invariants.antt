use Rattle.std.proofs.Common.{◌≤◌, take}
use Rattle.fast_wire.specs.meaning.Entities.{HaveNoStop}
use Rattle.fast_fronts.proofs.fronts.entity_len.Given as goal

abbrev pub invariant-loop-i : goal.invariant-loop-i
invariant-loop-i l = record { unstopped : HaveNoStop (take l.i l.bytes); few : l.i ≤ 10 }
