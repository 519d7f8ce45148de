use Rattle.std.proofs.Common.{◌-◌, ◌*◌, ◌^◌, ◌<◌, ◌≤◌}
use Rattle.fast_wire.proofs.writes.groups.Given as goal

abbrev pub invariant-loop-len : goal.invariant-loop-len
invariant-loop-len l = 1 < l.len → 2 ^ (7 * (l.len - 1)) ≤ l.n
