use Rattle.std.proofs.Common.{◌≡◌, ◌+◌, ◌*◌, ◌/◌, ◌^◌, ◌≤◌, length}
use Rattle.fast_wire.specs.meaning.Entities.{HaveNoStop, number}
use Rattle.fast_wire.proofs.writes.entity_of.Given as goal

abbrev pub invariant-loop-i : goal.invariant-loop-i
invariant-loop-i l = record {
  some : 1 ≤ l.i;
  unstopped : HaveNoStop l.entity;
  count : length l.entity + l.i ≡ l.len;
  value : number l.entity ≡ l.n / 2 ^ (7 * l.i);
}
