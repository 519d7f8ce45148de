use Rattle.std.proofs.Common.{◌<◌, ◌+◌, length, ◌≡◌, ◌++◌, take}
use Rattle.fast_wire.specs.meaning.Entities.{HaveNoStop}
use Rattle.fast_wire.specs.meaning.Maps.{map_limit}
use Rattle.fast_cursor.proofs.pending.next_map.Given as goal

-- the bytes so far stand in the cells, none with a stop bit
abbrev pub invariant-loop-i : goal.invariant-loop-i
invariant-loop-i l = record {
  cells : length l.cells ≡ map_limit;
  bytes : take (l.len + l.i) l.cells ≡ take l.len l.fn.cells ++ take l.i l.rest;
  no_stop : HaveNoStop (take l.len l.fn.cells ++ take l.i l.rest);
  room : l.len + l.i < map_limit;
}
