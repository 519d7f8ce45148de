use Rattle.std.proofs.Common.{arith, refl, take, length-set, ◌∙◌, ap, length}
use Rattle.fast_cursor.proofs.MapBytes.{more_open, more_bytes}
use Rattle.fast_cursor.proofs.pending.next_map.Goals as goal

pub returns-in-TooLong : goal.returns-in-TooLong
returns-in-TooLong c =
    let (small, full) = c.in-TooLong.ensures.too_long.0 refl in (
      omega arith,
      omega arith,
      omega arith,
      more_open (take c.args.len c.args.cells.now) c.args.rest.now c.loop-i.i c.loop-i-test.true
          c.loop-i.invariant.no_stop small,
    )

pub loop-i-preserved : goal.loop-i-preserved
loop-i-preserved c =
    let (small, room) = c.in-More.ensures.more.0 refl in
    record {
      cells = ap length c.map_push.ensures.cells ∙ length-set _ _ _ ∙ c.loop-i.invariant.cells;
      bytes = more_bytes (take c.args.len c.args.cells.now) c.args.rest.now c.loop-i.cells c.map_push.new.cells c.args.len c.loop-i.i
          c.loop-i-test.true c.loop-i.invariant.bytes c.map_push.ensures.bytes;
      no_stop = more_open (take c.args.len c.args.cells.now) c.args.rest.now c.loop-i.i c.loop-i-test.true c.loop-i.invariant.no_stop small;
      room = omega arith;
    }
