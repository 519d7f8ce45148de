use Rattle.std.proofs.Common.{arith}
use Rattle.fast_wire.proofs.numbers.Numbers.{one_byte_more}
use Rattle.fast_wire.proofs.reads.number_of.Goals as goal

pub loop-byte-preserved : goal.loop-byte-preserved
loop-byte-preserved c = one_byte_more 128 9 c.loop-byte.byte-index c.loop-byte.sum c.from.result c.args.w.now c.loop-byte-test.true
    (omega arith) (omega arith) c.loop-byte.invariant c.from.ensures
