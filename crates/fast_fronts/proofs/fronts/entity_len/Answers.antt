use Rattle.std.proofs.Common.{arith}
use Rattle.fast_fronts.proofs.stop_bits.Stopping.{unstopped_more, unstopped_front}
use Rattle.fast_fronts.proofs.fronts.entity_len.Goals as goal

pub loop-i-preserved : goal.loop-i-preserved
loop-i-preserved c = record {
  unstopped = unstopped_more c.args.bytes.now c.loop-i.i c.loop-i-test.true c.loop-i.invariant.unstopped c.if-byte-ge128.false;
  few = omega arith;
}

pub returns-clause-none : goal.returns-clause-none
returns-clause-none c = unstopped_front c.args.bytes.now c.loop-i.i 10 c.loop-i-test.false c.loop-i.invariant.unstopped
