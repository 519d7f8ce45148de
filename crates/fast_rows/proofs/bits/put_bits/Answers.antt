use Rattle.std.proofs.Common.{rules, arith, ap, flat_map}
use Rattle.std.proofs.lemmas.Grind.{common_steps}
use Rattle.fast_rows.specs.meaning.Notes.{bits}
use Rattle.fast_text.proofs.Writing.{writes_none, writes_same}
use Rattle.fast_rows.proofs.Texts.{writes_each}
use Rattle.fast_rows.proofs.bits.put_bits.Goals as goal

pub loop-byte-init : goal.loop-byte-init
loop-byte-init g c = writes_none _ _ _

pub loop-byte-preserved : goal.loop-byte-preserved
loop-byte-preserved g c = writes_each bits c.args.bytes.now c.loop-byte.byte-index 0 c.loop-byte-test.true c.loop-byte.invariant c.put_byte.ensures

pub returns : goal.returns
returns g c = writes_same (ap (flat_map bits) (grind (arith, common_steps))) c.loop-byte.invariant
