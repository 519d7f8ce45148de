use Rattle.std.proofs.Common.{arith}
use Rattle.fast_text.proofs.Writing.{writes_same}
use Rattle.fast_rows.proofs.bits.put_byte.Goals as goal

pub returns : goal.returns
returns g c = writes_same (grind (
  arith,
  c.bit_of.ensures,
  c.bit_of-2.ensures,
  c.bit_of-3.ensures,
  c.bit_of-4.ensures,
  c.bit_of-5.ensures,
  c.bit_of-6.ensures,
  c.bit_of-7.ensures,
)) c.put.ensures
