use Rattle.std.proofs.Common.{arith}
use Rattle.fast_text.proofs.Writing.{writes_same}
use Rattle.fast_rows.proofs.columns.put_byte.Goals as goal

pub returns : goal.returns
returns g c = writes_same (grind (arith, c.digit_of.ensures, c.digit_of-2.ensures)) c.put.ensures
