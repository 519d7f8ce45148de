use Rattle.std.proofs.Common.{arith}
use Rattle.fast_text.proofs.Writing.{writes_same}
use Rattle.fast_rows.proofs.columns.put_last_four.Goals as goal

pub returns : goal.returns
returns g c = writes_same (grind (arith, c.mark_of.ensures, c.mark_of-2.ensures, c.mark_of-3.ensures, c.mark_of-4.ensures)) c.put.ensures
