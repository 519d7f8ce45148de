use Rattle.fast_text.proofs.Writing.{writes_both}
use Rattle.fast_text.proofs.line_writer.LineWriter.put_value_line.Goals as goal

pub returns-in-U : goal.returns-in-U
returns-in-U g c = rw c.in-U.is c.put_unsigned_line.ensures

pub returns-in_default : goal.returns-in_default
returns-in_default g c = writes_both c.put_value.ensures c.put.ensures
