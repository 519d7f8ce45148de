use Rattle.fast_text.proofs.Writing.{writes_both}
use Rattle.fast_text.proofs.line_writer.LineWriter.put_text.Goals as goal

pub returns : goal.returns
returns g c = writes_both c.put.ensures c.put_quoted.ensures
