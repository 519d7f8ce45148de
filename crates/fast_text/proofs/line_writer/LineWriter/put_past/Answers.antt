use Rattle.fast_text.proofs.Writing.{writes_both}
use Rattle.fast_text.proofs.line_writer.LineWriter.put_past.Goals as goal

pub returns : goal.returns
returns g c = writes_both c.write_on.ensures.written c.write_directly.ensures
