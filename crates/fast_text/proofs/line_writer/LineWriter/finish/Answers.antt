use Rattle.fast_text.proofs.Writing.{finished}
use Rattle.fast_text.proofs.line_writer.LineWriter.finish.Goals as goal

pub returns : goal.returns
returns g c = finished c.write_on.ensures.written c.write_on.ensures.empty
