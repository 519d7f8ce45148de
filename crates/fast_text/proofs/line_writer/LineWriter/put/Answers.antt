use Rattle.std.proofs.Math.Seq.{take-length}
use Rattle.fast_text.proofs.Writing.{writes_same}
use Rattle.fast_text.proofs.line_writer.LineWriter.put.Goals as goal

pub returns : goal.returns
returns g c = writes_same (take-length c.args.text.now) c.put_front.ensures
