use Rattle.std.proofs.Common.{ap, decimal}
use Rattle.fast_text.proofs.Writing.{writes_both, writes_same}
use Rattle.fast_text.proofs.line_sink.put_sequence.Goals as goal

pub returns : goal.returns
returns g c = writes_both (writes_both (writes_both (writes_both c.put.ensures c.put_node.ensures) c.put-2.ensures)
    (writes_same (ap decimal c.from.ensures) c.put_unsigned.ensures)) c.put-3.ensures
