use Rattle.fast_text.proofs.Writing.{writes_both}
use Rattle.fast_text.proofs.line_sink.put_group.Goals as goal

pub returns : goal.returns
returns g c = writes_both (writes_both c.put.ensures c.put_node.ensures) c.put-2.ensures
