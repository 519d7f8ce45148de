use Rattle.std.proofs.Common.{◌∙◌}
use Rattle.fast_text.proofs.Writing.{writes_both, writes_same}
use Rattle.fast_rows.proofs.notes.put_named.Goals as goal

pub returns : goal.returns
returns g c = writes_both (writes_same (c.as_bytes.ensures.value ∙ c.word_text.ensures) c.put.ensures) c.put_node.ensures
