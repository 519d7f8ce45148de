use Rattle.fast_text.proofs.Writing.{writes_both}
use Rattle.fast_rows.proofs.columns.put_offset.Goals as goal

pub returns : goal.returns
returns g c = writes_both (writes_both (writes_both c.put_four.ensures c.put_four-2.ensures) c.put_four-3.ensures) c.put_last_four.ensures
