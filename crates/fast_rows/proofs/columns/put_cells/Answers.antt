use Rattle.fast_text.proofs.Writing.{writes_both}
use Rattle.fast_rows.proofs.columns.put_cells.Goals as goal

pub returns : goal.returns
returns g c = writes_both (writes_both c.put_offset.ensures c.put.ensures) c.put_bytes.ensures
