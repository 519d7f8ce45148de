use Rattle.fast_text.proofs.Writing.{writes_both}
use Rattle.fast_rows.proofs.notes.put_map.Goals as goal

pub returns : goal.returns
returns g c = writes_both c.put.ensures c.put_bits.ensures
