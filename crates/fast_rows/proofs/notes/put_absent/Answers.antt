use Rattle.fast_text.proofs.Writing.{writes_both}
use Rattle.fast_rows.proofs.notes.put_absent.Goals as goal

pub returns : goal.returns
returns g c = writes_both c.put_named.ensures c.put.ensures
