use Rattle.fast_text.proofs.Writing.{writes_both}
use Rattle.fast_rows.proofs.columns.put_four.Goals as goal

pub returns : goal.returns
returns g c = writes_both (writes_both (writes_both c.put_digit.ensures c.put_digit-2.ensures) c.put_digit-3.ensures) c.put_digit-4.ensures
