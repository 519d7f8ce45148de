use Rattle.fast_text.proofs.Writing.{writes_both, writes_same}
use Rattle.fast_command.proofs.check.put_number.Goals as goal

pub returns : goal.returns
returns g c =
    let name = writes_same c.as_bytes.ensures.value c.put.ensures in
    writes_both (writes_both (writes_both name c.put-2.ensures) c.put_unsigned.ensures) c.put-3.ensures
