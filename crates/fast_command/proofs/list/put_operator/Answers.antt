use Rattle.std.proofs.Common.{◌∙◌, ap}
use Rattle.fast_text.proofs.Writing.{writes_both, writes_same}
use Rattle.fast_command.proofs.list.put_operator.Goals as goal

pub returns : goal.returns
returns g c =
    let operator = writes_same (c.as_bytes.ensures.value ∙ c.operator_text.ensures) c.put.ensures in
    writes_both (writes_both operator c.put_entry.ensures) c.put_initial.ensures
