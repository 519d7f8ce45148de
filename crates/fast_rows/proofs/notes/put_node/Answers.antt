use Rattle.std.proofs.Common.{◌∙◌, ap, decimal}
use Rattle.fast_text.proofs.Writing.{writes_both, writes_same}
use Rattle.fast_rows.proofs.notes.put_node.Goals as goal

pub returns : goal.returns
returns g c =
    let number = writes_same (ap decimal c.from.ensures) c.put_unsigned.ensures in
    let name = writes_same (c.as_bytes.ensures.value ∙ c.name_of.ensures) c.put-2.ensures in
    writes_both (writes_both number c.put.ensures) name
