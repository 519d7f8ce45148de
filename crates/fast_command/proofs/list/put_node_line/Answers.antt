use Rattle.std.proofs.Common.{ap, sym, ◌∙◌}
use Rattle.std.specs.Prelude.{decimal}
use Rattle.fast_text.proofs.Writing.{writes_both, writes_same}
use Rattle.fast_tree.specs.meaning.Nodes.{label_of}
use Rattle.fast_command.proofs.list.put_node_line.Goals as goal

pub returns : goal.returns
returns g c first is =
    let number = writes_both c.put.ensures (writes_same (ap decimal c.from.ensures) c.put_unsigned.ensures) in
    let path = writes_both (writes_both number c.put-2.ensures) c.put_path.ensures in
    let name = writes_both path (writes_same c.as_bytes.ensures.value c.put-3.ensures) in
    let words = c.put_words.ensures (label_of c.args.number c.args.node.now) first is in
    writes_both (writes_both (writes_both name c.put-4.ensures) words) c.put-5.ensures
