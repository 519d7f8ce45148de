use Rattle.std.proofs.Common.{◌≡◌, ◌++◌, ◌<◌, ap, sym, ◌∙◌, refl, subst, length, drop, codes}
use Rattle.std.specs.Prelude.{slice_index, slice_index_or}
use Rattle.fast_template.specs.meaning.Flat.{nodes_of}
use Rattle.fast_text.proofs.Writing.{writes_both, writes_none, writes_same}
use Rattle.fast_tree.specs.meaning.Nodes.{body_among, instruction_of, instructions_from, label_of}
use Rattle.fast_tree.specs.meaning.Numbers.{AreBetween, numbers_of}
use Rattle.fast_notation.proofs.nodes.Walks.{body_at_end}
use Rattle.fast_notation.proofs.nodes.Bodies.{next_instruction}
use Rattle.fast_notation.proofs.nodes.Measures.{left_at_node, left_at_body, smaller_at_node, smaller_at_body, all_below}
use Rattle.fast_command.specs.device.Paths.{path_text}
use Rattle.fast_command.specs.meaning.Listing.{body_lines, instruction_lines, instruction_words, node_line, path_within}
use Rattle.fast_command.proofs.Lists.{node_found}
use Rattle.fast_command.proofs.list.+lines.Goals as goal

pub put_body-put_node-requires : goal.put_body-put_node-requires
put_body-put_node-requires g t c κs within =
    let limit = length (nodes_of c.args.templates.now) in
    let n = slice_index c.args.body.now c.loop-number.number-index in
    let smaller = smaller_at_node limit c.args.body.now c.loop-number.number-index n c.loop-number-test.true refl in
    (subst (λ m. left_at_node limit n < m) c.decreases smaller, (within, c.requires c.loop-number.number-index c.loop-number-test.true))

pub put_body-loop-number-preserved : goal.put_body-loop-number-preserved
put_body-loop-number-preserved g t c end rest =
    let is = instructions_from 0 (nodes_of c.args.templates.now) in
    let next = next_instruction is c.args.body.now c.loop-number.number-index c.loop-number-test.true in
    c.loop-number.invariant end (writes_same (ap (body_lines (path_text c.args.path.now)) (sym next)) (writes_both c.put_node.ensures rest))

pub put_body-returns : goal.put_body-returns
put_body-returns g t c =
    let is = instructions_from 0 (nodes_of c.args.templates.now) in
    let none = body_at_end is c.args.body.now c.loop-number.number-index c.loop-number-test.false in
    c.loop-number.invariant c.loop-number.line (writes_same (ap (body_lines (path_text c.args.path.now)) (sym none))
    (writes_none g.T.Target.written g.T.Target.has_failed c.loop-number.line))

pub put_node-put_body-requires : goal.put_node-put_body-requires
put_node-put_body-requires g t c κs within =
    let limit = length (nodes_of c.args.templates.now) in
    let found = subst (λ s. AreBetween c.args.number limit (numbers_of s)) c.in-Group.is c.node-node.ensures.body in
    let later = subst (AreBetween c.args.number limit) (sym c.deref.ensures.value) found in
    let smaller = smaller_at_body limit c.args.number c.deref.result.now c.requires later in
    (subst (λ m. left_at_body limit c.deref.result.now < m) c.decreases smaller, (within, all_below c.args.number limit c.deref.result.now later))

pub put_node-put_body-requires-in-Sequence : goal.put_node-put_body-requires-in-Sequence
put_node-put_body-requires-in-Sequence g t c κs within =
    let limit = length (nodes_of c.args.templates.now) in
    let body = c.deref-in-Sequence in
    let found = subst (λ s. AreBetween c.args.number limit (numbers_of s)) c.in-Sequence.is c.node-node.ensures.body in
    let later = subst (AreBetween c.args.number limit) (sym body.ensures.value) found in
    let smaller = smaller_at_body limit c.args.number body.result.now c.requires later in
    (subst (λ m. left_at_body limit body.result.now < m) c.decreases smaller, (within, all_below c.args.number limit body.result.now later))

pub put_node-returns-in-Field : goal.put_node-returns-in-Field
put_node-returns-in-Field g t c =
    let ns = nodes_of c.args.templates.now in
    let path = path_text c.args.path.now in
    let at = label_of c.args.number c.node-node.result.now in
    let e = node_found ns c.args.number c.node-node.result.now _ c.node-node.ensures.found c.node-node.ensures.body c.in-Field.is in
    let own = writes_same (ap (λ s. node_line path at (instruction_words (instruction_of at 0 (instructions_from 0 ns) s))) c.in-Field.is)
    (c.put_node_line.ensures 0 (instructions_from 0 ns)) in
    writes_same (ap (instruction_lines path) (sym e)) own

pub put_node-returns-in-Decimal : goal.put_node-returns-in-Decimal
put_node-returns-in-Decimal g t c =
    let ns = nodes_of c.args.templates.now in
    let path = path_text c.args.path.now in
    let at = label_of c.args.number c.node-node.result.now in
    let e = node_found ns c.args.number c.node-node.result.now _ c.node-node.ensures.found c.node-node.ensures.body c.in-Decimal.is in
    let own = writes_same (ap (λ s. node_line path at (instruction_words (instruction_of at 0 (instructions_from 0 ns) s)))
    c.in-Decimal.is) (c.put_node_line.ensures 0 (instructions_from 0 ns)) in
    writes_same (ap (instruction_lines path) (sym e)) own

pub put_node-returns-in-Group : goal.put_node-returns-in-Group
put_node-returns-in-Group g t c =
    let ns = nodes_of c.args.templates.now in
    let path = path_text c.args.path.now in
    let at = label_of c.args.number c.node-node.result.now in
    let e = node_found ns c.args.number c.node-node.result.now _ c.node-node.ensures.found c.node-node.ensures.body c.in-Group.is in
    let own = writes_same (ap (λ s. node_line path at (instruction_words (instruction_of at 0 (instructions_from 0 ns) s))) c.in-Group.is)
    (c.put_node_line.ensures 0 (instructions_from 0 ns)) in
    let inner = ap (λ name. body_lines (path ++ name ++ codes ".") (body_among ns c.deref.result.now)) c.as_str.ensures.value
    ∙ ap (λ ms. body_lines (path_within path at) (body_among ns ms)) c.deref.ensures.value in
    writes_same (ap (instruction_lines path) (sym e)) (writes_both own (writes_same inner c.put_body.ensures))

pub put_node-returns-in-Sequence : goal.put_node-returns-in-Sequence
put_node-returns-in-Sequence g t c =
    let ns = nodes_of c.args.templates.now in
    let path = path_text c.args.path.now in
    let at = label_of c.args.number c.node-node.result.now in
    let e = node_found ns c.args.number c.node-node.result.now _ c.node-node.ensures.found c.node-node.ensures.body c.in-Sequence.is in
    let own = writes_same (ap (λ s. node_line path at (instruction_words (instruction_of at 0 (instructions_from 0 ns) s)))
    c.in-Sequence.is) (c.put_node_line.ensures 0 (instructions_from 0 ns)) in
    let body = c.deref-in-Sequence in
    let inner = ap (λ name. body_lines (path ++ name ++ codes ".") (body_among ns body.result.now)) c.as_str.ensures.value
    ∙ ap (λ ms. body_lines (path_within path at) (body_among ns ms)) body.ensures.value in
    writes_same (ap (instruction_lines path) (sym e)) (writes_both own (writes_same inner c.put_body-in-Sequence.ensures))
