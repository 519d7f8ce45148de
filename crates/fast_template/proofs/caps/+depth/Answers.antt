use Rattle.std.proofs.Common.{ap, sym, ◌∙◌, length, refl, min, ◌+◌, ◌<◌, subst}
use Rattle.std.specs.Prelude.{slice_index}
use Rattle.fast_template.specs.device.Saturation.{in_32_bits}
use Rattle.fast_tree.specs.meaning.Sizes.{depth, body_depth}
use Rattle.fast_template.specs.meaning.Flat.{body_of, instructions_from}
use Rattle.fast_tree.specs.meaning.Numbers.{AreBetween}
use Rattle.fast_notation.proofs.nodes.Bodies.{instruction_here, names_later}
use Rattle.fast_notation.proofs.nodes.Measures.{left_at_node, left_at_body, smaller_at_node, smaller_at_body, all_below}
use Rattle.fast_template.proofs.Saturation.{stopped_suc}
use Rattle.fast_template.proofs.caps.+depth.Goals as goal

pub body_depth-node_depth-requires : goal.body_depth-node_depth-requires
body_depth-node_depth-requires t c =
    let limit = length c.args.nodes.now in
    let n = slice_index c.args.body.now c.loop-number.number-index in
    let smaller = smaller_at_node limit c.args.body.now c.loop-number.number-index n c.loop-number-test.true refl in
    (subst (λ m. left_at_node limit n < m) c.decreases smaller, (c.requires.later, c.requires.below c.loop-number.number-index c.loop-number-test.true))

pub node_depth-body_depth-requires : goal.node_depth-body_depth-requires
node_depth-body_depth-requires t c =
    let limit = length c.args.nodes.now in
    let v = c.index-nodes-number in
    let later = subst (AreBetween c.args.number limit) (sym c.deref.ensures.value)
    (names_later c.args.nodes.now c.args.number v.result _ c.requires.later c.requires.below v.is c.in-Group.is) in
    let smaller = smaller_at_body limit c.args.number c.deref.result.now c.requires.below later in
    (subst (λ m. left_at_body limit c.deref.result.now < m) c.decreases smaller, (c.requires.later, all_below c.args.number limit c.deref.result.now later))

pub node_depth-body_depth-requires-in-Sequence : goal.node_depth-body_depth-requires-in-Sequence
node_depth-body_depth-requires-in-Sequence t c =
    let limit = length c.args.nodes.now in
    let v = c.index-nodes-number in
    let body = c.deref-in-Sequence in
    let later = subst (AreBetween c.args.number limit) (sym body.ensures.value)
    (names_later c.args.nodes.now c.args.number v.result _ c.requires.later c.requires.below v.is c.in-Sequence.is) in
    let smaller = smaller_at_body limit c.args.number body.result.now c.requires.below later in
    (subst (λ m. left_at_body limit body.result.now < m) c.decreases smaller, (c.requires.later, all_below c.args.number limit body.result.now later))

pub node_depth-returns-in-Group : goal.node_depth-returns-in-Group
node_depth-returns-in-Group t c =
    let e = instruction_here c.args.nodes.now c.args.number c.index-nodes-number.result _ c.requires.later c.requires.below
    c.index-nodes-number.is c.in-Group.is in
    let inner = c.body_depth.ensures ∙ ap (λ ms. in_32_bits (body_depth (body_of 0 (instructions_from 0 c.args.nodes.now) ms))) c.deref.ensures.value in
    c.saturating_add.ensures ∙ ap (λ d. min (d + 1) 4294967295) inner
    ∙ stopped_suc 4294967295 (body_depth (body_of 0 (instructions_from 0 c.args.nodes.now) c.in-Group.body.items)) ∙ ap (λ i. in_32_bits (depth i)) (sym e)

pub node_depth-returns-in-Sequence : goal.node_depth-returns-in-Sequence
node_depth-returns-in-Sequence t c =
    let e = instruction_here c.args.nodes.now c.args.number c.index-nodes-number.result _ c.requires.later c.requires.below
    c.index-nodes-number.is c.in-Sequence.is in
    let inner = c.body_depth-in-Sequence.ensures ∙ ap (λ ms. in_32_bits (body_depth (body_of 0 (instructions_from 0 c.args.nodes.now) ms)))
    c.deref-in-Sequence.ensures.value in
    c.saturating_add-in-Sequence.ensures ∙ ap (λ d. min (d + 1) 4294967295) inner
    ∙ stopped_suc 4294967295 (body_depth (body_of 0 (instructions_from 0 c.args.nodes.now) c.in-Sequence.body.items)) ∙ ap (λ i. in_32_bits (depth i)) (sym e)

pub node_depth-returns-in-Field : goal.node_depth-returns-in-Field
node_depth-returns-in-Field t c = ap (λ i. in_32_bits (depth i))
    (sym (instruction_here c.args.nodes.now c.args.number c.index-nodes-number.result _ c.requires.later c.requires.below
    c.index-nodes-number.is c.in-Field.is))

pub node_depth-returns-in-Decimal : goal.node_depth-returns-in-Decimal
node_depth-returns-in-Decimal t c = ap (λ i. in_32_bits (depth i))
    (sym (instruction_here c.args.nodes.now c.args.number c.index-nodes-number.result _ c.requires.later c.requires.below
    c.index-nodes-number.is c.in-Decimal.is))
