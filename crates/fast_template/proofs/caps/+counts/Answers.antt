use Rattle.std.proofs.Common.{ap, ◌∙◌, ◌+◌, max, drop, sym, length, refl, ◌<◌, subst}
use Rattle.std.specs.Prelude.{slice_index, slice_index_or}
use Rattle.std.proofs.Math.Nat.{add_assoc, add-zero, max-zero}
use Rattle.fast_tree.specs.meaning.Sizes.{event_weights, size, body_size, outer, body_outer, widest, body_widest}
use Rattle.fast_template.specs.device.Counts.{AreCountsOf, AreCountsOfBody}
use Rattle.fast_template.specs.meaning.Flat.{no_instruction, body_of, instructions_from}
use Rattle.fast_tree.specs.meaning.Numbers.{AreBetween}
use Rattle.fast_template.specs.device.Saturation.{in_64_bits}
use Rattle.fast_notation.proofs.nodes.Walks.{body_at_end}
use Rattle.fast_notation.proofs.nodes.Bodies.{instruction_here, next_instruction, names_later}
use Rattle.fast_notation.proofs.nodes.Measures.{left_at_node, left_at_body, smaller_at_node, smaller_at_body, all_below}
use Rattle.fast_template.proofs.Saturation.{max_assoc}
use Rattle.fast_template.proofs.caps.+counts.Goals as goal

pub body_counts-node_counts-requires : goal.body_counts-node_counts-requires
body_counts-node_counts-requires t c =
    let limit = length c.args.nodes.now in
    let n = slice_index c.args.body.now c.loop-number.number-index in
    let smaller = smaller_at_node limit c.args.body.now c.loop-number.number-index n c.loop-number-test.true refl in
    (subst (λ m. left_at_node limit n < m) c.decreases smaller, (c.requires.later, c.requires.below c.loop-number.number-index c.loop-number-test.true))

pub node_counts-body_counts-requires : goal.node_counts-body_counts-requires
node_counts-body_counts-requires t c =
    let limit = length c.args.nodes.now in
    let v = c.index-nodes-number in
    let later = subst (AreBetween c.args.number limit) (sym c.deref.ensures.value)
    (names_later c.args.nodes.now c.args.number v.result _ c.requires.later c.requires.below v.is c.in-Group.is) in
    let smaller = smaller_at_body limit c.args.number c.deref.result.now c.requires.below later in
    (subst (λ m. left_at_body limit c.deref.result.now < m) c.decreases smaller, (c.requires.later, all_below c.args.number limit c.deref.result.now later))

pub node_counts-body_counts-requires-in-Sequence : goal.node_counts-body_counts-requires-in-Sequence
node_counts-body_counts-requires-in-Sequence t c =
    let limit = length c.args.nodes.now in
    let v = c.index-nodes-number in
    let body = c.deref-in-Sequence in
    let later = subst (AreBetween c.args.number limit) (sym body.ensures.value)
    (names_later c.args.nodes.now c.args.number v.result _ c.requires.later c.requires.below v.is c.in-Sequence.is) in
    let smaller = smaller_at_body limit c.args.number body.result.now c.requires.below later in
    (subst (λ m. left_at_body limit body.result.now < m) c.decreases smaller, (c.requires.later, all_below c.args.number limit body.result.now later))

pub body_counts-loop-number-preserved : goal.body_counts-loop-number-preserved
body_counts-loop-number-preserved t c =
    let i = c.loop-number.invariant in
    let is = instructions_from 0 c.args.nodes.now in
    let p = c.loop-number.number-index in
    let ms = c.args.body.now in
    let here = slice_index_or is (slice_index ms p) no_instruction in
    let rest = body_of 0 is (drop (p + 1) ms) in
    let next = next_instruction is ms p c.loop-number-test.true in
    let a = i.0 in
    let o = i.1 in
    let w = i.2 in
    let l = c.args.limits in
    let u = event_weights in (
      a + size u l here,
      o + outer u here,
      max w (widest u here),
      c.counts_of_both-counts.ensures a o w _ _ _ i.3 c.node_counts.ensures,
      add_assoc a (size u l here) (body_size u l rest) ∙ ap (λ b. a + body_size u l b) (sym next) ∙ i.4,
      add_assoc o (outer u here) (body_outer u rest) ∙ ap (λ b. o + body_outer u b) (sym next) ∙ i.5,
      max_assoc w (widest u here) (body_widest u rest) ∙ ap (λ b. max w (body_widest u b)) (sym next) ∙ i.6,
    )

pub body_counts-returns : goal.body_counts-returns
body_counts-returns t c =
    let i = c.loop-number.invariant in
    let is = instructions_from 0 c.args.nodes.now in
    let none = body_at_end is c.args.body.now c.loop-number.number-index c.loop-number-test.false in
    let a = i.0 in
    let o = i.1 in
    let w = i.2 in
    let counts = i.3 in
    let l = c.args.limits in
    let u = event_weights in
    record {
      all = counts.all ∙ ap in_64_bits (sym (add-zero a) ∙ ap (λ b. a + body_size u l b) (sym none) ∙ i.4);
      outer = counts.outer ∙ ap in_64_bits (sym (add-zero o) ∙ ap (λ b. o + body_outer u b) (sym none) ∙ i.5);
      widest = counts.widest ∙ ap in_64_bits (sym (max-zero w) ∙ ap (λ b. max w (body_widest u b)) (sym none) ∙ i.6);
    }

pub node_counts-returns-in-Field : goal.node_counts-returns-in-Field
node_counts-returns-in-Field t c =
    let e = instruction_here c.args.nodes.now c.args.number c.index-nodes-number.result _ c.requires.later c.requires.below
    c.index-nodes-number.is c.in-Field.is in
    subst (AreCountsOf c.field_counts.result c.args.limits) (sym e) c.field_counts.ensures

pub node_counts-returns-in-Decimal : goal.node_counts-returns-in-Decimal
node_counts-returns-in-Decimal t c =
    let e = instruction_here c.args.nodes.now c.args.number c.index-nodes-number.result _ c.requires.later c.requires.below
    c.index-nodes-number.is c.in-Decimal.is in
    subst (AreCountsOf c.field_counts-in-Decimal.result c.args.limits) (sym e) c.field_counts-in-Decimal.ensures

pub node_counts-returns-in-Group : goal.node_counts-returns-in-Group
node_counts-returns-in-Group t c =
    let e = instruction_here c.args.nodes.now c.args.number c.index-nodes-number.result _ c.requires.later c.requires.below
    c.index-nodes-number.is c.in-Group.is in
    let counts = subst (λ ms. AreCountsOfBody c.body_counts.result c.args.limits (body_of 0 (instructions_from 0 c.args.nodes.now) ms))
    c.deref.ensures.value c.body_counts.ensures in
    subst (AreCountsOf c.group_counts.result c.args.limits) (sym e) (c.group_counts.ensures _ _ _ counts)

pub node_counts-returns-in-Sequence : goal.node_counts-returns-in-Sequence
node_counts-returns-in-Sequence t c =
    let e = instruction_here c.args.nodes.now c.args.number c.index-nodes-number.result _ c.requires.later c.requires.below
    c.index-nodes-number.is c.in-Sequence.is in
    let counts = subst (λ ms. AreCountsOfBody c.body_counts-in-Sequence.result c.args.limits
    (body_of 0 (instructions_from 0 c.args.nodes.now) ms)) c.deref-in-Sequence.ensures.value c.body_counts-in-Sequence.ensures in
    subst (AreCountsOf c.sequence_counts.result c.args.limits) (sym e) (c.sequence_counts.ensures _ _ _ counts)
