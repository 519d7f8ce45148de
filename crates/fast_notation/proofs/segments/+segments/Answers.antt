use Rattle.std.proofs.Common.{sym, length, refl, ◌<◌, subst}
use Rattle.std.specs.Prelude.{slice_index, IsTrue, ◌↔◌, true}
use Rattle.fast_notation.specs.meaning.Checked.{IsNarrowInside}
use Rattle.fast_notation.specs.device.Segments.{IsNarrowSegment}
use Rattle.fast_tree.specs.meaning.Sizes.{segment_limit}
use Rattle.fast_tree.specs.meaning.Nodes.{body_of, instructions_from}
use Rattle.fast_tree.specs.meaning.Numbers.{AreBetween}
use Rattle.fast_notation.proofs.nodes.Bodies.{instruction_here, names_later}
use Rattle.fast_notation.proofs.nodes.Measures.{left_at_node, left_at_body, smaller_at_node, smaller_at_body, all_below}
use Rattle.fast_notation.proofs.segments.+segments.Goals as goal

pub is_narrow_segment-is_narrow_inside-requires : goal.is_narrow_segment-is_narrow_inside-requires
is_narrow_segment-is_narrow_inside-requires t c =
    let limit = length c.args.nodes.now in
    let n = slice_index c.args.body.now c.loop-number.number-index in
    let smaller = smaller_at_node limit c.args.body.now c.loop-number.number-index n c.loop-number-test.true refl in
    (subst (λ m. left_at_node limit n < m) c.decreases smaller, (c.requires.later, c.requires.below c.loop-number.number-index c.loop-number-test.true))

pub is_narrow_inside-is_narrow_segment-requires : goal.is_narrow_inside-is_narrow_segment-requires
is_narrow_inside-is_narrow_segment-requires t c =
    let limit = length c.args.nodes.now in
    let v = c.index-nodes-number in
    let later = subst (AreBetween c.args.number limit) (sym c.deref.ensures.value)
    (names_later c.args.nodes.now c.args.number v.result _ c.requires.later c.requires.below v.is c.in-Group.is) in
    let smaller = smaller_at_body limit c.args.number c.deref.result.now c.requires.below later in
    (subst (λ m. left_at_body limit c.deref.result.now < m) c.decreases smaller, (c.requires.later, all_below c.args.number limit c.deref.result.now later))

pub is_narrow_inside-is_narrow_segment-requires-in-Sequence : goal.is_narrow_inside-is_narrow_segment-requires-in-Sequence
is_narrow_inside-is_narrow_segment-requires-in-Sequence t c =
    let limit = length c.args.nodes.now in
    let v = c.index-nodes-number in
    let body = c.deref-in-Sequence in
    let later = subst (AreBetween c.args.number limit) (sym body.ensures.value)
    (names_later c.args.nodes.now c.args.number v.result _ c.requires.later c.requires.below v.is c.in-Sequence.is) in
    let smaller = smaller_at_body limit c.args.number body.result.now c.requires.below later in
    (subst (λ m. left_at_body limit body.result.now < m) c.decreases smaller, (c.requires.later, all_below c.args.number limit body.result.now later))

pub is_narrow_inside-returns-in-Field : goal.is_narrow_inside-returns-in-Field
is_narrow_inside-returns-in-Field t c =
    let e = instruction_here c.args.nodes.now c.args.number c.index-nodes-number.result _ c.requires.later c.requires.below
    c.index-nodes-number.is c.in-Field.is in
    subst (λ i. IsTrue true ↔ IsNarrowInside i) (sym e) ((λ h. tt), (λ h. refl))

pub is_narrow_inside-returns-in-Decimal : goal.is_narrow_inside-returns-in-Decimal
is_narrow_inside-returns-in-Decimal t c =
    let e = instruction_here c.args.nodes.now c.args.number c.index-nodes-number.result _ c.requires.later c.requires.below
    c.index-nodes-number.is c.in-Decimal.is in
    subst (λ i. IsTrue true ↔ IsNarrowInside i) (sym e) ((λ h. tt), (λ h. refl))

pub is_narrow_inside-returns-in-Group : goal.is_narrow_inside-returns-in-Group
is_narrow_inside-returns-in-Group t c =
    let e = instruction_here c.args.nodes.now c.args.number c.index-nodes-number.result _ c.requires.later c.requires.below
    c.index-nodes-number.is c.in-Group.is in
    subst (λ i. IsTrue c.is_narrow_segment.result ↔ IsNarrowInside i) (sym e)
    (subst (λ ms. IsTrue c.is_narrow_segment.result ↔ IsNarrowSegment segment_limit (body_of 0 (instructions_from 0 c.args.nodes.now) ms))
    c.deref.ensures.value c.is_narrow_segment.ensures)

pub is_narrow_inside-returns-in-Sequence : goal.is_narrow_inside-returns-in-Sequence
is_narrow_inside-returns-in-Sequence t c =
    let e = instruction_here c.args.nodes.now c.args.number c.index-nodes-number.result _ c.requires.later c.requires.below
    c.index-nodes-number.is c.in-Sequence.is in
    let inside = c.is_narrow_segment-in-Sequence in
    subst (λ i. IsTrue inside.result ↔ IsNarrowInside i) (sym e)
    (subst (λ ms. IsTrue inside.result ↔ IsNarrowSegment segment_limit (body_of 0 (instructions_from 0 c.args.nodes.now) ms))
    c.deref-in-Sequence.ensures.value inside.ensures)
