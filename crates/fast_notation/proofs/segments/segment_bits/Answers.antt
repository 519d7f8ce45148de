use Rattle.std.proofs.Common.{◌≡◌, ◌∙◌, ◌+◌, ap, sym, refl, drop, arith}
use Rattle.std.specs.Prelude.{slice_index, slice_index_or}
use Rattle.std.proofs.Math.Nat.{add_assoc}
use Rattle.fast_tree.specs.meaning.Nodes.{body_of, instructions_from, label_of, no_instruction}
use Rattle.fast_tree.specs.meaning.Tree.{bits_used, bits_of}
use Rattle.fast_notation.proofs.nodes.Bodies.{instruction_here, next_instruction}
use Rattle.fast_notation.proofs.segments.segment_bits.Goals as goal

pub loop-number-preserved : goal.loop-number-preserved
loop-number-preserved c =
    let ns = c.args.nodes.now in
    let is = instructions_from 0 ns in
    let ms = c.args.body.now in
    let p = c.loop-number.number-index in
    let n = slice_index ms p in
    let v = c.index-nodes-number in
    let b = c.loop-number.bits in
    let rest = body_of 0 is (drop (p + 1) ms) in
    let here = instruction_here ns n v.result _ c.requires.later (c.requires.below p c.loop-number-test.true) v.is refl in
    let used : c.bits_used-bits.result ≡ bits_used (slice_index_or is n no_instruction) =
    c.bits_used-bits.ensures.used (label_of n v.result) 0 is ∙ ap bits_used (sym here) in
    let few = c.loop-number.invariant.few in
    let two = c.bits_used-bits.ensures.few in
    record {
      few = omega (arith, few, two);
      all = add_assoc b c.bits_used-bits.result (bits_of rest) ∙ ap (λ x. b + (x + bits_of rest)) used
          ∙ ap (λ x. b + bits_of x) (sym (next_instruction is ms p c.loop-number-test.true)) ∙ c.loop-number.invariant.all;
    }
