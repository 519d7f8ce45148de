use Rattle.std.proofs.Common.{arith, refl, sym, subst}
use Rattle.std.proofs.lemmas.Option.{slice_get_read}
use Rattle.fast_template.proofs.BodyBits.{Uses, bits_more}
use Rattle.fast_template.proofs.widths.body_bits.Goals as goal

pub loop-n-preserved : goal.loop-n-preserved
loop-n-preserved c =
    let nodes = c.args.nodes.now in
    let node = c.index-nodes-n in
    let found = slice_get_read nodes _ _ node.result refl (c.requires.within c.loop-n.n-index c.loop-n-test.true) node.is in
    let used = subst (Uses c.bits_used-bits.result) (sym node.is) c.bits_used-bits.ensures.used in
    let before = c.loop-n.invariant.sum in
    let more = bits_more nodes c.args.body.now c.loop-n.n-index 0 c.bits_used-bits.result node.result c.loop-n-test.true found used in
    record { sum = omega (arith, before, more); few = omega (arith, c.loop-n.invariant.few, c.bits_used-bits.ensures.few) }
