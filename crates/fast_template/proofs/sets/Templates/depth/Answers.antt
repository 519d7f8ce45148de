use Rattle.std.proofs.Common.{◌≡◌, ◌≤◌, ap, sym, ◌∙◌, refl, subst, length, slice_get, Some, arith}
use Rattle.std.proofs.Math.Nat.{min-eq_left, le_trans}
use Rattle.std.proofs.lemmas.Option.{slice_get_read}
use Rattle.fast_template.specs.meaning.Flat.{tree_of, body_of, instructions_from}
use Rattle.fast_tree.specs.meaning.Numbers.{AreBelow}
use Rattle.fast_template.specs.device.Saturation.{in_32_bits}
use Rattle.fast_tree.specs.meaning.Sizes.{body_depth, set_depth}
use Rattle.fast_template.proofs.CapBounds.{few_levels}
use Rattle.fast_template.proofs.Greatest.{depth_of, greatest_kept, greatest_whole}
use Rattle.fast_template.proofs.sets.Templates.depth.Goals as goal

pub body_depth-requires-clause-below : goal.body_depth-requires-clause-below
body_depth-requires-clause-below c =
    let s = c.args.self.now in
    let d = c.deref-template-items.ensures.value in
    let t = c.template-item.result in
    let found = slice_get_read s.templates.items _ c.loop-template.template-index t refl (rw d at c.loop-template-test.true) (rw d at c.template-item.is) in
    let body = c.deref-in-loop-template in
    subst (λ ns. AreBelow (length ns) body.result.now) (sym c.deref.ensures.value)
    (subst (AreBelow (length s.nodes.items)) (sym body.ensures.value) (s.templates_name_nodes c.loop-template.template-index t found))

pub loop-template-preserved : goal.loop-template-preserved
loop-template-preserved c =
    let s = c.args.self.now in
    let ts = s.templates.items in
    let d = c.deref-template-items.ensures.value in
    let t = c.template-item.result in
    let inside = rw d at c.loop-template-test.true in
    let read = rw d at c.template-item.is in
    let found : slice_get ts c.loop-template.template-index ≡ Some t = slice_get_read ts _ c.loop-template.template-index t refl inside read in
    let here = c.body_depth.ensures ∙ ap (λ ns. in_32_bits
    (body_depth (body_of 0 (instructions_from 0 ns) c.deref-in-loop-template.result.now))) c.deref.ensures.value
    ∙ ap (λ ms. in_32_bits (body_depth (body_of 0 (instructions_from 0 s.nodes.items) ms))) c.deref-in-loop-template.ensures.value in
    rw (c.max-deepest.ensures, here) (greatest_kept 4294967295 c.loop-template.deepest depth_of s.nodes.items ts
    c.loop-template.template-index t found c.loop-template.invariant)

pub returns-clause-greatest : goal.returns-clause-greatest
returns-clause-greatest c =
    let s = c.args.self.now in
    let past = rw c.deref-template-items.ensures.value at c.loop-template-test.false in
    let few : set_depth (tree_of s) ≤ 4294967295 = le_trans (few_levels s) (omega arith) in
    greatest_whole 4294967295 c.loop-template.deepest depth_of s.nodes.items s.templates.items c.loop-template.template-index past
    c.loop-template.invariant ∙ min-eq_left few

pub returns-clause-few : goal.returns-clause-few
returns-clause-few c =
    let s = c.args.self.now in
    let past = rw c.deref-template-items.ensures.value at c.loop-template-test.false in
    let few : set_depth (tree_of s) ≤ 4294967295 = le_trans (few_levels s) (omega arith) in
    let is : c.loop-template.deepest ≡ set_depth (tree_of s) =
    greatest_whole 4294967295 c.loop-template.deepest depth_of s.nodes.items s.templates.items c.loop-template.template-index past
    c.loop-template.invariant ∙ min-eq_left few in
    subst (λ n. n ≤ 65536) (sym is) (few_levels s)
