use Rattle.std.proofs.Common.{◌≡◌, ◌<◌, ℕ, min, ap, sym, ◌∙◌, refl, subst, length, slice_get, Some}
use Rattle.std.proofs.Math.Nat.{min-eq_left}
use Rattle.std.proofs.lemmas.Option.{slice_get_read}
use Rattle.fast_template.specs.meaning.Flat.{tree_of, body_of, instructions_from}
use Rattle.fast_tree.specs.meaning.Numbers.{AreBelow}
use Rattle.fast_template.specs.device.Counts.{AreCountsOfBody}
use Rattle.fast_tree.specs.meaning.Sizes.{event_weights, product_cap, sum_cap}
use Rattle.fast_template.proofs.CapBounds.{sum_cap_fits}
use Rattle.fast_template.proofs.Greatest.{product_of, sum_of, greatest_kept, greatest_whole}
use Rattle.fast_template.proofs.Saturation.{stopped_min}
use Rattle.fast_template.proofs.sets.Templates.message_cap.Goals as goal

pub body_counts-requires-clause-below : goal.body_counts-requires-clause-below
body_counts-requires-clause-below c =
    let s = c.args.self.now in
    let d = c.deref-template-items.ensures.value in
    let t = c.template-item.result in
    let found = slice_get_read s.templates.items _ c.loop-template.template-index t refl (rw d at c.loop-template-test.true) (rw d at c.template-item.is) in
    let body = c.deref-in-loop-template in
    subst (λ ns. AreBelow (length ns) body.result.now) (sym c.deref.ensures.value)
    (subst (AreBelow (length s.nodes.items)) (sym body.ensures.value) (s.templates_name_nodes c.loop-template.template-index t found))

pub loop-template-preserved : goal.loop-template-preserved
loop-template-preserved c =
    let s = c.args.self.now in
    let l = c.args.limits in
    let ns = s.nodes.items in
    let ts = s.templates.items in
    let p = c.loop-template.template-index in
    let top : ℕ = 18446744073709551615 in
    let d = c.deref-template-items.ensures.value in
    let t = c.template-item.result in
    let found : slice_get ts p ≡ Some t = slice_get_read ts _ p t refl (rw d at c.loop-template-test.true) (rw d at c.template-item.is) in
    let body = c.deref-in-loop-template in
    let counts = subst (λ ms. AreCountsOfBody c.body_counts.result l (body_of 0 (instructions_from 0 ns) ms)) body.ensures.value
    (subst (λ vs. AreCountsOfBody c.body_counts.result l (body_of 0 (instructions_from 0 vs) body.result.now)) c.deref.ensures.value c.body_counts.ensures) in
    let message = c.group_counts-message.ensures _ _ _ counts in
    record {
      by_sequence = rw (c.max-by_sequence.ensures, message.all)
          (greatest_kept top c.loop-template.by_sequence (product_of l) ns ts p t found c.loop-template.invariant.by_sequence);
      by_message = rw (c.max-by_message.ensures, c.with_elements.ensures _ _ _ message, c.widened-max_total.ensures.value)
          (greatest_kept top c.loop-template.by_message (sum_of l) ns ts p t found c.loop-template.invariant.by_message);
    }

pub returns : goal.returns
returns c =
    let s = c.args.self.now in
    let l = c.args.limits in
    let ns = s.nodes.items in
    let ts = s.templates.items in
    let p = c.loop-template.template-index in
    let top : ℕ = 18446744073709551615 in
    let past = rw c.deref-template-items.ensures.value at c.loop-template-test.false in
    let product = greatest_whole top c.loop-template.by_sequence (product_of l) ns ts p past c.loop-template.invariant.by_sequence in
    let fits = sum_cap_fits s l (subst (λ n. n < 4294967296) c.widened-max_total.ensures.value c.widened-max_total.ensures.small) in
    let sum = greatest_whole top c.loop-template.by_message (sum_of l) ns ts p past c.loop-template.invariant.by_message ∙ min-eq_left fits in
    c.min.ensures ∙ ap (λ x. min x c.loop-template.by_message) product ∙ ap (min (min (product_cap event_weights (tree_of s) l) top)) sum
    ∙ stopped_min top (product_cap event_weights (tree_of s) l) (sum_cap event_weights (tree_of s) l) fits
