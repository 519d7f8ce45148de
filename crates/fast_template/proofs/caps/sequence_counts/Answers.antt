use Rattle.std.proofs.Common.{◌∙◌, ap, refl, ◌+◌, ◌*◌, min, max, ℕ}
use Rattle.fast_template.proofs.Saturation.{stopped_two, stopped_product, stopped_max}
use Rattle.fast_template.proofs.caps.sequence_counts.Goals as goal

pub returns : goal.returns
returns c a o w h =
    let top : ℕ = 18446744073709551615 in
    let m = c.args.max_elements in
    let element = c.group_counts-element.ensures a o w h in
    let product = c.saturating_mul.ensures ∙ ap (λ x. min (x * c.from.result) top) element.all
    ∙ ap (λ y. min (min (2 + a) top * y) top) c.from.ensures ∙ stopped_product top (2 + a) m in
    record {
      all = c.saturating_add.ensures ∙ ap (λ x. min (x + 2) top) product ∙ stopped_two top (m * (2 + a));
      outer = refl;
      widest = c.max.ensures ∙ ap (λ x. max x c.group_counts-element.result.widest) element.outer
          ∙ ap (max (min (2 + o) top)) element.widest ∙ stopped_max top (2 + o) w;
    }
