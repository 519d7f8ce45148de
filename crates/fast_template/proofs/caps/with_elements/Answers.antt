use Rattle.std.proofs.Common.{◌∙◌, ap, ℕ, ◌+◌, ◌*◌, min}
use Rattle.std.proofs.Math.Nat.{add_comm}
use Rattle.fast_template.proofs.Saturation.{stopped_both, stopped_product}
use Rattle.fast_template.proofs.caps.with_elements.Goals as goal

pub returns : goal.returns
returns c a o w h =
    let top : ℕ = 18446744073709551615 in
    let m = c.args.max_total in
    let product = c.saturating_mul.ensures ∙ ap (λ x. min (x * m) top) h.widest ∙ stopped_product top w m in
    c.saturating_add.ensures ∙ ap (λ x. min (x + c.args.message.outer) top) product ∙ ap (λ x. min (min (m * w) top + x) top) h.outer
    ∙ stopped_both top (m * w) o ∙ ap (λ x. min x top) (add_comm (m * w) o)
