use Rattle.std.proofs.Common.{◌≡◌, ◌∙◌, ap, arith, List, ℕ, ◌+◌, ◌-◌, ◌++◌, length, length-append, take}
use Rattle.std.proofs.Math.Seq.{take-append-add}
use Rattle.std.proofs.lemmas.List.{length-take-le, take-take}
use Rattle.fast_units.proofs.scratch.Scratch.append_front.Goals as goal

pub returns-clause-text : goal.returns-clause-text
returns-clause-text c =
    let old = c.args.self.now.text in
    let block = c.args.block.now in
    let count = c.args.count in
    let len : c.len.result ≡ length old + 16 = c.len.ensures.len ∙ ap length c.append.ensures.text ∙ length-append old (take 16 block)
    ∙ ap (λ (n : ℕ). length old + n) (length-take-le 16 block c.requires.block) in
    let end : c.len.result - (16 - count) ≡ length old + count = omega (arith, len, c.requires.count) in
    rw (c.truncate.ensures.text, c.append.ensures.text, end)
    (take-append-add old (take 16 block) count ∙ ap (λ (t : List ℕ). old ++ t) (take-take count 16 block c.requires.count))
