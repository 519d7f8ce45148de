use Rattle.std.proofs.Common.{◌≤◌, ◌∙◌, ap, subst}
use Rattle.std.specs.Prelude.{bit_and}
use Rattle.fast_fronts.proofs.stop_bits.ShortEntities.{one_byte}
use Rattle.fast_fronts.proofs.words.one_byte.Goals as goal

pub returns : goal.returns
returns c =
    let item = c.in_ok-byte.ensures.item in
    one_byte c.args.bytes.now c.from.result item.3.0 (subst (λ n. 128 ≤ n) (item.3.1 0) c.if-byte-lt128.false)
    (c.from.ensures ∙ ap (λ n. bit_and n 127) (item.3.1 0))
