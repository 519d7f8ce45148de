-- The text ends at the first stop.
use Rattle.std.proofs.Common.{◌≡◌, ◌+◌, ◌<◌, ◌≤◌, arith, get_or, subst}
use Rattle.fast_items.proofs.ShortTexts.{short_text}
use Rattle.fast_items.proofs.ascii_items.block_length.Goals as goal

pub returns : goal.returns
returns c =
    let last = c.stop_in_block-last.result in
    let stop = c.stop_in_block-last.ensures in
    let short = stop.within in
    let other = c.if-last-eq16.false in
    let within : last < 16 = omega (arith, short, other) in
    let here : 0 + last ≡ last = omega arith in
    short_text c.args.rest.now last c.requires.begins c.if-rest-lt16.false within (λ k h. stop.before k (omega arith) (omega arith))
    (subst (λ k. 128 ≤ get_or c.args.rest.now k 0) here (stop.stop within)) (c.type_inv.rest last).fits
