use Rattle.std.proofs.Common.{refl}
use Rattle.fast_fronts.proofs.numbers.Whole.{signed_is, tested_signed}
use Rattle.fast_fronts.proofs.whole.eight_signed.Goals as goal

pub returns : goal.returns
returns c =
    let i = c.in_ok-sum in
    let meant = c.meant_signed-number in
    signed_is c.args.strict c.args.nullable c.args.low c.args.top meant.result i.sum i.len c.args.bytes.now i.ensures
    c.requires.none meant.ensures
    (tested_signed meant.result c.args.low c.args.top c.ranges.low c.ranges.top (c.if-not-is_between.ensures refl))
