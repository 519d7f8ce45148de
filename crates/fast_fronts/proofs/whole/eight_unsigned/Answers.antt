use Rattle.std.proofs.Common.{refl}
use Rattle.fast_fronts.proofs.numbers.Whole.{unsigned_is, tested_unsigned}
use Rattle.fast_fronts.proofs.whole.eight_unsigned.Goals as goal

pub returns : goal.returns
returns c =
    let i = c.in_ok-sum in
    let meant = c.meant-number in
    unsigned_is c.args.strict c.args.nullable c.args.top meant.result i.sum i.len c.args.bytes.now i.ensures c.requires.none
    meant.ensures
    (tested_unsigned meant.result c.args.top (c.if-not-is_up_to.ensures refl))
