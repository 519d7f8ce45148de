use Rattle.std.proofs.Common.{refl}
use Rattle.fast_fronts.proofs.numbers.Whole.{unsigned_is, few_unsigned, small_unsigned}
use Rattle.fast_fronts.proofs.whole.whole_unsigned.Goals as goal

pub returns-in-Some : goal.returns-in-Some
returns-in-Some c =
    let i = c.in-Some in
    let meant = c.meant-in-Some in
    let small = few_unsigned i.sum i.len c.args.rest.bytes.now i.ensures.entity i.ensures.few in
    unsigned_is c.args.strict c.args.nullable c.args.top meant.result i.sum i.len c.args.rest.bytes.now i.ensures.entity
    (λ _. c.if-not-goes_on.ensures refl) meant.ensures
    (small_unsigned c.args.nullable meant.result i.sum c.args.top meant.ensures small c.requires.top)
