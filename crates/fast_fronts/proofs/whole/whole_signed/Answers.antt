use Rattle.std.proofs.Common.{refl}
use Rattle.fast_fronts.proofs.numbers.Whole.{few_integer, integer_is, means_of_few}
use Rattle.fast_fronts.proofs.whole.whole_signed.Goals as goal

pub returns-in-Some-four_signed_in : goal.returns-in-Some-four_signed_in
returns-in-Some-four_signed_in c =
    let i = c.in-Some-four_signed_in in
    let x = c.meant_integer.result in
    let means = means_of_few c.args.nullable x i.number i.len c.args.rest.bytes.now i.ensures.entity.0 i.ensures.few i.ensures.entity.1
    c.meant_integer.ensures in
    integer_is c.args.strict c.args.nullable c.args.low c.args.top x i.len c.args.rest.bytes.now i.ensures.entity.0
    (c.if-is_refused_signed_front.ensures refl) means
    (few_integer c.args.nullable x i.len c.args.low c.args.top c.args.rest.bytes.now i.ensures.entity.0 i.ensures.few means c.requires.low c.requires.top)
