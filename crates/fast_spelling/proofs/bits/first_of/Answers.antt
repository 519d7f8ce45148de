-- The bits after the first ones are shifted out.
use Rattle.std.proofs.Common.{◌≤◌, ◌+◌, ◌-◌, arith}
use Rattle.std.specs.Int.Count.{count_leading_zeros}
use Rattle.fast_spelling.proofs.bytes.Presence.{few_zeros, first_bits, length_low}
use Rattle.fast_spelling.proofs.bits.first_of.Goals as goal
use Rattle.fast_spelling.proofs.bits.first_of.Goals.{Start}

within : (c : Start) → count_leading_zeros 64 c.args.word + c.args.count ≤ 63
within c =
    let fits = c.ranges.word.fits in
    let zeros = few_zeros c.args.word c.requires.some (omega (arith, fits)) in
    let size = length_low (63 - count_leading_zeros 64 c.args.word) c.args.word in
    let few = c.requires.few in
    omega (arith, zeros, size, few)

pub overflow_add-result : goal.overflow_add-result
overflow_add-result c = let few = within c in omega (arith, few)

pub overflow_sub-result : goal.overflow_sub-result
overflow_sub-result c = let few = within c in omega (arith, few)

pub returns-clause-marked : goal.returns-clause-marked
returns-clause-marked c = let few = within c in let fits = c.ranges.word.fits in (first_bits c.args.word c.args.count c.requires.some (omega
    (arith, fits)) (omega (arith, few))).0

pub returns-clause-bits : goal.returns-clause-bits
returns-clause-bits c = let few = within c in let fits = c.ranges.word.fits in (first_bits c.args.word c.args.count c.requires.some (omega
    (arith, fits)) (omega (arith, few))).1
