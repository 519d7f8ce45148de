use Rattle.std.proofs.Common.{◌≤◌, arith}
use Rattle.fast_fronts.proofs.numbers.Packing.{packed_low_is}
use Rattle.fast_fronts.proofs.words.packed_short.Goals as goal

pub returns : goal.returns
returns c = λ w l bytes is.
    let fits = c.ranges.word.fits in
    let low : c.args.word ≤ 4294967295 = omega (arith, fits) in
    packed_low_is w c.args.word l bytes is low
