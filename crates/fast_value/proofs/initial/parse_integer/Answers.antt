use Rattle.std.proofs.Common.{◌∙◌, arith}
use Rattle.std.proofs.lemmas.Int.{ints, to_z-of_z}
use mir.Syntax.{w64, w128}
use mir.Val.{SFits}
use Rattle.fast_value.proofs.initial.parse_integer.Goals as goal

pub returns-in-None-clause-none : goal.returns-in-None-clause-none
returns-in-None-clause-none c _ x h =
    let fits_low : SFits w128 c.from.result = omega (arith, ints, c.from.type_inv) in
    let fits_high : SFits w128 c.from-2.result = omega (arith, ints, c.from-2.type_inv) in
    let small_low : SFits w64 c.args.low = omega (arith, ints, c.ranges.low.sfits) in
    let small_high : SFits w64 c.args.high = omega (arith, ints, c.ranges.high.sfits) in
    let low = to_z-of_z w128 c.from.result fits_low ∙ c.from.ensures ∙ to_z-of_z w64 c.args.low small_low in
    let high = to_z-of_z w128 c.from-2.result fits_high ∙ c.from-2.ensures ∙ to_z-of_z w64 c.args.high small_high in
    c.in-None.ensures.none x (rw (low, high) h)
