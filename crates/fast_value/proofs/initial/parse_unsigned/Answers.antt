use Rattle.std.proofs.Common.{◌∙◌, arith}
use Rattle.std.proofs.lemmas.Int.{ints, to_z-of_z}
use mir.Syntax.{w128}
use mir.Val.{SFits}
use Rattle.fast_value.proofs.initial.parse_unsigned.Goals as goal

pub returns-in-None-clause-none : goal.returns-in-None-clause-none
returns-in-None-clause-none c _ x h =
    let fits_high : SFits w128 c.from.result = omega (arith, ints, c.from.type_inv) in
    let high = to_z-of_z w128 c.from.result fits_high ∙ c.from.ensures in
    c.in-None.ensures.none x (rw high h)
