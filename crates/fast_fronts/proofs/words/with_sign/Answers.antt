use Rattle.std.proofs.Common.{◌∙◌, ◌≡◌, ◌^◌, ◌-◌, ap}
use mir.Syntax.{w32}
use mir.Val.{to_z, of_z}
use lib.Signed.{shr_z}
use Rattle.fast_fronts.proofs.numbers.Spreading.{spread_of, spread_is}
use Rattle.fast_fronts.proofs.words.with_sign.Goals as goal

pub returns : goal.returns
returns c = λ front rest count four bytes word.
    let step = 2 ^ (33 - c.args.bits) in
    let e : c.cast_unsigned.result ≡ spread_of c.args.word step = c.cast_unsigned.ensures
    ∙ ap (λ r. of_z w32 (to_z w32 (of_z w32 (shr_z (to_z w32 (of_z w32 r)) step)))) c.cast_signed.ensures in
    spread_is c.args.word c.args.bits c.cast_unsigned.result front rest count four bytes word c.requires.some e
