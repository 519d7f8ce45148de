use Rattle.std.proofs.Common.{◌≡◌, ◌+◌, ◌-◌, ◌*◌, suc, length, arith}
use Rattle.fast_fronts.proofs.numbers.SignExtension.{short_is_signed}
use Rattle.fast_fronts.proofs.words.extended.Goals as goal

pub returns : goal.returns
returns c = λ w l sum.
    let len = c.args.len in
    let some = c.requires.some in
    let short = c.requires.short in
    let long : length w ≡ suc (len - 1) = omega arith in
    let all : 7 * suc (len - 1) + (64 - 7 * len) ≡ 64 = omega arith in
    short_is_signed w c.args.sum (len - 1) (64 - 7 * len) c.cast_signed.result long all sum c.cast_signed.ensures
