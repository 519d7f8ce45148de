use Rattle.std.proofs.Common.{◌≡◌, ◌+◌, ◌-◌, ◌*◌, suc, length, arith}
use Rattle.fast_wire.proofs.stop_bits.FirstStop.{entity_is_long}
use Rattle.fast_fronts.proofs.numbers.SignExtension.{short_is_signed}
use Rattle.fast_fronts.proofs.words.short_signed.Goals as goal

pub returns : goal.returns
returns c =
    let w = c.args.w.now in
    let l : length w ≡ suc (length w - 1) = omega (arith, entity_is_long w c.requires.entity) in
    let all : 7 * suc (length w - 1) + (64 - 7 * length w) ≡ 64 = omega arith in
    short_is_signed w c.args.sum (length w - 1) (64 - 7 * length w) c.cast_signed.result l all c.requires.number c.cast_signed.ensures
