use Rattle.std.proofs.Common.{◌*◌, ◌^◌, length, ap, sym, ◌∙◌}
use Rattle.std.specs.Prelude.{pos, ◌-ℤ◌}
use Rattle.fast_wire.specs.meaning.Entities.{number}
use Rattle.fast_wire.proofs.numbers.Judging.{natural_is, complement_is, power_of_128}
use Rattle.fast_wire.proofs.numbers.Signs.{sign_clear, sign_set, signed_clear, signed_set}
use Rattle.fast_wire.proofs.reads.signed_of.Goals as goal

pub returns-then-w-ne0 : goal.returns-then-w-ne0
returns-then-w-ne0 c =
    let w = c.args.w.now in
    let s = c.number_of-sum.ensures in
    complement_is c.number_of-sum.result (length w) c.requires.short s.small
    ∙ ap (λ n. pos n -ℤ pos (2 ^ (7 * length w))) s.value
    ∙ ap (λ n. pos (number w) -ℤ pos n) (sym (power_of_128 (length w)))
    ∙ sym (signed_set w (sign_set w c.if-w-ne0.true))

pub returns-else-w-ne0 : goal.returns-else-w-ne0
returns-else-w-ne0 c =
    let w = c.args.w.now in
    let s = c.number_of-sum.ensures in
    natural_is c.number_of-sum.result (length w) c.requires.short s.small ∙ ap pos s.value ∙ sym (signed_clear w (sign_clear w c.if-w-ne0.false))
