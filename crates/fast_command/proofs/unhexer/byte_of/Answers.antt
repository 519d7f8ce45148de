use Rattle.std.proofs.Common.{◌≡◌, ◌+◌, ◌*◌, ◌∙◌, ap, arith, get_or, List, ℕ}
use Rattle.fast_command.proofs.Characters.{pair_decoded}
use Rattle.fast_command.proofs.unhexer.byte_of.Goals as goal

pub returns : goal.returns
returns c m n first second =
    let decoded = rw (pair_decoded c.args.high c.args.low m n first second) at c.decode_to_slice.ensures.value in
    let order : m * 16 + n ≡ 16 * m + n = omega arith in
    ap (λ (xs : List ℕ). get_or xs 0 0) decoded.1 ∙ order
