use Rattle.fast_wire.proofs.numbers.Overlong.{overlong_by_sign}
use Rattle.fast_wire.proofs.reads.is_refused_signed.Goals as goal

pub returns-then-w-gt1 : goal.returns-then-w-gt1
returns-then-w-gt1 c =
    let d = overlong_by_sign c.args.w.now c.sign_byte.result c.requires c.if-w-gt1.true c.sign_byte.ensures in
    (λ t. (c.if-not-strict.false, d.0 t), λ o. d.1 o.1)
