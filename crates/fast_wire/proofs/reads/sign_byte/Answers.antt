use Rattle.std.proofs.Common.{[], ◌∷◌, refl}
use Rattle.fast_wire.proofs.numbers.Signs.{sign_clear, sign_set}
use Rattle.fast_wire.proofs.reads.sign_byte.Goals as goal

pub returns-then-byte-eq0 : goal.returns-then-byte-eq0
returns-then-byte-eq0 c = rw (sign_clear (c.args.byte ∷ []) c.if-byte-eq0.true) refl

pub returns-else-byte-eq0 : goal.returns-else-byte-eq0
returns-else-byte-eq0 c = rw (sign_set (c.args.byte ∷ []) c.if-byte-eq0.false) refl
