-- The bit comes after those before it.
use Rattle.std.proofs.Common.{◌≡◌, ◌*◌, ◌+◌, ◌∷◌, ◌++◌, [], ap, sym, ◌∙◌, arith}
use Rattle.std.specs.Prelude.{Bool}
use Rattle.fast_spelling.specs.device.Presence.{bits_after}
use Rattle.fast_spelling.proofs.bytes.Presence.{after_next}
use Rattle.fast_spelling.proofs.bits.with_bit.Goals as goal

pub returns-then-bit-clause-bits : goal.returns-then-bit-clause-bits
returns-then-bit-clause-bits c =
    let w = c.args.word in
    after_next w 1 c.requires.some c.requires.room (omega arith) ∙ ap (λ (x : Bool). bits_after w ++ x ∷ []) (sym c.if-bit.true)

pub returns-clause-bits : goal.returns-clause-bits
returns-clause-bits c =
    let w = c.args.word in
    let none : w * 2 ≡ w * 2 + 0 = omega arith in
    ap bits_after none ∙ after_next w 0 c.requires.some c.requires.room (omega arith)
    ∙ ap (λ (x : Bool). bits_after w ++ x ∷ []) (sym c.if-bit.false)
