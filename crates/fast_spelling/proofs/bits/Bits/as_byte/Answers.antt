-- The bits from the index on are all in the word.
use Rattle.std.proofs.Common.{◌∷◌, [], List, subst, ◌∙◌, arith}
use Rattle.std.specs.Prelude.{Bool, IfSome}
use Rattle.fast_wire.specs.meaning.Maps.{bits}
use Rattle.fast_spelling.specs.meaning.Encoding.{SameBits}
use Rattle.fast_spelling.proofs.bytes.Presence.{in_word}
use Rattle.fast_spelling.proofs.bits.Bits.as_byte.Goals as goal

pub returns-clause-bits : goal.returns-clause-bits
returns-clause-bits c =
    let more = c.self.inside.more in
    let some = c.if-from-len.false in
    let len = c.len.ensures in
    let size = c.len-2.ensures in
    subst (λ (l : List Bool). IfSome c.byte_of.result (λ byte. SameBits (bits (byte ∷ [])) l))
    (in_word more.items c.self.inside.word c.args.self.now c.args.from c.len-2.result c.self.view_is (size ∙ more.ok.0)
    (omega (arith, some, len, size))) c.byte_of.ensures.bits
