-- Bits of the word go, or all of it and some of the vector.
use Rattle.std.proofs.Common.{◌++◌, List, ap, sym, ◌∙◌, arith}
use Rattle.std.specs.Prelude.{Bool, take}
use Rattle.std.proofs.lemmas.List.{append-nil, take-append-le}
use Rattle.fast_spelling.specs.device.Presence.{bits_after}
use Rattle.fast_spelling.proofs.bytes.Presence.{after_one, up_to_word}
use Rattle.fast_spelling.proofs.bits.Bits.truncate.Goals as goal

pub returns-then-len : goal.returns-then-len
returns-then-len c =
    let more = c.self.inside.more in
    let some = c.if-len.true in
    let len = c.len.ensures in
    let size = c.len-then-len.ensures in
    ap (λ (l : List Bool). more.items ++ l) c.first_of-self-inside.ensures.bits
    ∙ up_to_word more.items c.self.inside.word c.args.self.now c.args.len c.len-then-len.result c.self.view_is (size ∙ more.ok.0)
    (omega (arith, some, len, size))

pub returns-else-len : goal.returns-else-len
returns-else-len c =
    let more = c.self.inside.more in
    let some = c.if-len.false in
    let len = c.len.ensures in
    let is = more.ok.0 in
    ap (λ (l : List Bool). l ++ bits_after 1) c.truncate.ensures.items ∙ ap (λ (l : List Bool). take c.args.len more.items ++ l) after_one
    ∙ append-nil (take c.args.len more.items)
    ∙ sym (take-append-le c.args.len more.items (bits_after c.self.inside.word) (omega (arith, some, len, is)))
    ∙ ap (take c.args.len) c.self.view_is
