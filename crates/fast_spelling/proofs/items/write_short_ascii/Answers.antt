-- The only character, with the stop bit.
use Rattle.std.proofs.Common.{◌≡◌, ◌≢◌, ◌+◌, ◌∷◌, [], suc, List, ℕ, arith, length, get_or}
use Rattle.fast_spelling.proofs.bytes.Spelling.{ascii_spelled}
use Rattle.fast_spelling.proofs.items.write_short_ascii.Goals as goal

pub returns-then-text-ne0-clause-ok : goal.returns-then-text-ne0-clause-ok
returns-then-text-ne0-clause-ok c =
    let t : List ℕ = c.args.text.now in
    let one = c.if-text-eq1.true in
    let some : length t ≡ suc 0 = omega (arith, one) in
    let not = c.if-text-ne0.true in
    let other : get_or t 0 0 ≢ 0 = omega arith in
    ((get_or t 0 0 + 128) ∷ [], c.in_ok-push_byte.ensures, λ room h. ascii_spelled t c.args.nullable room 0 c.requires some other h)
