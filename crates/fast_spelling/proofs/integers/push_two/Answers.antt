-- The groups, with the stop bit on the last.
use Rattle.std.proofs.Common.{◌+◌, ◌/◌, ◌%◌, [], ◌∷◌}
use Rattle.fast_spelling.proofs.bytes.Groups.{two, then_one}
use Rattle.fast_spelling.proofs.integers.push_two.Goals as goal

pub returns : goal.returns
returns c =
    let n = c.args.number in
    let old = c.args.bytes.now.items in
    let first = c.push_reserved.ensures.items in
    let second = then_one old (n / 128 % 128 ∷ []) c.push_reserved.new.self.items c.push_reserved-2.new.self.items (n % 128 + 128) first
    c.push_reserved-2.ensures.items in
    (n / 128 % 128 ∷ (n % 128 + 128) ∷ [], second, two n c.requires.fits)
