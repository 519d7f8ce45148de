-- The groups, with the stop bit on the last.
use Rattle.std.proofs.Common.{◌+◌, ◌/◌, ◌%◌, [], ◌∷◌}
use Rattle.fast_spelling.proofs.bytes.Groups.{five, then_one}
use Rattle.fast_spelling.proofs.integers.push_five.Goals as goal

pub returns : goal.returns
returns c =
    let n = c.args.number in
    let old = c.args.bytes.now.items in
    let first = c.push_reserved.ensures.items in
    let second = then_one old (n / 268435456 % 128 ∷ []) c.push_reserved.new.self.items c.push_reserved-2.new.self.items (n / 2097152 % 128) first
    c.push_reserved-2.ensures.items in
    let third = then_one old (n / 268435456 % 128 ∷ n / 2097152 % 128 ∷ []) c.push_reserved-2.new.self.items c.push_reserved-3.new.self.items
    (n / 16384 % 128) second c.push_reserved-3.ensures.items in
    let fourth = then_one old (n / 268435456 % 128 ∷ n / 2097152 % 128 ∷ n / 16384 % 128 ∷ []) c.push_reserved-3.new.self.items
    c.push_reserved-4.new.self.items (n / 128 % 128) third c.push_reserved-4.ensures.items in
    let fifth = then_one old (n / 268435456 % 128 ∷ n / 2097152 % 128 ∷ n / 16384 % 128 ∷ n / 128 % 128 ∷ []) c.push_reserved-4.new.self.items
    c.push_reserved-5.new.self.items (n % 128 + 128) fourth c.push_reserved-5.ensures.items in
    (n / 268435456 % 128 ∷ n / 2097152 % 128 ∷ n / 16384 % 128 ∷ n / 128 % 128 ∷ (n % 128 + 128) ∷ [], fifth, five n c.requires.fits)
