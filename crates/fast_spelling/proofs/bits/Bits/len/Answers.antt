-- Those in the vector, and those in the word.
use Rattle.std.proofs.Common.{◌-◌, arith}
use Rattle.std.specs.Int.Count.{count_leading_zeros}
use Rattle.fast_spelling.proofs.bytes.Presence.{length_low}
use Rattle.fast_spelling.proofs.bits.Bits.len.Goals as goal

pub overflow_add-result : goal.overflow_add-result
overflow_add-result c =
    let more = c.self.inside.more in
    let size = more.small in
    let is = more.ok in
    let len = c.len.ensures in
    let count = c.count_of.ensures in
    let word = length_low (63 - count_leading_zeros 64 c.self.inside.word) c.self.inside.word in
    omega (arith, size, is, len, count, word)
