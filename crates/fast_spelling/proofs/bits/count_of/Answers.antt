-- A word has a bit for each place after its most significant one.
use Rattle.std.proofs.Common.{◌-◌, sym}
use Rattle.std.specs.Int.Count.{count_leading_zeros}
use Rattle.fast_spelling.proofs.bytes.Presence.{length_low}
use Rattle.fast_spelling.proofs.bits.count_of.Goals as goal

pub returns : goal.returns
returns c = sym (length_low (63 - count_leading_zeros 64 c.args.word) c.args.word)
