-- The groups, with the stop bit on the last.
use Rattle.std.proofs.Common.{◌+◌, ◌/◌, ◌%◌, [], ◌∷◌}
use Rattle.fast_spelling.proofs.bytes.Groups.{six}
use Rattle.fast_spelling.proofs.integers.long.push_six.Goals as goal

pub returns : goal.returns
returns c = (
  c.args.number / 34359738368 % 128 ∷ c.args.number / 268435456 % 128 ∷ c.args.number / 2097152 % 128
      ∷ c.args.number / 16384 % 128 ∷ c.args.number / 128 % 128 ∷ (c.args.number % 128 + 128) ∷ [],
  c.in_ok-extend_from_slice.ensures.items,
  six c.args.number c.requires,
)
