-- One group, with the stop bit.
use Rattle.std.proofs.Common.{◌+◌, ◌%◌, [], ◌∷◌}
use Rattle.fast_spelling.proofs.bytes.Groups.{one}
use Rattle.fast_spelling.proofs.integers.push_last.Goals as goal

pub returns : goal.returns
returns c = ((c.args.number % 128 + 128) ∷ [], c.push_reserved.ensures.items, one c.args.number c.requires.fits)
