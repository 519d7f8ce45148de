-- The groups, with the stop bit on the last.
use Rattle.std.proofs.Common.{◌+◌, ◌%◌, [], ◌∷◌}
use Rattle.fast_spelling.proofs.bytes.Groups.{one}
use Rattle.fast_spelling.proofs.bytes.Spelling.{on_ok}
use Rattle.fast_spelling.proofs.integers.push_one.Goals as goal

pub returns : goal.returns
returns c = on_ok c.push_byte.result c.push_byte.ensures (λ e. ((c.args.number % 128 + 128) ∷ [], e, one c.args.number c.requires))
