use Rattle.std.proofs.Common.{refl}
use Rattle.std.specs.Fmt.{digits}
use Rattle.fast_examples.proofs.lines.nested_lines.Goals as goal

pub returns : goal.returns
unfolding digits
returns c = refl
