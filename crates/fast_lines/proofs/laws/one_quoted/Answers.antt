use Rattle.fast_lines.proofs.Escapes.{quoted_is_one}
use Rattle.fast_lines.proofs.laws.one_quoted.Goals as goal

pub returns : goal.returns
returns c = quoted_is_one
