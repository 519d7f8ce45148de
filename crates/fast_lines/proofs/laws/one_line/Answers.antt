use Rattle.fast_lines.proofs.OneLine.{same_line}
use Rattle.fast_lines.proofs.laws.one_line.Goals as goal

pub returns : goal.returns
returns c = same_line
