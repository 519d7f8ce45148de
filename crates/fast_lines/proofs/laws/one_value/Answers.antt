use Rattle.fast_lines.proofs.OneValue.{same_value}
use Rattle.fast_lines.proofs.laws.one_value.Goals as goal

pub returns : goal.returns
returns c = same_value
