use Rattle.fast_lines.proofs.OneHex.{one_unhexed}
use Rattle.fast_lines.proofs.laws.one_unhexed.Goals as goal

pub returns : goal.returns
returns c = one_unhexed
