use Rattle.fast_spelling.proofs.rules.Spelled.{field_spelled}
use Rattle.fast_spelling.proofs.laws.field_spelled.Goals as goal

pub returns : goal.returns
returns c = field_spelled
