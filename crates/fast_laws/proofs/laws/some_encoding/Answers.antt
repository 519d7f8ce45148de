use Rattle.fast_laws.proofs.settling.Messages.{some_encoding, any_settled}
use Rattle.fast_laws.proofs.laws.some_encoding.Goals as goal

pub returns-clause-suited : goal.returns-clause-suited
returns-clause-suited c = some_encoding

pub returns-clause-any : goal.returns-clause-any
returns-clause-any c = any_settled
