use Rattle.fast_stream.proofs.terms.Lenient.{spelled-lenient}
use Rattle.fast_stream.proofs.laws.strict_is_lenient.Goals as goal

pub returns : goal.returns
returns c = spelled-lenient
