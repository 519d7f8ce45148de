use Rattle.fast_laws.proofs.settling.Texts.{text_is_encoded}
use Rattle.fast_laws.proofs.laws.text_is_encoded.Goals as goal

pub returns : goal.returns
returns c = text_is_encoded
