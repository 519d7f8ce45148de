use Rattle.fast_spelling.proofs.encodings.Encoded.{encoded_is_spelled}
use Rattle.fast_spelling.proofs.laws.encoded_is_spelled.Goals as goal

pub returns : goal.returns
returns c = encoded_is_spelled
