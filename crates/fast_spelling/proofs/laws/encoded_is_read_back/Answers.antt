use Rattle.fast_spelling.proofs.encodings.Encoded.{encoded_is_read_back}
use Rattle.fast_spelling.proofs.laws.encoded_is_read_back.Goals as goal

pub returns : goal.returns
returns c = encoded_is_read_back
