use Rattle.fast_spelling.proofs.encodings.OneEncoding.{one_encoding}
use Rattle.fast_spelling.proofs.laws.one_encoding.Goals as goal

pub returns : goal.returns
returns c = one_encoding
