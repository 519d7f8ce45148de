use Rattle.fast_spelling.proofs.encodings.Excluded.{refused_is_not_encoded}
use Rattle.fast_spelling.proofs.laws.refused_is_not_encoded.Goals as goal

pub returns : goal.returns
returns c = refused_is_not_encoded
