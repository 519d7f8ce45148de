use Rattle.fast_spelling.proofs.encodings.Excluded.{one_refusal}
use Rattle.fast_spelling.proofs.laws.one_refusal.Goals as goal

pub returns : goal.returns
returns c = one_refusal
