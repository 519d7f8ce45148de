use Rattle.fast_encoder.proofs.Able.{either, never_both}
use Rattle.fast_encoder.proofs.laws.encoded_or_refused.Goals as goal

pub returns-clause-either : goal.returns-clause-either
returns-clause-either c = either

pub returns-clause-never_both : goal.returns-clause-never_both
returns-clause-never_both c = never_both
