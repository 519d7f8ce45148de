use Rattle.fast_messages.proofs.names.AllNamed.{all_named}
use Rattle.fast_messages.proofs.names.SetNames.{distinct_names}
use Rattle.fast_reading.proofs.laws.refused_says_nothing.Goals as goal

pub returns : goal.returns
returns c = λ document t text is nothing ms shown. nothing (distinct_names document t is) (all_named document t is) ms shown
