use Rattle.fast_encoder.proofs.ReadBack.{reading_back}
use Rattle.fast_encoder.proofs.laws.reading_back.Goals as goal

pub returns : goal.returns
returns g c = λ e f d g' m out longer w es r level written kept_tree kept_limits goes few carried told same_tree same_limits.
    reading_back g.S.Sink.takes g.S.Sink.stops e f d g' m out longer w es c.args.from.now c.args.to.now r level written kept_tree
    kept_limits goes few carried told same_tree same_limits
