use Rattle.fast_examples.proofs.refusals.unknown_template.Goals as goal

pub returns : goal.returns
returns c (u, id, e, i) = absurd (cc e)
