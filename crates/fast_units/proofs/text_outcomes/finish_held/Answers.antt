use Rattle.fast_units.proofs.text_outcomes.finish_held.Goals as goal

pub returns-in-Tail-clause-field : goal.returns-in-Tail-clause-field
returns-in-Tail-clause-field c piece = c.finish_tail.ensures.field c.finish_tail.new.scratch.text piece
