use Rattle.std.proofs.Common.{[], ◌∙◌}
use Rattle.std.proofs.lemmas.Result.{err_from_is_err_and}
use Rattle.fast_text.proofs.Blocks.{passed_through}
use Rattle.fast_text.proofs.block_writer.BlockWriterTarget.flush.Goals as goal

pub returns-in_err-hand_on-clause-kept : goal.returns-in_err-hand_on-clause-kept
returns-in_err-hand_on-clause-kept g c = c.hand_on.ensures.kept

pub returns-in_err-hand_on-clause-fails : goal.returns-in_err-hand_on-clause-fails
returns-in_err-hand_on-clause-fails g c = rw ((err_from_is_err_and c.from_residual.result c.from_residual.ensures.1).1) c.in_err-hand_on.ensures.fails

pub returns-in_err-hand_on-clause-stays : goal.returns-in_err-hand_on-clause-stays
returns-in_err-hand_on-clause-stays g c = rw ((err_from_is_err_and c.from_residual.result c.from_residual.ensures.1).1) tt

pub invariant_of-self : goal.invariant_of-self
invariant_of-self g c = record { ordered = c.hand_on.new.self.ordered; within = c.hand_on.new.self.within }

pub returns-in_err-flush-clause-kept : goal.returns-in_err-flush-clause-kept
returns-in_err-flush-clause-kept g c = passed_through g.T.Target.written c.args.self.now c.hand_on.new.self c.flush.new.self
    [] c.hand_on.ensures.kept c.in_ok-hand_on.ensures.empty c.flush.ensures.kept

pub returns-in_err-flush-clause-fails : goal.returns-in_err-flush-clause-fails
returns-in_err-flush-clause-fails g c = rw ((err_from_is_err_and c.from_residual-in_err-flush.result
    c.from_residual-in_err-flush.ensures.1).1) c.in_err-flush.ensures.fails

pub returns-in_err-flush-clause-stays : goal.returns-in_err-flush-clause-stays
returns-in_err-flush-clause-stays g c = rw ((err_from_is_err_and c.from_residual-in_err-flush.result c.from_residual-in_err-flush.ensures.1).1) tt

pub returns-clause-kept : goal.returns-clause-kept
returns-clause-kept g c = passed_through g.T.Target.written c.args.self.now c.hand_on.new.self c.flush.new.self
    [] c.hand_on.ensures.kept c.in_ok-hand_on.ensures.empty c.flush.ensures.kept

pub returns-clause-stays : goal.returns-clause-stays
returns-clause-stays g c = c.in_ok-flush.ensures.stays ∙ c.in_ok-hand_on.ensures.stays
