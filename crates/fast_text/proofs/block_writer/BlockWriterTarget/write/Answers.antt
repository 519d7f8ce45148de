use Rattle.std.proofs.Common.{arith, [], ap, take, length, ◌∙◌}
use Rattle.std.proofs.lemmas.Result.{err_from_is_err_and}
use Rattle.fast_text.proofs.Blocks.{kept_more, passed_through}
use Rattle.fast_text.proofs.Writing.{appends_both}
use Rattle.fast_text.proofs.block_writer.BlockWriterTarget.write.Goals as goal

pub overflow_sub-self : goal.overflow_sub-self
overflow_sub-self g c = c.args.self.now.within

pub store-requires-clause-room : goal.store-requires-clause-room
store-requires-clause-room g c = omega (arith, c.if-piece-self.true, c.args.self.now.within)

pub returns-then-piece-self-clause-some : goal.returns-then-piece-self-clause-some
returns-then-piece-self-clause-some g c = λ h. h

pub returns-then-piece-self-clause-bytes : goal.returns-then-piece-self-clause-bytes
returns-then-piece-self-clause-bytes g c = kept_more g.T.Target.written c.args.self.now c.store.new.self _ c.store.ensures.kept c.store.ensures.target

pub returns-then-piece-self-clause-stays : goal.returns-then-piece-self-clause-stays
returns-then-piece-self-clause-stays g c = ap g.T.Target.has_failed c.store.ensures.target

pub returns-in_err-hand_on-clause-count : goal.returns-in_err-hand_on-clause-count
returns-in_err-hand_on-clause-count g c = rw ((err_from_is_err_and c.from_residual.result c.from_residual.ensures.1).1) tt

pub returns-in_err-hand_on-clause-some : goal.returns-in_err-hand_on-clause-some
returns-in_err-hand_on-clause-some g c = rw ((err_from_is_err_and c.from_residual.result c.from_residual.ensures.1).1) tt

pub returns-in_err-hand_on-clause-bytes : goal.returns-in_err-hand_on-clause-bytes
returns-in_err-hand_on-clause-bytes g c = rw ((err_from_is_err_and c.from_residual.result c.from_residual.ensures.1).1) tt

pub returns-in_err-hand_on-clause-kept : goal.returns-in_err-hand_on-clause-kept
returns-in_err-hand_on-clause-kept g c = rw ((err_from_is_err_and c.from_residual.result c.from_residual.ensures.1).1) c.hand_on.ensures.kept

pub returns-in_err-hand_on-clause-fails : goal.returns-in_err-hand_on-clause-fails
returns-in_err-hand_on-clause-fails g c = rw ((err_from_is_err_and c.from_residual.result c.from_residual.ensures.1).1) c.in_err-hand_on.ensures.fails

pub returns-in_err-hand_on-clause-stays : goal.returns-in_err-hand_on-clause-stays
returns-in_err-hand_on-clause-stays g c = rw ((err_from_is_err_and c.from_residual.result c.from_residual.ensures.1).1) tt

pub invariant_of-self : goal.invariant_of-self
invariant_of-self g c = record { ordered = c.hand_on.new.self.ordered; within = c.hand_on.new.self.within }

pub returns-in_err-count-clause-count : goal.returns-in_err-count-clause-count
returns-in_err-count-clause-count g c = rw ((err_from_is_err_and c.from_residual-in_err-count.result c.from_residual-in_err-count.ensures.1).1) tt

pub returns-in_err-count-clause-some : goal.returns-in_err-count-clause-some
returns-in_err-count-clause-some g c = rw ((err_from_is_err_and c.from_residual-in_err-count.result c.from_residual-in_err-count.ensures.1).1) tt

pub returns-in_err-count-clause-bytes : goal.returns-in_err-count-clause-bytes
returns-in_err-count-clause-bytes g c = rw ((err_from_is_err_and c.from_residual-in_err-count.result c.from_residual-in_err-count.ensures.1).1) tt

pub returns-in_err-count-clause-kept : goal.returns-in_err-count-clause-kept
returns-in_err-count-clause-kept g c = rw ((err_from_is_err_and c.from_residual-in_err-count.result
    c.from_residual-in_err-count.ensures.1).1) (passed_through g.T.Target.written c.args.self.now c.hand_on.new.self c.write.new.self
    [] c.hand_on.ensures.kept c.in_ok-hand_on.ensures.empty c.in_err-count.ensures.kept)

pub returns-in_err-count-clause-fails : goal.returns-in_err-count-clause-fails
returns-in_err-count-clause-fails g c = rw ((err_from_is_err_and c.from_residual-in_err-count.result
    c.from_residual-in_err-count.ensures.1).1) c.in_err-count.ensures.fails

pub returns-in_err-count-clause-stays : goal.returns-in_err-count-clause-stays
returns-in_err-count-clause-stays g c = rw ((err_from_is_err_and c.from_residual-in_err-count.result c.from_residual-in_err-count.ensures.1).1) tt

pub returns-then-piece-gt-BLOCK-clause-count : goal.returns-then-piece-gt-BLOCK-clause-count
returns-then-piece-gt-BLOCK-clause-count g c = c.in_ok-count.ensures.count

pub returns-then-piece-gt-BLOCK-clause-some : goal.returns-then-piece-gt-BLOCK-clause-some
returns-then-piece-gt-BLOCK-clause-some g c = c.in_ok-count.ensures.some

pub returns-then-piece-gt-BLOCK-clause-bytes : goal.returns-then-piece-gt-BLOCK-clause-bytes
returns-then-piece-gt-BLOCK-clause-bytes g c = passed_through g.T.Target.written c.args.self.now c.hand_on.new.self c.write.new.self
    (take c.in_ok-count.count c.args.piece.now) c.hand_on.ensures.kept c.in_ok-hand_on.ensures.empty c.in_ok-count.ensures.bytes

pub returns-then-piece-gt-BLOCK-clause-stays : goal.returns-then-piece-gt-BLOCK-clause-stays
returns-then-piece-gt-BLOCK-clause-stays g c = c.in_ok-count.ensures.stays ∙ c.in_ok-hand_on.ensures.stays

pub store-requires-2-clause-room : goal.store-requires-2-clause-room
store-requires-2-clause-room g c = omega (arith, c.in_ok-hand_on.ensures.room, c.if-piece-gt-BLOCK.false)

pub returns-clause-some : goal.returns-clause-some
returns-clause-some g c = λ h. h

pub returns-clause-bytes : goal.returns-clause-bytes
returns-clause-bytes g c = appends_both _ _ _ [] (take (length c.args.piece.now) c.args.piece.now) c.hand_on.ensures.kept
    (kept_more g.T.Target.written c.hand_on.new.self c.store-2.new.self _ c.store-2.ensures.kept c.store-2.ensures.target)

pub returns-clause-stays : goal.returns-clause-stays
returns-clause-stays g c = ap g.T.Target.has_failed c.store-2.ensures.target ∙ c.in_ok-hand_on.ensures.stays
