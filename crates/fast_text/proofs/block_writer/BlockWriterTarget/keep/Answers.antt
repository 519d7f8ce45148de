use Rattle.std.proofs.Common.{arith, ap, refl, sym}
use Rattle.std.proofs.lemmas.Bool.{false≢true}
use Rattle.fast_text.proofs.Blocks.{kept_more}
use Rattle.fast_text.proofs.block_writer.BlockWriterTarget.keep.Goals as goal

pub overflow_sub-self : goal.overflow_sub-self
overflow_sub-self g c = c.args.self.now.within

pub returns-then-block-self-clause-kept : goal.returns-then-block-self-clause-kept
returns-then-block-self-clause-kept g c = λ h. absurd (false≢true h)

pub returns-then-block-self-clause-unchanged : goal.returns-then-block-self-clause-unchanged
returns-then-block-self-clause-unchanged g c = λ _. refl

pub store-requires-clause-room : goal.store-requires-clause-room
store-requires-clause-room g c = omega (arith, c.if-block-self.false, c.args.self.now.within)

pub store-requires-clause-front : goal.store-requires-clause-front
store-requires-clause-front g c = c.requires

pub returns-clause-kept : goal.returns-clause-kept
returns-clause-kept g c = λ _. kept_more g.T.Target.written c.args.self.now c.store.new.self _ c.store.ensures.kept c.store.ensures.target

pub returns-clause-unchanged : goal.returns-clause-unchanged
returns-clause-unchanged g c = λ e. absurd (false≢true (sym e))

pub returns-clause-stays : goal.returns-clause-stays
returns-clause-stays g c = ap g.T.Target.has_failed c.store.ensures.target
