use Rattle.std.proofs.Common.{refl, ◌∙◌, [], take}
use Rattle.fast_text.proofs.Writing.{appends_none, appends_no_more}
use Rattle.fast_text.proofs.Blocks.{handed_on, split_kept}
use Rattle.std.proofs.lemmas.Result.{err_from_is_err_and}
use Rattle.fast_text.proofs.block_writer.BlockWriter.hand_on.Goals as goal

pub loop-self-init : goal.loop-self-init
loop-self-init g c = (appends_none _, refl)

pub loop-self-preserved : goal.loop-self-preserved
loop-self-preserved g c =
    let i = c.loop-self.invariant in
    let e = c.in_ok-count.ensures in (
      appends_no_more _ _ _ [] i.0 (handed_on _ _ (take c.in_ok-count.count c.split_at.result.1.now) _ _ e.bytes
          (split_kept c.loop-self.self.start c.in_ok-count.count
          (take c.loop-self.self.end c.loop-self.self.cells) c.split_at.result.1.now c.split_at.ensures.back)),
      e.stays ∙ i.1,
    )

pub invariant_of-self : goal.invariant_of-self
invariant_of-self g c = record { ordered = c.loop-self.self.ordered; within = c.loop-self.self.within }

pub returns-in_err-count-clause-kept : goal.returns-in_err-count-clause-kept
returns-in_err-count-clause-kept g c = appends_no_more _ _ _ [] c.loop-self.invariant.0 (handed_on _ _ [] _ _ c.in_err-count.ensures.kept refl)

pub returns-in_err-count-clause-empty : goal.returns-in_err-count-clause-empty
returns-in_err-count-clause-empty g c = rw ((err_from_is_err_and c.from_residual.result c.from_residual.ensures.1).1) tt

pub returns-in_err-count-clause-room : goal.returns-in_err-count-clause-room
returns-in_err-count-clause-room g c = rw ((err_from_is_err_and c.from_residual.result c.from_residual.ensures.1).1) tt

pub returns-in_err-count-clause-fails : goal.returns-in_err-count-clause-fails
returns-in_err-count-clause-fails g c = rw ((err_from_is_err_and c.from_residual.result c.from_residual.ensures.1).1) c.in_err-count.ensures.fails

pub returns-in_err-count-clause-stays : goal.returns-in_err-count-clause-stays
returns-in_err-count-clause-stays g c = rw ((err_from_is_err_and c.from_residual.result c.from_residual.ensures.1).1) tt

pub returns-clause-stays : goal.returns-clause-stays
returns-clause-stays g c = c.loop-self.invariant.1
