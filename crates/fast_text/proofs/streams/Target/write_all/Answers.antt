use Rattle.std.proofs.Common.{arith, ◌∙◌, ◌++◌, take}
use Rattle.std.proofs.lemmas.Grind.{common_steps}
use Rattle.fast_text.proofs.Writing.{appends_both}
use Rattle.std.proofs.Common.{[], refl}
use Rattle.fast_text.proofs.Writing.{appends_none, appends_no_more}
use Rattle.std.proofs.lemmas.Result.{err_from_is_err_and}
use Rattle.fast_text.proofs.streams.Target.write_all.Goals as goal

pub loop-rest-preserved : goal.loop-rest-preserved
loop-rest-preserved g c =
    let i = c.loop-rest.invariant in (
      i.0 ++ take c.in_ok-count.count c.loop-rest.rest.now,
      grind (arith, common_steps, i.1),
      appends_both _ _ _ _ _ i.2 c.in_ok-count.ensures.bytes,
      c.in_ok-count.ensures.stays ∙ i.3,
    )

pub loop-rest-init : goal.loop-rest-init
loop-rest-init g c = ([], refl, appends_none _, refl)

pub returns-in_err-count-clause-bytes : goal.returns-in_err-count-clause-bytes
returns-in_err-count-clause-bytes g c = rw ((err_from_is_err_and c.from_residual.result c.from_residual.ensures.1).1) tt

pub returns-in_err-count-clause-part : goal.returns-in_err-count-clause-part
returns-in_err-count-clause-part g c = rw ((err_from_is_err_and c.from_residual.result c.from_residual.ensures.1).1) (let i = c.loop-rest.invariant in record {
  front = i.0;
  rest = c.loop-rest.rest.now;
  is = i.1;
  added = appends_no_more _ _ _ i.0 i.2 c.in_err-count.ensures.kept;
})

pub returns-in_err-count-clause-fails : goal.returns-in_err-count-clause-fails
returns-in_err-count-clause-fails g c = rw ((err_from_is_err_and c.from_residual.result c.from_residual.ensures.1).1) c.in_err-count.ensures.fails

pub returns-in_err-count-clause-stays : goal.returns-in_err-count-clause-stays
returns-in_err-count-clause-stays g c = rw ((err_from_is_err_and c.from_residual.result c.from_residual.ensures.1).1) tt

pub slice_bounds-rest-count : goal.slice_bounds-rest-count
slice_bounds-rest-count g c = c.in_ok-count.ensures.count

pub returns-clause-stays : goal.returns-clause-stays
returns-clause-stays g c = c.loop-rest.invariant.3
