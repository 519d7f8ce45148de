use Rattle.std.proofs.lemmas.Result.{err_from_is_err_and}
use Rattle.fast_dump.proofs.page.Page.pass.Goals as goal

pub loop-init : goal.loop-init
loop-init g c held had t b ls h = h

pub loop-preserved : goal.loop-preserved
loop-preserved g c held had t b ls h = c.in_ok-pass_one.ensures held had t b ls (c.loop.invariant held had t b ls h)

pub returns-in_err-pass_one : goal.returns-in_err-pass_one
returns-in_err-pass_one g c held had t b ls h =
    let p = err_from_is_err_and c.from_residual.result c.from_residual.ensures.1 in
    rw p.1 (c.in_err-pass_one.ensures held had t b ls (c.loop.invariant held had t b ls h))

pub returns : goal.returns
returns g c = c.loop.invariant
