use Rattle.std.proofs.lemmas.Result.{err_from_is_err_and}
use Rattle.fast_dump.proofs.page.Page.settle.Goals as goal

pub returns-in_err-map : goal.returns-in_err-map
returns-in_err-map g c held had t b ls h =
    let p = err_from_is_err_and c.from_residual.result c.from_residual.ensures.1 in
    rw p.1 (c.in_err-map.ensures held had t b ls h)

pub returns : goal.returns
returns g c held had t b ls h = c.skip.ensures held had t b ls (c.in_ok-map.ensures held had t b ls h)
