use Rattle.std.proofs.lemmas.Result.{err_from_is_err_and}
use Rattle.fast_dump.proofs.page.Page.rest.Goals as goal

pub returns-in_err-map-clause-rows : goal.returns-in_err-map-clause-rows
returns-in_err-map-clause-rows g c held had t b ls h =
    let p = err_from_is_err_and c.from_residual.result c.from_residual.ensures.1 in
    rw p.1 (c.in_err-map.ensures held had t b ls h)

pub returns-clause-rows : goal.returns-clause-rows
returns-clause-rows g c held had t b ls h = c.wait.ensures.rows held had t b ls (c.in_ok-map.ensures held had t b ls h)
