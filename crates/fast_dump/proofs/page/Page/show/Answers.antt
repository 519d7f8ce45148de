use Rattle.std.proofs.Common.{refl}
use Rattle.std.proofs.lemmas.Result.{err_from_is_err_and}
use Rattle.fast_dump.proofs.Paging.{torn_more, page_same}
use Rattle.fast_dump.proofs.page.Page.show.Goals as goal

pub returns-in_err-lead-clause-row : goal.returns-in_err-lead-clause-row
returns-in_err-lead-clause-row g c held had t b ls h =
    let p = err_from_is_err_and c.from_residual.result c.from_residual.ensures.1 in
    rw p.1 (torn_more _ _ held had t _ b ls _ (c.in_err-lead.ensures held had t b ls h))

pub returns-in_err-row-clause-row : goal.returns-in_err-row-clause-row
returns-in_err-row-clause-row g c held had t b ls h =
    let p = err_from_is_err_and c.from_residual-in_err-row.result c.from_residual-in_err-row.ensures.1 in
    rw p.1 (c.in_err-row.ensures.row held had t b ls (c.in_ok-lead.ensures held had t b ls h))

pub returns-clause-row : goal.returns-clause-row
returns-clause-row g c held had t b ls h =
    page_same _ _ held had t _ _ b _ (c.in_ok-row.ensures.row held had t b ls (c.in_ok-lead.ensures held had t b ls h)) refl refl refl refl
