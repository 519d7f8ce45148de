use Rattle.std.proofs.Common.{refl}
use Rattle.std.proofs.lemmas.Result.{err_from_is_err_and}
use Rattle.fast_dump.proofs.Paging.{page_line, torn_line}
use Rattle.fast_dump.proofs.page.Page.row.Goals as goal

pub returns-in_err-write_event-clause-row : goal.returns-in_err-write_event-clause-row
returns-in_err-write_event-clause-row g c held had t b ls h =
    let p = err_from_is_err_and c.from_residual.result c.from_residual.ensures.1 in
    rw p.1 (torn_line _ _ held had t _ c.args.self.now _ b ls _ _ _ _ h h.front_names c.place.ensures c.bytes.ensures.bytes
    c.in_err-write_event.ensures.written)

pub returns-clause-row : goal.returns-clause-row
returns-clause-row g c held had t b ls h =
    page_line _ _ held had t _ c.args.self.now _ b ls _ _ _ h h.front_names c.place.ensures c.bytes.ensures.bytes
    c.in_ok-write_event.ensures.written c.clear.ensures.kept c.clear.ensures.place refl refl
