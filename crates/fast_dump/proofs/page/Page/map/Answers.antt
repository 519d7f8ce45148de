use Rattle.std.proofs.Common.{refl}
use Rattle.std.proofs.lemmas.Result.{err_from_is_err_and}
use Rattle.fast_dump.proofs.Paging.{page_aside, torn_aside}
use Rattle.fast_dump.proofs.page.Page.map.Goals as goal

pub returns-in_err-write_map : goal.returns-in_err-write_map
returns-in_err-write_map g c held had t b ls h =
    let p = err_from_is_err_and c.from_residual.result c.from_residual.ensures.1 in
    rw p.1 (torn_aside _ _ held had t _ c.args.self.now _ b ls _ _ _ h h.names c.place.ensures c.bytes.ensures.bytes c.in_err-write_map.ensures)

pub returns : goal.returns
returns g c held had t b ls h =
    page_aside _ _ held had t _ c.args.self.now _ b ls _ _ h h.names c.place.ensures c.bytes.ensures.bytes c.in_ok-write_map.ensures
    c.clear.ensures.kept c.clear.ensures.place refl refl
