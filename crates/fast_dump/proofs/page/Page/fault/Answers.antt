use Rattle.std.proofs.lemmas.Result.{err_from_is_err_and}
use Rattle.fast_dump.proofs.Closing.{fault_text, closes_rest, closes_columns, closes_line}
use Rattle.fast_dump.proofs.page.Page.fault.Goals as goal

pub returns-in_err-rest : goal.returns-in_err-rest
returns-in_err-rest g c held had t b ls h =
    let p = err_from_is_err_and c.from_residual.result c.from_residual.ensures.1 in
    rw p.1 (closes_rest _ _ held had t _ b ls _ p.0 (fault_text c.args.fault.code c.args.fault.place) (c.in_err-rest.ensures.rows held had t b ls h))

pub returns-in_err-write_closing_columns : goal.returns-in_err-write_closing_columns
returns-in_err-write_closing_columns g c held had t b ls h =
    let p = err_from_is_err_and c.from_residual-in_err-write_closing_columns.result c.from_residual-in_err-write_closing_columns.ensures.1 in
    rw p.1 (closes_columns _ _ held had t _ _ b ls _ _ p.0 (fault_text c.args.fault.code c.args.fault.place)
    (c.in_ok-rest.ensures.rows held had t b ls h) c.in_ok-rest.ensures.empty c.place.ensures c.in_err-write_closing_columns.ensures)

pub returns : goal.returns
returns g c held had t b ls h =
    closes_line _ _ held had t _ _ _ b ls _ _ c.write_fault.result (fault_text c.args.fault.code c.args.fault.place)
    (c.in_ok-rest.ensures.rows held had t b ls h) c.in_ok-rest.ensures.empty c.place.ensures c.in_ok-write_closing_columns.ensures
    c.write_fault.ensures.written c.write_fault.ensures.part c.write_fault.ensures.fails c.write_fault.ensures.stays
