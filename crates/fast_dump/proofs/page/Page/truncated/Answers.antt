use Rattle.std.proofs.Common.{ℕ, take, ap}
use Rattle.std.proofs.lemmas.Result.{err_from_is_err_and}
use Rattle.fast_dump.proofs.Closing.{truncated_text, closes_rest, closes_columns, closes_line}
use Rattle.fast_dump.proofs.page.Page.truncated.Goals as goal

pub returns-in_err-wait : goal.returns-in_err-wait
returns-in_err-wait g c held had t b ls h =
    let p = err_from_is_err_and c.from_residual.result c.from_residual.ensures.1 in
    rw p.1 (closes_rest _ _ held had t _ b ls _ p.0 (truncated_text c.args.consumed) (c.in_err-wait.ensures.rows held had t b ls h))

pub returns-in_err-write_closing_columns : goal.returns-in_err-write_closing_columns
returns-in_err-write_closing_columns g c held had t b ls h =
    let p = err_from_is_err_and c.from_residual-in_err-write_closing_columns.result c.from_residual-in_err-write_closing_columns.ensures.1 in
    let none = ap (λ (n : ℕ). take n c.wait.new.self.kept.cells.items) c.in_ok-wait.ensures.empty in
    rw p.1 (closes_columns _ _ held had t _ _ b ls _ _ p.0 (truncated_text c.args.consumed)
    (c.in_ok-wait.ensures.rows held had t b ls h) none c.place.ensures c.in_err-write_closing_columns.ensures)

pub returns : goal.returns
returns g c held had t b ls h =
    let none = ap (λ (n : ℕ). take n c.wait.new.self.kept.cells.items) c.in_ok-wait.ensures.empty in
    closes_line _ _ held had t _ _ _ b ls _ _ c.write_truncated.result (truncated_text c.args.consumed)
    (c.in_ok-wait.ensures.rows held had t b ls h) none c.place.ensures c.in_ok-write_closing_columns.ensures
    c.write_truncated.ensures.written c.write_truncated.ensures.part c.write_truncated.ensures.fails c.write_truncated.ensures.stays
