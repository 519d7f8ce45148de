use Rattle.std.proofs.Common.{◌≡◌, ◌∙◌, [], ap, refl, sym, rules}
use Rattle.fast_template.specs.meaning.Flat.{tree_of}
use Rattle.fast_text.specs.meaning.Fronts.{set_of}
use Rattle.fast_stream.specs.meaning.Handed.{event_data}
use Rattle.fast_lines.specs.meaning.Lines.{line_of}
use Rattle.std.proofs.lemmas.Result.{err_from_is_err_and}
use Rattle.fast_rows.proofs.Texts.{is_cut, is_both}
use Rattle.fast_rows.proofs.InRows.{event_written, event_cut}
use Rattle.fast_rows.proofs.rows.write_event.Goals as goal

pub returns-in_err-write_columns-clause-written : goal.returns-in_err-write_columns-clause-written
returns-in_err-write_columns-clause-written g c =
    let t = tree_of (set_of c.args.fronts.now).now in
    let row = c.first_row.result.0.now in
    let rest = c.first_row.result.1.now in
    let text = line_of t (event_data c.args.event) in
    let p = err_from_is_err_and c.from_residual.result c.from_residual.ensures.1 in
    rw (p.1, ← c.first_row.ensures.all) (event_cut t c.args.at row rest text _ _ _ _ _ (is_cut _ _ _ _ _ _ _ c.in_err-write_columns.ensures))

pub returns-in_err-write_line-clause-written : goal.returns-in_err-write_line-clause-written
returns-in_err-write_line-clause-written g c =
    let t = tree_of (set_of c.args.fronts.now).now in
    let row = c.first_row.result.0.now in
    let rest = c.first_row.result.1.now in
    let text = line_of t (event_data c.args.event) in
    let p = err_from_is_err_and c.from_residual-in_err-write_line.result c.from_residual-in_err-write_line.ensures.1 in
    rw (p.1, ← c.first_row.ensures.all) (event_cut t c.args.at row rest text _ _ _ _ _
    (is_both _ _ _ _ _ _ _ _ _ c.in_ok-write_columns.ensures c.in_err-write_line.ensures.written))

pub returns-clause-written : goal.returns-clause-written
returns-clause-written g c =
    let t = tree_of (set_of c.args.fronts.now).now in
    let row = c.first_row.result.0.now in
    let rest = c.first_row.result.1.now in
    let text = line_of t (event_data c.args.event) in
    rw (← c.first_row.ensures.all) (event_written t c.args.at _ row rest text _ _ _ _ _ _ _ _ _ c.in_ok-write_columns.ensures
    c.in_ok-write_line.ensures.written refl (c.write_rows.ensures t))
