use Rattle.std.proofs.Common.{◌≡◌, ◌∙◌, [], ◌∷◌, ◌++◌, List, ℕ, ap, refl, sym, append-nil, rules}
use Rattle.std.proofs.lemmas.Result.{err_from_is_err_and}
use Rattle.fast_template.specs.meaning.Flat.{tree_of}
use Rattle.fast_rows.specs.meaning.Rows.{More}
use Rattle.fast_rows.proofs.InRows.{are_both, are_cut, rest_bytes}
use Rattle.fast_rows.proofs.rows.+write_map.Goals as goal

pub returns-in_err-write_note : goal.returns-in_err-write_note
returns-in_err-write_note g t c =
    let row = c.first_row.result.0.now in
    let rest = c.first_row.result.1.now in
    let p = err_from_is_err_and c.from_residual.result c.from_residual.ensures.1 in
    rw (p.1, ← c.first_row.ensures.all) (are_cut (tree_of c.args.templates.now) c.args.start row rest [] [] _ _ _ _ _
    (More rest ∷ []) c.in_err-write_note.ensures (rest_bytes rest) refl)

pub returns : goal.returns
returns g t c =
    let row = c.first_row.result.0.now in
    let rest = c.first_row.result.1.now in
    rw (← c.first_row.ensures.all) (are_both (tree_of c.args.templates.now) c.args.start _ row rest []
    [] _ _ _ _ _ _ _ c.in_ok-write_note.ensures refl c.write_map.ensures)
