use Rattle.std.proofs.Common.{◌≡◌, ◌∙◌, ◌∷◌, ◌++◌, List, ℕ, ap, rules}
use Rattle.fast_template.specs.meaning.Flat.{tree_of}
use Rattle.fast_text.proofs.Writing.{writes_both}
use Rattle.fast_rows.specs.meaning.Rows.{Aside}
use Rattle.fast_rows.proofs.Texts.{is_written}
use Rattle.fast_rows.proofs.InRows.{are_of}
use Rattle.fast_rows.proofs.rows.write_note.Goals as goal

pub returns : goal.returns
returns g c =
    let row = c.first_row.result.0.now in
    let more = c.put_rows.ensures (tree_of c.args.templates.now) in
    let all = writes_both (writes_both (writes_both c.put_columns.ensures c.put_note.ensures) c.put.ensures) more.3 in
    let same = c.finish.ensures.same_target ∙ all.same_target ∙ c.new-line.ensures.same_target in
    let part = λ (ended : g.row.T.Denot) (e : ended ≡ c.finish.new.self.target.now). are_of
    (tree_of c.args.templates.now) c.args.at _ _ _ _ _ _ _ (Aside row c.args.note ∷ more.0)
    (ap (λ (xs : List ℕ). row ++ xs) more.1 ∙ c.first_row.ensures.all) more.2
    (is_written c.args.target.now ended c.finish.result c.new-line.ensures.as_it_is e c.new-line.ensures.fresh all c.finish.ensures)
    in
    part _ (search (rules, same))
