use Rattle.std.proofs.Common.{◌≡◌, ◌∙◌, rules}
use Rattle.fast_rows.proofs.Texts.{is_written}
use Rattle.fast_rows.proofs.rows.write_columns.Goals as goal

pub returns : goal.returns
returns g c =
    let all = c.put_columns.ensures in
    let same = c.finish.ensures.same_target ∙ all.same_target ∙ c.new-line.ensures.same_target in
    let part = λ (ended : g.row.T.Denot) (e : ended ≡ c.finish.new.self.target.now).
    is_written c.args.target.now ended c.finish.result c.new-line.ensures.as_it_is e c.new-line.ensures.fresh all c.finish.ensures in
    part _ (search (rules, same))
