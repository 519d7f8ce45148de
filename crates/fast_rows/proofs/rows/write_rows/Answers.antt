use Rattle.std.proofs.Common.{◌≡◌, ◌∙◌, [], refl, rules}
use Rattle.fast_rows.proofs.Texts.{is_written}
use Rattle.fast_rows.proofs.InRows.{are_of}
use Rattle.fast_rows.proofs.rows.write_rows.Goals as goal

pub returns : goal.returns
returns g c t =
    let more = c.put_rows.ensures t in
    let all = more.3 in
    let same = c.finish.ensures.same_target ∙ all.same_target ∙ c.new-line.ensures.same_target in
    let part = λ (ended : g.row.T.Denot) (e : ended ≡ c.finish.new.self.target.now). are_of t c.args.at _ _ _ _ _ _ _ more.0 more.1 more.2
    (is_written c.args.target.now ended c.finish.result c.new-line.ensures.as_it_is e c.new-line.ensures.fresh all c.finish.ensures)
    in
    part _ (search (rules, same))
