use Rattle.std.proofs.Common.{◌≡◌, ◌∙◌, rules}
use Rattle.fast_command.proofs.Parts.{is_put}
use Rattle.fast_command.proofs.list.write_list.Goals as goal

pub returns-clause-written : goal.returns-clause-written
returns-clause-written g c =
    let same = c.finish.ensures.same_target ∙ c.put_templates.ensures.same_target ∙ c.new-line.ensures.same_target in
    let whole = λ (ended : g.row.T.Denot) (e : ended ≡ c.finish.new.self.target.now).
    (is_put c.args.target.now ended c.finish.result c.new-line.ensures.as_it_is e c.new-line.ensures.fresh c.put_templates.ensures
    c.finish.ensures).whole in
    whole _ (search (rules, same))

pub returns-clause-part : goal.returns-clause-part
returns-clause-part g c =
    let same = c.finish.ensures.same_target ∙ c.put_templates.ensures.same_target ∙ c.new-line.ensures.same_target in
    let part = λ (ended : g.row.T.Denot) (e : ended ≡ c.finish.new.self.target.now).
    (is_put c.args.target.now ended c.finish.result c.new-line.ensures.as_it_is e c.new-line.ensures.fresh c.put_templates.ensures
    c.finish.ensures).part in
    part _ (search (rules, same))

pub returns-clause-fails : goal.returns-clause-fails
returns-clause-fails g c =
    let same = c.finish.ensures.same_target ∙ c.put_templates.ensures.same_target ∙ c.new-line.ensures.same_target in
    let fails = λ (ended : g.row.T.Denot) (e : ended ≡ c.finish.new.self.target.now).
    (is_put c.args.target.now ended c.finish.result c.new-line.ensures.as_it_is e c.new-line.ensures.fresh c.put_templates.ensures
    c.finish.ensures).fails in
    fails _ (search (rules, same))

pub returns-clause-stays : goal.returns-clause-stays
returns-clause-stays g c =
    let same = c.finish.ensures.same_target ∙ c.put_templates.ensures.same_target ∙ c.new-line.ensures.same_target in
    let stays = λ (ended : g.row.T.Denot) (e : ended ≡ c.finish.new.self.target.now).
    (is_put c.args.target.now ended c.finish.result c.new-line.ensures.as_it_is e c.new-line.ensures.fresh c.put_templates.ensures
    c.finish.ensures).stays in
    stays _ (search (rules, same))
