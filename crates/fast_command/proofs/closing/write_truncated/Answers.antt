use Rattle.std.proofs.Common.{◌≡◌, ◌∙◌, rules}
use Rattle.fast_text.proofs.Writing.{writes_both}
use Rattle.fast_command.proofs.Parts.{is_put}
use Rattle.fast_command.proofs.closing.write_truncated.Goals as goal

pub returns-clause-written : goal.returns-clause-written
returns-clause-written g c =
    let all = writes_both (writes_both c.put.ensures c.put_unsigned.ensures) c.put-2.ensures in
    let same = c.finish.ensures.same_target ∙ all.same_target ∙ c.new-line.ensures.same_target in
    let whole = λ (ended : g.row.T.Denot) (e : ended ≡ c.finish.new.self.target.now).
    (is_put c.args.target.now ended c.finish.result c.new-line.ensures.as_it_is e c.new-line.ensures.fresh all
    c.finish.ensures).whole in
    whole _ (search (rules, same))

pub returns-clause-part : goal.returns-clause-part
returns-clause-part g c =
    let all = writes_both (writes_both c.put.ensures c.put_unsigned.ensures) c.put-2.ensures in
    let same = c.finish.ensures.same_target ∙ all.same_target ∙ c.new-line.ensures.same_target in
    let part = λ (ended : g.row.T.Denot) (e : ended ≡ c.finish.new.self.target.now).
    (is_put c.args.target.now ended c.finish.result c.new-line.ensures.as_it_is e c.new-line.ensures.fresh all c.finish.ensures).part in
    part _ (search (rules, same))

pub returns-clause-fails : goal.returns-clause-fails
returns-clause-fails g c =
    let all = writes_both (writes_both c.put.ensures c.put_unsigned.ensures) c.put-2.ensures in
    let same = c.finish.ensures.same_target ∙ all.same_target ∙ c.new-line.ensures.same_target in
    let fails = λ (ended : g.row.T.Denot) (e : ended ≡ c.finish.new.self.target.now).
    (is_put c.args.target.now ended c.finish.result c.new-line.ensures.as_it_is e c.new-line.ensures.fresh all
    c.finish.ensures).fails in
    fails _ (search (rules, same))

pub returns-clause-stays : goal.returns-clause-stays
returns-clause-stays g c =
    let all = writes_both (writes_both c.put.ensures c.put_unsigned.ensures) c.put-2.ensures in
    let same = c.finish.ensures.same_target ∙ all.same_target ∙ c.new-line.ensures.same_target in
    let stays = λ (ended : g.row.T.Denot) (e : ended ≡ c.finish.new.self.target.now).
    (is_put c.args.target.now ended c.finish.result c.new-line.ensures.as_it_is e c.new-line.ensures.fresh all
    c.finish.ensures).stays in
    stays _ (search (rules, same))
