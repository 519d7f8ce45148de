use Rattle.std.proofs.Common.{◌≡◌, ◌∙◌, rules}
use Rattle.fast_stream.specs.meaning.Handed.{event_data}
use Rattle.fast_run.proofs.Lined.{keeps_target, line_written, line_failed}
use Rattle.fast_run.proofs.outputs.LinesSink.take.Goals as goal

pub returns-clause-takes : goal.returns-clause-takes
returns-clause-takes g c =
    let over = c.with_fronts-lines.ensures in
    let same = keeps_target g.T.Target.written g.T.Target.has_failed c.with_fronts-lines.result c.take.new.self
    (event_data c.args.event) c.take.result c.take.ensures.takes c.take.ensures.stops ∙ over.same_target in
    let part = λ (ended : g.row.T.Denot) (e : ended ≡ c.take.new.self.target.now).
    line_written g.T.Target.written g.T.Target.has_failed _ ended c.args.self.now.fronts c.with_fronts-lines.result c.take.new.self
    (event_data c.args.event) c.take.result over.as_it_is e over.set c.take.ensures.takes in
    part _ (search (rules, same))

pub returns-clause-stops : goal.returns-clause-stops
returns-clause-stops g c =
    let over = c.with_fronts-lines.ensures in
    let same = keeps_target g.T.Target.written g.T.Target.has_failed c.with_fronts-lines.result c.take.new.self
    (event_data c.args.event) c.take.result c.take.ensures.takes c.take.ensures.stops ∙ over.same_target in
    let part = λ (ended : g.row.T.Denot) (e : ended ≡ c.take.new.self.target.now).
    line_failed g.T.Target.written g.T.Target.has_failed _ ended c.args.self.now.fronts c.with_fronts-lines.result c.take.new.self
    (event_data c.args.event) c.take.result over.as_it_is e over.set c.take.ensures.stops in
    part _ (search (rules, same))
