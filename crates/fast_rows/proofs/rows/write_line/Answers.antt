use Rattle.std.proofs.Common.{◌≡◌, ◌∙◌, ap, rules}
use Rattle.fast_template.specs.meaning.Flat.{tree_of}
use Rattle.fast_text.specs.meaning.Fronts.{set_of}
use Rattle.fast_stream.specs.meaning.Handed.{event_data}
use Rattle.fast_rows.proofs.Texts.{line_written, line_cut}
use Rattle.fast_rows.proofs.rows.write_line.Goals as goal

pub returns-in-Ok-clause-written : goal.returns-in-Ok-clause-written
returns-in-Ok-clause-written g c =
    let h = c.in-Ok.ensures.takes in
    let same = h.same_target ∙ c.with_fronts-sink.ensures.same_target in
    let part = λ (ended : g.row.T.Denot) (e : ended ≡ c.take.new.self.target.now).
    line_written c.args.target.now ended c.with_fronts-sink.result c.take.new.self (tree_of (set_of c.args.fronts.now).now)
    (event_data c.args.event) c.with_fronts-sink.ensures.as_it_is e (ap tree_of c.with_fronts-sink.ensures.set) h in
    part _ (search (rules, same))

pub returns-in-Ok-clause-holds : goal.returns-in-Ok-clause-holds
returns-in-Ok-clause-holds g c = c.in-Ok.ensures.takes.holds

pub returns-in-Err-clause-written : goal.returns-in-Err-clause-written
returns-in-Err-clause-written g c =
    let h = c.in-Err.ensures.stops in
    let same = h.same_target ∙ c.with_fronts-sink.ensures.same_target in
    let part = λ (ended : g.row.T.Denot) (e : ended ≡ c.take.new.self.target.now).
    line_cut c.args.target.now ended c.with_fronts-sink.result c.take.new.self (tree_of (set_of c.args.fronts.now).now)
    (event_data c.args.event) _ c.with_fronts-sink.ensures.as_it_is e (ap tree_of c.with_fronts-sink.ensures.set) h in
    part _ (search (rules, same))
