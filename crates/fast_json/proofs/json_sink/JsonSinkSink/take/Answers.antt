use Rattle.std.proofs.Common.{Bool, refl, ap}
use Rattle.fast_template.specs.meaning.Flat.{tree_of}
use Rattle.fast_stream.specs.meaning.Handed.{event_data}
use Rattle.fast_text.proofs.Writing.{writes_same}
use Rattle.fast_json.specs.meaning.Json.{event_text}
use Rattle.fast_json.specs.meaning.Keys.{set_of, repeats_in}
use Rattle.fast_json.proofs.Eventful.{takes_event, stops_in_event, on_ok_same, on_err_same}
use Rattle.fast_json.proofs.json_sink.JsonSinkSink.take.Goals as goal

pub returns-clause-takes : goal.returns-clause-takes
returns-clause-takes g c =
    let keys = c.args.self.now.keys.now in
    let text = writes_same (ap (λ (b : Bool). event_text (tree_of (set_of keys)) (repeats_in keys) b (event_data c.args.event))
    c.is_first.ensures) c.put_event.ensures in
    on_ok_same c.finish-outcome.result c.stop_where_failed.result c.stop_where_failed.ensures
    (λ is. takes_event _ _ (event_data c.args.event) refl c.note.ensures c.new-line.ensures.as_it_is refl c.new-line.ensures.fresh
    c.event_holds_bytes.ensures text c.finish-outcome.ensures is)

pub returns-clause-stops : goal.returns-clause-stops
returns-clause-stops g c =
    let keys = c.args.self.now.keys.now in
    let text = writes_same (ap (λ (b : Bool). event_text (tree_of (set_of keys)) (repeats_in keys) b (event_data c.args.event))
    c.is_first.ensures) c.put_event.ensures in
    on_err_same c.finish-outcome.result c.stop_where_failed.result c.stop_where_failed.ensures
    (λ e is. stops_in_event _ _ (event_data c.args.event) e refl c.new-line.ensures.as_it_is refl c.new-line.ensures.fresh text c.finish-outcome.ensures is)
