use Rattle.std.proofs.Common.{◌≡◌, refl, sym, ◌∙◌}
use Rattle.std.specs.Prelude.{Result, Ok, Err, OnOk, OnErr, is_ok}
use Rattle.fast_stream.specs.meaning.Handed.{event_data}
use Rattle.fast_text.proofs.Writing.{takes_line, stops_in_line}
use Rattle.fast_text.proofs.line_sink.LineSinkSink.take.Goals as goal

-- where one outcome is good as the other is
on_ok_same : {E F P : Type 0} (r : Result (Unit {0}) E) (s : Result (Unit {0}) F) → is_ok s ≡ is_ok r → (r ≡ Ok tt → P) → OnOk s P
on_ok_same r (Err f) same then = tt
on_ok_same (Ok x) (Ok y) same then = then refl
on_ok_same (Err e) (Ok y) same then = absurd (cc)

-- where one outcome is bad as the other is
on_err_same : {E F P : Type 0} (r : Result (Unit {0}) E) (s : Result (Unit {0}) F) → is_ok s ≡ is_ok r → ((e : E) → r ≡ Err e → P) → OnErr s P
on_err_same r (Ok y) same then = tt
on_err_same (Err e) (Err f) same then = then e refl
on_err_same (Ok x) (Err f) same then = absurd (cc)

pub returns-clause-takes : goal.returns-clause-takes
returns-clause-takes g c =
    on_ok_same c.finish.result c.stop_where_failed.result c.stop_where_failed.ensures
    (λ is. takes_line _ _ (event_data c.args.event) refl refl c.new-line.ensures.as_it_is refl c.new-line.ensures.fresh
    c.event_holds_bytes.ensures c.put_event.ensures c.finish.ensures is)

pub returns-clause-stops : goal.returns-clause-stops
returns-clause-stops g c =
    on_err_same c.finish.result c.stop_where_failed.result c.stop_where_failed.ensures
    (λ e is. stops_in_line _ _ (event_data c.args.event) e refl refl c.new-line.ensures.as_it_is refl c.new-line.ensures.fresh
    c.put_event.ensures c.finish.ensures is)

pub shape_of-self : goal.shape_of-self
shape_of-self g c = sym (c.finish.ensures.same_room ∙ c.put_event.ensures.same_room ∙ c.new-line.ensures.same_room)
