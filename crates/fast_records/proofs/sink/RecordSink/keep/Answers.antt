use Rattle.std.proofs.Common.{rules, ◌≡◌, [], length, refl, ap, sym, subst, ◌∙◌, OnOk}
use Rattle.fast_records.specs.meaning.Records.{unplaced}
use Rattle.fast_stream.specs.meaning.Events.{EventData}
use Rattle.fast_records.specs.device.Lent.{content, event_back}
use Rattle.fast_records.specs.device.Room.{texts_in}
use Rattle.fast_records.specs.meaning.Sink.{room_of, TakesRecord}
use Rattle.fast_records.proofs.Back.{mark_back}
use Rattle.fast_records.proofs.Shown.{shows_put, takes_after}
use Rattle.fast_records.proofs.sink.RecordSink.keep.Goals as goal

pub returns-then-put-clause-ok : goal.returns-then-put-clause-ok
returns-then-put-clause-ok c e h =
    let place = length (texts_in (room_of c.args.self.now)) in
    let next : c.content-next.result ≡ content c.args.kind c.args.node c.args.value c.args.exponent = search (rules, c.content-next.ensures) in
    record {
      same = c.put.ensures.same;
      grows = c.if-put.ensures.put.grows;
      shows = shows_put c.args.self.now c.put.new.self e place c.content-next.result [] refl (ap unplaced next ∙ h.record_is place)
          (sym h.text_is) c.if-put.ensures.put c.put.ensures.waiting;
    }

pub returns-clause-ok : goal.returns-clause-ok
returns-clause-ok c e h =
    let next = content c.args.kind c.args.node c.args.value c.args.exponent in
    let ok : OnOk c.keep_back.result (TakesRecord c.put.new.self (event_back next []) c.keep_back.new.self) = search (rules, c.keep_back.ensures.ok) in
    takes_after c.args.self.now c.put.new.self e c.keep_back.new.self c.keep_back.result c.put.ensures.same c.if-put.ensures.full c.put.ensures.waiting
    (subst (λ (d : EventData). OnOk c.keep_back.result (TakesRecord c.put.new.self d c.keep_back.new.self)) (mark_back next e h) ok)
