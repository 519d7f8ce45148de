use Rattle.std.proofs.Common.{ap, sym, subst, ◌∙◌, OnOk}
use Rattle.fast_stream.specs.meaning.Events.{EventData}
use Rattle.fast_records.specs.declared.records.Record.{Record}
use Rattle.fast_records.specs.device.Lent.{event_back}
use Rattle.fast_records.specs.meaning.Sink.{TakesRecord}
use Rattle.fast_records.specs.meaning.Records.{unplaced}
use Rattle.fast_records.proofs.Back.{text_back, unplaced_event}
use Rattle.fast_records.proofs.Shown.{shows_put, takes_after}
use Rattle.fast_records.proofs.sink.RecordSink.keep_text.Goals as goal

pub returns-then-put_both-clause-ok : goal.returns-then-put_both-clause-ok
returns-then-put_both-clause-ok c e h = record {
  same = c.put_both.ensures.same;
  grows = c.if-put_both.ensures.put.grows;
  shows = shows_put c.args.self.now c.put_both.new.self e c.used.result c.text_record-next.result c.args.text.now c.used.ensures.place
      (ap unplaced (c.text_record-next.ensures ∙ h.record_is c.used.result) ∙ unplaced_event c.used.result e)
      (sym h.text_is) c.if-put_both.ensures.put c.put_both.ensures.waiting;
}

pub returns-clause-ok : goal.returns-clause-ok
returns-clause-ok c e h =
    let is = ap (λ (r : Record). event_back r c.args.text.now) c.content.ensures ∙ text_back c.args.kind c.args.node c.args.text.now e h in
    takes_after c.args.self.now c.put_both.new.self e c.wait_for_room.new.self c.wait_for_room.result c.put_both.ensures.same
    c.if-put_both.ensures.full c.put_both.ensures.waiting
    (subst (λ (d : EventData). OnOk c.wait_for_room.result (TakesRecord c.put_both.new.self d c.wait_for_room.new.self)) is c.wait_for_room.ensures.ok)
