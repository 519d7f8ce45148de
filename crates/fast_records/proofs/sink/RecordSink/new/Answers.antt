use Rattle.std.proofs.Common.{refl}
use Rattle.fast_records.proofs.sink.RecordSink.new.Goals as goal

pub returns-clause-shows : goal.returns-clause-shows
returns-clause-shows c = c.started-start.ensures.shows _ (record {
  same_records = refl;
  same_texts = refl;
  same_waiting = refl;
  filled = refl;
  limit = refl;
  used = refl;
})
