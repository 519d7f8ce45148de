use Rattle.std.proofs.Common.{rules, arith, refl}
use Rattle.fast_stream.specs.meaning.Handed.{event_data}
use Rattle.fast_records.proofs.Shown.{shows_same, shows_wait}
use Rattle.fast_records.proofs.sink.RecordSink.wait.Goals as goal

pub returns-in-Ok-clause-ok : goal.returns-in-Ok-clause-ok
returns-in-Ok-clause-ok c = record {
  same = record { records = refl; texts = refl; waiting = search (rules); long = refl };
  grows = omega arith;
  shows = shows_wait c.args.self.now _ (event_data c.args.event) c.requires.lacks (record {
    records = refl;
    texts = refl;
    filled = refl;
    used = refl;
    long = refl;
    wide = refl;
  }) refl c.in-Ok.ensures.ok;
}

pub returns-in-Err-clause-err : goal.returns-in-Err-clause-err
returns-in-Err-clause-err c = record {
  same = record { records = refl; texts = refl; waiting = search (rules); long = refl };
  grows = omega arith;
  shows = shows_same c.args.self.now _ (record {
    as_filled = record { records = refl; texts = refl; filled = refl; used = refl; long = refl; wide = refl };
    limit = refl;
  }) c.in-Err.ensures.err;
}
