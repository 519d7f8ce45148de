use Rattle.std.proofs.Common.{arith, refl, ap}
use Rattle.fast_records.specs.meaning.Records.{unplaced}
use Rattle.fast_records.proofs.Shown.{two_taken}
use Rattle.fast_records.proofs.sink.RecordSinkSink.turn_message.Goals as goal

pub returns-clause-both : goal.returns-clause-both
returns-clause-both c =
    two_taken c.args.self.now _ c.content.result c.content-2.result c.args.template (omega arith)
    (ap unplaced c.content.ensures) (ap unplaced c.content-2.ensures) refl refl refl refl refl refl refl
