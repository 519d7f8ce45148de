use Rattle.std.proofs.Common.{◌≡◌}
use Rattle.std.specs.Prelude.{is_some}
use Rattle.fast_decoder.specs.meaning.Decoding.{tree}
use Rattle.fast_run.proofs.Running.{Round}
use Rattle.fast_run.proofs.runs.Run.read.Given as goal

abbrev pub invariant-loop-read : goal.invariant-loop-read
invariant-loop-read g l =
    Round g.O.Sink.takes g.O.Output.flushes (tree l.fn.self.decoder) l.fn.self.decoder.limits
    (is_some l.fn.self.unhexer) l.fn.output.chooser l.fn.output.inner l.self l.output l._read (g.S.Source.left l.fn.reader)
    (g.S.Source.left l.reader)
