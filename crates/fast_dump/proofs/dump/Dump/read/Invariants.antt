use Rattle.std.specs.Prelude.{is_some}
use Rattle.fast_decoder.specs.meaning.Decoding.{tree}
use Rattle.fast_dump.specs.device.Progress.{start_at}
use Rattle.fast_dump.proofs.Rounds.{Round}
use Rattle.fast_dump.proofs.dump.Dump.read.Given as goal

abbrev pub invariant-loop-read : goal.invariant-loop-read
invariant-loop-read g l =
    Round g.T.Target.written g.T.Target.has_failed (start_at g.T.Target.written g.T.Target.has_failed l.fn.self.page.target)
    (tree l.fn.self.decoder) l.fn.self.decoder.limits (is_some l.fn.unhexer) l.self l.unhexer l._read (g.S.Source.left l.fn.reader)
    (g.S.Source.left l.reader)
