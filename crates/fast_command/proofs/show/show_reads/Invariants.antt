use Rattle.std.proofs.Common.{◌≡◌}
use Rattle.fast_template.specs.meaning.Flat.{tree_of}
use Rattle.fast_command.proofs.Showing.{Round}
use Rattle.fast_command.proofs.show.show_reads.Given as goal

abbrev pub invariant-loop-read : goal.invariant-loop-read
invariant-loop-read g l = record {
  round : Round (tree_of l.templates) l.fn.limits l.hex l.show l._read (g.S.Source.left l.fn.reader) (g.S.Source.left l.reader)
      (g.T.Target.written l.fn.writer) (g.T.Target.written l.writer);
  writer_stays : g.T.Target.has_failed l.writer ≡ g.T.Target.has_failed l.fn.writer;
  reader_stays : g.S.Source.has_failed l.reader ≡ g.S.Source.has_failed l.fn.reader;
}
