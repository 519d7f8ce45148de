use Rattle.std.proofs.Common.{◌≡◌, ◌≤◌, length}
use Rattle.fast_text.specs.meaning.Streams.{Reads}
use Rattle.fast_command.proofs.texts.read_whole.Given as goal

abbrev pub invariant-loop-read : goal.invariant-loop-read
invariant-loop-read g l = record {
  bytes : Reads (g.S.Source.left l.fn.reader) (g.S.Source.left l.reader) l.text.items;
  many : l._read ≤ length l.text.items;
  few : length l.text.items ≤ l.limit;
  stays : g.S.Source.has_failed l.reader ≡ g.S.Source.has_failed l.fn.reader;
}
