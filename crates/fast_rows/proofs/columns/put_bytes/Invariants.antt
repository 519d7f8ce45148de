use Rattle.std.proofs.Common.{take, flat_map}
use Rattle.fast_text.specs.meaning.LineWriter.{Writes}
use Rattle.fast_rows.specs.meaning.Columns.{spaced}
use Rattle.fast_rows.proofs.columns.put_bytes.Given as goal

abbrev pub invariant-loop-byte : goal.invariant-loop-byte
invariant-loop-byte g l = Writes g.T.Target.written g.T.Target.has_failed l.fn.line (flat_map spaced (take l.byte-index l.bytes)) l.line
