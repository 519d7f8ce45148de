use Rattle.std.proofs.Common.{take, flat_map}
use Rattle.fast_text.specs.meaning.LineWriter.{Writes}
use Rattle.fast_rows.specs.meaning.Notes.{bits}
use Rattle.fast_rows.proofs.bits.put_bits.Given as goal

abbrev pub invariant-loop-byte : goal.invariant-loop-byte
invariant-loop-byte g l = Writes g.T.Target.written g.T.Target.has_failed l.fn.line (flat_map bits (take l.byte-index l.bytes)) l.line
