use Rattle.std.proofs.Common.{◌≡◌, ℕ, ◌+◌, List, [], ◌++◌, length}
use Rattle.fast_tree.specs.meaning.Tree.{Tree}
use Rattle.fast_text.specs.meaning.LineWriter.{Writes}
use Rattle.fast_rows.specs.meaning.Rows.{Row, rows_text, bytes_in, lines_in}
use Rattle.fast_rows.proofs.rows.put_rows.Given as goal

abbrev pub invariant-loop-rest : goal.invariant-loop-rest
invariant-loop-rest g l = record {
  few : l.at + length l.rest ≡ l.start + length l.bytes;
  so_far : (t : Tree) → (rows : List Row) × (bytes_in rows ++ l.rest ≡ l.bytes) × (lines_in rows ≡ []) × (l.at ≡ l.start + length (bytes_in rows))
      × Writes g.T.Target.written g.T.Target.has_failed l.fn.line (rows_text t l.start rows) l.line;
}

abbrev pub decreases-loop-rest : goal.decreases-loop-rest
decreases-loop-rest g l = length l.rest
