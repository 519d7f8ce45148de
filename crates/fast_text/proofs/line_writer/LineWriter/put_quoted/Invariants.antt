use Rattle.std.proofs.Common.{◌≡◌, ℕ, List, ◌∷◌, ◌++◌, length, flat_map}
use Rattle.fast_lines.specs.meaning.Lines.{escaped}
use Rattle.fast_text.specs.meaning.LineWriter.{Writes}
use Rattle.fast_text.proofs.line_writer.LineWriter.put_quoted.Given as goal

abbrev pub invariant-loop-rest : goal.invariant-loop-rest
invariant-loop-rest g l = (front : List ℕ) × (l.text ≡ front ++ l.rest)
    × Writes g.T.Target.written g.T.Target.has_failed l.fn.self (0x22 ∷ flat_map escaped front) l.self

abbrev pub decreases-loop-rest : goal.decreases-loop-rest
decreases-loop-rest g l = length l.rest
