use Rattle.std.proofs.Common.{◌≡◌, ℕ, List, ◌∷◌, ◌++◌, length, flat_map}
use Rattle.fast_json.specs.meaning.Json.{json_escaped}
use Rattle.fast_text.specs.meaning.LineWriter.{Writes}
use Rattle.fast_json.proofs.values.put_string.Given as goal

abbrev pub invariant-loop-rest : goal.invariant-loop-rest
invariant-loop-rest g l = (front : List ℕ) × (l.text ≡ front ++ l.rest)
    × Writes g.T.Target.written g.T.Target.has_failed l.fn.line (0x22 ∷ flat_map json_escaped front) l.line

abbrev pub decreases-loop-rest : goal.decreases-loop-rest
decreases-loop-rest g l = length l.rest
