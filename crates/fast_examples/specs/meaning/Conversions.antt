-- Lines that are turned into a stream, as statements.
use Rattle.std.specs.Prelude.{◌≡◌, List, ℕ, true, [], ◌∷◌, codes, flat_map, Some, Result, Ok, Err}
use Rattle.fast_template.specs.declared.sets.Templates.{Templates}
use Rattle.fast_template.specs.meaning.Flat.{tree_of}
use Rattle.fast_spelling.specs.declared.faults.EncodeFault.TheVariants.{E3}
use Rattle.fast_command.specs.declared.faults.RunFault.{RunFault}
use Rattle.fast_command.specs.declared.faults.RunFault.TheVariants.{Encode}
use Rattle.fast_convert.specs.meaning.Converting.{IsConverted}
use Rattle.fast_examples.specs.meaning.Vectors.{vectors, lenient}
use Rattle.fast_examples.specs.meaning.Lines.{with_lf}

-- Under each set that is the built-in one, a run in hexadecimal digits has read all of the lines and written this, and ends so. Neither
-- the reader nor the writer has failed.
abbrev pub RunEnds : List (List ℕ) → List ℕ → Result (Unit {0}) RunFault → Type 0
RunEnds text digits r =
    (set : Templates) → tree_of set ≡ vectors
    → IsConverted set lenient true (Some (flat_map with_lf text)) (Some []) (Some []) (Some digits) ⊥ ⊥ r

-- one message; and two of which the second is refused, so that the first alone is written
abbrev pub LinesConverted : Type 0
LinesConverted =
    RunEnds
    (codes "message T1" ∷ codes "field 0 x u 942755" ∷ codes "end message" ∷ [])
    (codes "c0813945a3\n")
    (Ok tt)
    × RunEnds
    (codes "message T3" ∷ codes "field 3 t a \"ABCDE\"" ∷ codes "end message"
    ∷ codes "message T3" ∷ codes "field 3 t a \"AB\"" ∷ codes "end message" ∷ [])
    (codes "e08341424344c5\n")
    (Err (Encode 1 E3))
