-- The references of a written set.
use Rattle.std.specs.Prelude.{List, All, IsSome}
use Rattle.fast_notation.specs.declared.written.WrittenInstruction.{WrittenInstruction}
use Rattle.fast_tree.specs.meaning.AsWritten.{DeclaredTemplate, all_references}
use Rattle.fast_tree.specs.device.Places.{place_of_name}
use Rattle.fast_notation.specs.device.WrittenSets.{fields_data}
use Rattle.std.specs.Prelude.{ℕ}

-- all references of instructions
abbrev pub references_in : List WrittenInstruction → List (List ℕ)
references_in fs = all_references (fields_data fs)

-- Each reference names a template of the set.
abbrev pub KnowsReferences : List DeclaredTemplate → Type 0
KnowsReferences ts = All (λ t. All (λ name. IsSome (place_of_name name ts)) (all_references t.fields)) ts
