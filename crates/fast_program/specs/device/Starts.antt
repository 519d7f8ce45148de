-- The starts of the messages of templates.
use Rattle.std.specs.Prelude.{◌≡◌, ℕ, List, slice_get, Option, Some, None}
use Rattle.fast_tree.specs.declared.instructions.Template.{Template}
use Rattle.fast_program.specs.declared.ops.Op.{Op}
use Rattle.fast_program.specs.declared.starts.Start.{Start}
use Rattle.fast_program.specs.device.Runs.{Begins}

-- the number for a template's identifier: the greatest of 64 bits for none
abbrev pub id_number : Option ℕ → ℕ
id_number None = 18446744073709551615
id_number (Some id) = id

-- A start has the index of the run of a template's body, its identifier, and whether it resets.
pub record IsStartOf (ops : List Op) (s : Start) (t : Template) : Type 0 where
  pub body : Begins ops s.at t.body.items
  pub id : s.id ≡ id_number t.id
  pub reset : s.reset ≡ t.reset

-- Each start has the number of its index.
abbrev pub AreInOrder : List Start → Type 0
AreInOrder starts = (i : ℕ) (s : Start) → slice_get starts i ≡ Some s → s.number ≡ i
