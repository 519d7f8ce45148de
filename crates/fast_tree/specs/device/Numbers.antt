-- The numbers by which templates and nodes name nodes, and the identifiers of templates.
use Rattle.std.specs.Prelude.{◌≡◌, ℕ, List, slice_get, Option, Some, string_bytes}
use Rattle.std.specs.Str.{bytes_eq}
use Rattle.fast_tree.specs.declared.instructions.Template.{Template}
use Rattle.fast_tree.specs.device.Places.{place, is_id}

-- No two templates have the same identifier.
abbrev pub HaveDistinctIds : List Template → Type 0
HaveDistinctIds ts = (i j id : ℕ) (a b : Template) → slice_get ts i ≡ Some a → slice_get ts j ≡ Some b → a.id ≡ Some id → b.id ≡ Some id → i ≡ j

-- the number of the first template with a name
abbrev pub number_of_name : List ℕ → List Template → Option ℕ
number_of_name name ts = place (λ t. bytes_eq name (string_bytes t.name)) 0 ts

-- the number of the first template with an identifier
abbrev pub number_of_id : ℕ → List Template → Option ℕ
number_of_id id ts = place (λ t. is_id id t.id) 0 ts
