-- Which template a word names.
use Rattle.std.proofs.Common.{◌≡◌, ℕ, List, Option, Some, None, inr}
use Rattle.std.specs.Prelude.{IfSome, slice_get}
use Rattle.fast_tree.specs.declared.instructions.Template.{Template}
use Rattle.fast_template.specs.declared.sets.Templates.{Templates}
use Rattle.fast_template.specs.meaning.Flat.{templates_of}
use Rattle.fast_select.specs.meaning.Naming.{IsId, IsNoName, IsNamed}

-- a template that is found by an identifier, where the word is no name
pub named_by_id : (templates : Templates) (word : List ℕ) (id : ℕ) (found : Option ℕ) → IsNoName templates word → IsId word id
    → IfSome found (λ i. (t : Template) × (slice_get (templates_of templates) i ≡ Some t) × (t.id ≡ Some id)) → IfSome found (IsNamed templates word)
named_by_id templates word id None no_name is h = tt
named_by_id templates word id (Some i) no_name is h = record { template = h.0; found = h.1; how = inr (no_name, (id, is, h.2)) }
