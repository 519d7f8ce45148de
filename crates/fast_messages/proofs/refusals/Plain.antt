-- What is plain of a whole is so of its parts.
use Rattle.std.proofs.Common.{◌≡◌, ℕ}
use Rattle.std.specs.Prelude.{slice_get, Some}
use Rattle.std.proofs.lemmas.List.Elements.{All-tail}
use Rattle.fast_tree.specs.meaning.Tree.{Label, FieldData, Instruction, sequence, Body, step, TemplateData, Tree}
use Rattle.fast_notation.specs.meaning.Labels.{labels, body_labels}
use Rattle.fast_messages.specs.meaning.Distinct.{HasDistinctBodies}
use Rattle.fast_messages.specs.meaning.Lined.{IsNamed, HasNames, HasDistinctNames}
use Rattle.fast_messages.specs.meaning.Unsaid.{IsPlainBody, IsPlainItem}
use Rattle.fast_messages.proofs.names.LinedEvents.{left, right, template_named}

pub plain_first : (t : Tree) (i : Instruction) (is : Body) → IsPlainBody t (step i is) → IsPlainItem t i
plain_first t i is p = record { templates = p.templates; distinct = p.distinct.0; named = left t (labels i) (body_labels is) p.named }

pub plain_rest : (t : Tree) (i : Instruction) (is : Body) → IsPlainBody t (step i is) → IsPlainBody t is
plain_rest t i is p = record { templates = p.templates; distinct = p.distinct.2; named = right t (labels i) (body_labels is) p.named }

pub plain_sequence : (t : Tree) (l : Label) (f : FieldData) (body : Body) → IsPlainItem t (sequence l f body) → IsPlainBody t body
plain_sequence t l f body p = record { templates = p.templates; distinct = p.distinct; named = All-tail (λ l. IsNamed t l.node) l (body_labels body) p.named }

pub plain_template : (t : Tree) (n : ℕ) (u : TemplateData) → HasDistinctNames t → HasDistinctBodies t → HasNames t
    → slice_get t.templates n ≡ Some u → IsPlainBody t u.body
plain_template t n u names bodies named found = record {
  templates = names;
  distinct = bodies n u found;
  named = template_named t n t.templates u named.nodes found;
}
