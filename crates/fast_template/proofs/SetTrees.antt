-- What is known of each template set.
use Rattle.std.proofs.Common.{◌≡◌, ℕ, ap, sym, ◌∙◌, length, slice_get, Some}
use Rattle.std.specs.Prelude.{slice_index_or}
use Rattle.fast_template.specs.declared.sets.Templates.{Templates}
use Rattle.fast_tree.specs.meaning.Tree.{HasDistinctIds, Instruction, TemplateData}
use Rattle.fast_template.specs.meaning.Flat.{tree_of, templates_of, nodes_of, label_of, instruction_of, instructions_from, template_data}
use Rattle.fast_tree.specs.declared.instructions.Node.{Node}
use Rattle.fast_tree.specs.declared.instructions.Template.{Template}
use Rattle.fast_notation.proofs.lists.Lists.{map_get_back}
use Rattle.fast_notation.proofs.nodes.Walks.{instruction_of_node, instruction_of_later}

-- the set's template behind the tree's
pub template_behind : (s : Templates) (i : ℕ) (u : TemplateData) → slice_get (tree_of s).templates i ≡ Some u
    → (t : Template) × (slice_get (templates_of s) i ≡ Some t) × (u ≡ template_data (instructions_from 0 (nodes_of s)) t)
template_behind s i u found = map_get_back (template_data (instructions_from 0 (nodes_of s))) (templates_of s) i u found

-- no two templates of a set have one identifier
pub distinct_ids : (s : Templates) → HasDistinctIds (tree_of s)
distinct_ids s i j id a b at_i at_j id_of_a id_of_b =
    let f = template_behind s i a at_i in
    let g = template_behind s j b at_j in
    s.distinct_ids i j id f.0 g.0 f.1 g.1 (sym (ap (λ (u : TemplateData). u.id) f.2) ∙ id_of_a) (sym (ap (λ (u : TemplateData). u.id) g.2) ∙ id_of_b)

-- The instruction of a node of a set, by all instructions of the set.
pub instruction_at : (s : Templates) (n : ℕ) (v : Node) (d : Instruction) → slice_get (nodes_of s) n ≡ Some v
    → slice_index_or (instructions_from 0 (nodes_of s)) n d ≡ instruction_of (label_of n v) 0 (instructions_from 0 (nodes_of s)) v.shape
instruction_at s n v d found =
    instruction_of_node n (nodes_of s) v d found ∙ instruction_of_later n (length (nodes_of s)) (nodes_of s) (label_of n v) v.shape
    (s.nodes_name_later_nodes n v found)
