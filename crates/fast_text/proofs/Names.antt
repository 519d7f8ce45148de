-- The names of the nodes and templates of a set.
use Rattle.std.proofs.Common.{◌≡◌, ℕ, ◌+◌, ◌≤◌, zero, suc, Bool, List, [], ◌∷◌, Option, Some, refl, ap, ◌∙◌, length, slice_get, arith, eq-eqb}
use Rattle.std.specs.Prelude.{if◌then◌else◌, option_map, string_bytes}
use Rattle.std.proofs.lemmas.Bool.{ne_eqb}
use Rattle.std.proofs.lemmas.Option.{slice_get-map}
use Rattle.fast_tree.specs.declared.instructions.Node.{Node}
use Rattle.fast_tree.specs.declared.instructions.Template.{Template}
use Rattle.fast_template.specs.declared.sets.Templates.{Templates}
use Rattle.fast_tree.specs.meaning.Tree.{Label}
use Rattle.fast_tree.specs.meaning.Nodes.{label_of, instructions_from, template_data}
use Rattle.fast_notation.specs.meaning.Labels.{labels_from, template_labels}
use Rattle.fast_template.specs.meaning.Flat.{tree_of, nodes_of, templates_of}
use Rattle.fast_lines.specs.meaning.Lines.{name_among, node_name, name_if, template_name}

-- the first label is the one
here : (n : ℕ) (l : Label) (ls : List Label) → l.node ≡ n → name_among n (l ∷ ls) ≡ l.name
here n l ls h = ap (λ (b : Bool). if b then l.name else name_among n ls) (eq-eqb l.node n h)

-- the first label is another
past : (n : ℕ) (l : Label) (ls : List Label) → (l.node ≡ n → ⊥) → name_among n (l ∷ ls) ≡ name_among n ls
past n l ls h = ap (λ (b : Bool). if b then l.name else name_among n ls) (ne_eqb l.node n h)

-- the name of a node
name_found : (own k n : ℕ) (ns : List Node) (v : Node) → n ≡ own + k → slice_get ns k ≡ Some v → name_among n (labels_from own ns) ≡ string_bytes v.name
name_found own k n [] v at found = absurd (cc)
name_found own zero n (u ∷ ns) v at found = here n (label_of own u) (labels_from (suc own) ns) (omega arith)
    ∙ (let same : u ≡ v = cc in ap (λ (w : Node). string_bytes w.name) same)
name_found own (suc k) n (u ∷ ns) v at found = past n (label_of own u) (labels_from (suc own) ns) (λ h. omega arith)
    ∙ name_found (suc own) k n ns v (omega arith) found

-- no node has a greater number
name_past : (own n : ℕ) (ns : List Node) → own + length ns ≤ n → name_among n (labels_from own ns) ≡ []
name_past own n [] h = refl
name_past own n (u ∷ ns) h = past n (label_of own u) (labels_from (suc own) ns) (λ e. omega arith) ∙ name_past (suc own) n ns (omega arith)

-- A node that the set has is named by it.
pub node_named : (t : Templates) (n : ℕ) (v : Node) → template_labels (tree_of t).templates ≡ labels_from 0 (nodes_of t)
    → slice_get (nodes_of t) n ≡ Some v → node_name (tree_of t) n ≡ string_bytes v.name
node_named t n v preorder found = ap (name_among n) preorder ∙ name_found 0 n n (nodes_of t) v (omega arith) found

-- a node that the set has not
pub node_unnamed : (t : Templates) (n : ℕ) → template_labels (tree_of t).templates ≡ labels_from 0 (nodes_of t) → length (nodes_of t) ≤ n
    → node_name (tree_of t) n ≡ []
node_unnamed t n preorder h = ap (name_among n) preorder ∙ name_past 0 n (nodes_of t) (omega arith)

-- the template at a number, in the tree
template_at : (t : Templates) (n : ℕ) → template_name (tree_of t) n ≡ name_if
    (option_map (template_data (instructions_from 0 (nodes_of t))) (slice_get (templates_of t) n))
template_at t n = ap name_if (slice_get-map (template_data (instructions_from 0 (nodes_of t))) (templates_of t) n)

-- A template that the set has is named by it.
pub template_named : (t : Templates) (n : ℕ) (v : Template) → slice_get (templates_of t) n ≡ Some v → template_name (tree_of t) n ≡ string_bytes v.name
template_named t n v found = template_at t n ∙ ap (λ (o : Option Template). name_if (option_map (template_data (instructions_from 0 (nodes_of t))) o)) found
