-- The numbers and names of the nodes of a set.
use Rattle.std.specs.Prelude.{◌≡◌, ℕ, suc, List, [], ◌∷◌, ◌++◌, map, flat_map}
use Rattle.fast_tree.specs.declared.instructions.Node.{Node}
use Rattle.fast_tree.specs.declared.instructions.Template.{Template}
use Rattle.fast_tree.specs.meaning.Tree.{Label, Instruction, field, parts, group, sequence, Body, end, step, TemplateData}
use Rattle.fast_tree.specs.meaning.Nodes.{label_of, instructions_from, template_data}

-- the labels of an instruction and of all that it contains, in preorder
abbrev mutual
  pub labels : Instruction → List Label
  labels (field l f) = l ∷ []
  labels (parts l e m) = l ∷ []
  labels (group l optional body) = l ∷ body_labels body
  labels (sequence l length body) = l ∷ body_labels body

  pub body_labels : Body → List Label
  body_labels end = []
  body_labels (step i is) = labels i ++ body_labels is

-- the labels of all templates, in preorder
abbrev pub template_labels : List TemplateData → List Label
template_labels us = flat_map (λ u. body_labels u.body) us

-- the labels of nodes in order, of which the first has this number
abbrev pub labels_from : ℕ → List Node → List Label
labels_from own [] = []
labels_from own (n ∷ ns) = label_of own n ∷ labels_from (suc own) ns

-- The templates hold each node once, in preorder.
abbrev pub AreInPreorder : List Node → List Template → Type 0
AreInPreorder ns ts = template_labels (map (template_data (instructions_from 0 ns)) ts) ≡ labels_from 0 ns
