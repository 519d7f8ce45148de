-- Nodes with and without their memory stand for the same instructions, and have the same labels.
use Rattle.std.proofs.Common.{◌≡◌, ℕ, List, [], ◌∷◌, refl, ap, ◌∙◌, map, suc}
use Rattle.fast_tree.specs.declared.instructions.Shape.{Shape}
use Rattle.fast_tree.specs.declared.instructions.Shape.TheVariants.{Field, Decimal, Group, Sequence}
use Rattle.fast_tree.specs.declared.instructions.Node.{Node}
use Rattle.fast_tree.specs.declared.instructions.Template.{Template}
use Rattle.fast_tree.specs.meaning.Tree.{Label, Instruction}
use Rattle.fast_tree.specs.meaning.Nodes.{instructions_from, instruction_of, template_data, label_of}
use Rattle.fast_notation.specs.meaning.Labels.{labels_from}
use Rattle.fast_tree.specs.meaning.NodeData.{NodeData, instructions_of, instruction_from, shape_data, node_data, outline, template_from}

-- one instruction
pub same_instruction : (at : Label) (first : ℕ) (is : List Instruction) (s : Shape) → instruction_of at first is s ≡ instruction_from at first is (shape_data s)
same_instruction at first is (Field f) = refl
same_instruction at first is (Decimal e m) = refl
same_instruction at first is (Group optional body) = refl
same_instruction at first is (Sequence length body) = refl

-- all instructions
pub same_instructions : (own : ℕ) (ns : List Node) → instructions_from own ns ≡ instructions_of own (map node_data ns)
same_instructions own [] = refl
same_instructions own (n ∷ ns) =
    ap (λ i. i ∷ instructions_from (suc own) ns) (same_instruction (label_of own n) (suc own) (instructions_from (suc own) ns) n.shape)
    ∙ ap (λ is. instruction_from (label_of own n) (suc own) is (shape_data n.shape) ∷ is) (same_instructions (suc own) ns)

-- all templates
pub same_templates : (is : List Instruction) (ts : List Template) → map (template_data is) ts ≡ map (template_from is) (map outline ts)
same_templates is [] = refl
same_templates is (t ∷ ts) = ap (λ us. template_data is t ∷ us) (same_templates is ts)

-- the labels of nodes without their memory
abbrev pub data_labels : ℕ → List NodeData → List Label
data_labels own [] = []
data_labels own (n ∷ ns) = record { node = own; name = n.name } ∷ data_labels (suc own) ns

-- the labels of nodes are those of what the nodes hold
pub same_labels : (own : ℕ) (ns : List Node) → labels_from own ns ≡ data_labels own (map node_data ns)
same_labels own [] = refl
same_labels own (n ∷ ns) = ap (λ (ls : List Label). label_of own n ∷ ls) (same_labels (suc own) ns)
