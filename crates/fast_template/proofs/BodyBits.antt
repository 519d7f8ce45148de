-- The bits that segments use, node by node.
use Rattle.std.proofs.Common.{sym, ap, ◌∙◌, arith}
use Rattle.std.specs.Prelude.{◌≡◌, ℕ, suc, ◌+◌, ◌-◌, ◌<◌, List, drop, length, slice_get, slice_index_or, Some}
use Rattle.std.proofs.lemmas.List.{at_drop_more}
use Rattle.fast_tree.specs.declared.instructions.Node.{Node}
use Rattle.fast_tree.specs.meaning.Tree.{Label, Instruction, bits_used, bits_of}
use Rattle.fast_tree.specs.meaning.Nodes.{label_of, no_instruction, instruction_of, instructions_from, body_among}
use Rattle.fast_tree.proofs.BodyNodes.{instruction_by}

-- The bits that the instruction of a node uses are those of its shape, whatever the nodes behind it are.
abbrev pub Uses : ℕ → Node → Type 0
Uses bits v = (at : Label) (first : ℕ) (is : List Instruction) → bits ≡ bits_used (instruction_of at first is v.shape)

bits_at : (nodes : List Node) (n bits : ℕ) (v : Node) → slice_get nodes n ≡ Some v → Uses bits v
    → bits ≡ bits_used (slice_index_or (instructions_from 0 nodes) (n - 0) no_instruction)
bits_at nodes n bits v found used =
    let less : n ≡ n - 0 = omega arith in
    used (label_of (n + 0) v) (suc (n + 0)) (instructions_from (suc (n + 0)) (drop (suc n) nodes))
    ∙ ap bits_used (sym (instruction_by 0 nodes n v found))
    ∙ ap (λ k. bits_used (slice_index_or (instructions_from 0 nodes) k no_instruction)) less

-- the bits of a segment from one of its nodes on
pub bits_more : (nodes : List Node) (ns : List ℕ) (i d bits : ℕ) (v : Node) → i < length ns → slice_get nodes (slice_index_or ns i d) ≡ Some v → Uses bits v
    → bits_of (body_among nodes (drop i ns)) ≡ bits + bits_of (body_among nodes (drop (i + 1) ns))
bits_more nodes ns i d bits v h found used =
    at_drop_more (λ ms. bits_of (body_among nodes ms)) ns i d h
    ∙ ap (λ b. b + bits_of (body_among nodes (drop (i + 1) ns))) (sym (bits_at nodes (slice_index_or ns i d) bits v found used))
