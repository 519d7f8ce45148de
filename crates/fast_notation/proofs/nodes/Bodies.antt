-- The instruction of a node among nodes that name later ones.
use Rattle.std.proofs.Common.{◌≡◌, ℕ, suc, ◌+◌, ◌<◌, List, drop, arith, refl, subst, ap, ◌∙◌, length, slice_get, get_or, Some}
use Rattle.std.specs.Prelude.{slice_index, slice_index_or}
use Rattle.std.proofs.lemmas.List.{get_or_default}
use Rattle.std.proofs.lemmas.Option.{slice_get_read}
use Rattle.fast_tree.specs.declared.instructions.Shape.{Shape}
use Rattle.fast_tree.specs.declared.instructions.Node.{Node}
use Rattle.fast_tree.specs.meaning.Tree.{Instruction, step}
use Rattle.fast_tree.specs.meaning.Nodes.{label_of, instruction_of, instructions_from, body_of, no_instruction}
use Rattle.fast_tree.specs.meaning.Numbers.{numbers_of, AreBetween, NameLaterNodes}
use Rattle.fast_notation.proofs.nodes.Walks.{body_at, instruction_of_node, instruction_of_later}

-- a node's instruction, by its shape and all instructions
pub instruction_here : (ns : List Node) (n : ℕ) (v : Node) (s : Shape) → NameLaterNodes ns → n < length ns → v ≡ get_or ns n v → (get_or ns n v).shape ≡ s
    → slice_index_or (instructions_from 0 ns) n no_instruction ≡ instruction_of (label_of n v) 0 (instructions_from 0 ns) s
instruction_here ns n v s later inside read is =
    let found : slice_get ns n ≡ Some v = slice_get_read ns (length ns) n v refl inside read in
    instruction_of_node n ns v no_instruction found
    ∙ instruction_of_later n (length ns) ns (label_of n v) v.shape (later n v found)
    ∙ ap (λ (x : Node). instruction_of (label_of n v) 0 (instructions_from 0 ns) x.shape) read
    ∙ ap (instruction_of (label_of n v) 0 (instructions_from 0 ns)) is

-- what a node names
pub names_later : (ns : List Node) (n : ℕ) (v : Node) (s : Shape) → NameLaterNodes ns → n < length ns → v ≡ get_or ns n v
    → (get_or ns n v).shape ≡ s → AreBetween n (length ns) (numbers_of s)
names_later ns n v s later inside read is =
    let found : slice_get ns n ≡ Some v = slice_get_read ns (length ns) n v refl inside read in
    let e : v.shape ≡ s = ap (λ (x : Node). x.shape) read ∙ is in
    subst (λ q. AreBetween n (length ns) (numbers_of q)) e (later n v found)

-- a body begins with the instruction of its next node
pub next_instruction : (is : List Instruction) (ms : List ℕ) (p : ℕ) → p < length ms
    → body_of 0 is (drop p ms) ≡ step (slice_index_or is (slice_index ms p) no_instruction) (body_of 0 is (drop (p + 1) ms))
next_instruction is ms p inside =
    let n = slice_index ms p in
    body_at is ms p n (slice_get_read ms (length ms) p n refl inside (get_or_default ms p 0 n inside))
    ∙ ap (λ q. step (slice_index_or is n no_instruction) (body_of 0 is (drop q ms))) (let e : suc p ≡ p + 1 = omega arith in e)
