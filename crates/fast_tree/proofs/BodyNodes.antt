-- A segment's instructions, looked up among all nodes of the set.
use Rattle.std.proofs.Common.{refl, sym, ap, ◌∙◌, arith}
use Rattle.std.specs.Prelude.{◌≡◌, ℕ, zero, suc, ◌+◌, ◌-◌, ◌<◌, ◌≤◌, List, [], ◌∷◌, drop, length, slice_get, slice_index, slice_index_or, Some}
use Rattle.std.proofs.lemmas.List.{get_or-drop}
use Rattle.fast_tree.specs.declared.instructions.Shape.{Shape}
use Rattle.fast_tree.specs.declared.instructions.Shape.TheVariants.{Field, Decimal, Group, Sequence}
use Rattle.fast_tree.specs.declared.instructions.Node.{Node}
use Rattle.fast_tree.specs.meaning.Numbers.{numbers_of, AreBetween, NameLaterNodes}
use Rattle.fast_tree.specs.meaning.Tree.{Label, group, sequence, step}
use Rattle.fast_tree.specs.meaning.Nodes.{field_data, label_of, no_instruction, body_of, instruction_of, instructions_from, body_among}
use Rattle.fast_tree.specs.device.Bodies.{instruction_among}

-- the instructions behind a number
pub dropped_instructions : (own k : ℕ) (ns : List Node) → drop k (instructions_from own ns) ≡ instructions_from (k + own) (drop k ns)
dropped_instructions own zero ns =
    let none : own ≡ 0 + own = omega arith in
    ap (λ o. instructions_from o ns) none
dropped_instructions own (suc k) [] = refl
dropped_instructions own (suc k) (n ∷ ns) =
    let more : k + suc own ≡ suc k + own = omega arith in
    dropped_instructions (suc own) k ns ∙ ap (λ o. instructions_from o (drop k ns)) more

-- the instruction of a node, by those behind it
pub instruction_by : (own : ℕ) (ns : List Node) (k : ℕ) (v : Node) → slice_get ns k ≡ Some v
    → slice_index_or (instructions_from own ns) k no_instruction ≡ instruction_of (label_of (k + own) v) (suc (k + own))
    (instructions_from (suc (k + own)) (drop (suc k) ns)) v.shape
instruction_by own [] k v h = absurd (cc h)
instruction_by own (u ∷ ns) zero v h =
    let same : u ≡ v = cc h in
    let none : own ≡ 0 + own = omega arith in
    ap (λ (w : Node). instruction_of (label_of own w) (suc own) (instructions_from (suc own) ns) w.shape) same
    ∙ ap (λ o. instruction_of (label_of o v) (suc o) (instructions_from (suc o) ns) v.shape) none
instruction_by own (u ∷ ns) (suc k) v h =
    let more : k + suc own ≡ suc k + own = omega arith in
    instruction_by (suc own) ns k v h ∙ ap (λ n. instruction_of (label_of n v) (suc n) (instructions_from (suc n) (drop (suc k) ns)) v.shape) more

-- A later node's instruction is the same by those behind a number and by all.
later_instruction : (nodes : List Node) (first m : ℕ) → first ≤ m
    → slice_index_or (instructions_from first (drop first nodes)) (m - first) no_instruction ≡ slice_index_or (instructions_from 0 nodes) (m - 0) no_instruction
later_instruction nodes first m h =
    let start : first + 0 ≡ first = omega arith in
    let far : first + (m - first) ≡ m - 0 = omega arith in
    ap (λ is. slice_index_or is (m - first) no_instruction) (sym (dropped_instructions 0 first nodes ∙ ap (λ o. instructions_from o (drop first nodes)) start))
    ∙ get_or-drop first (instructions_from 0 nodes) (m - first) no_instruction
    ∙ ap (λ k. slice_index_or (instructions_from 0 nodes) k no_instruction) far

-- So is a body of later nodes.
pub later_body : (nodes : List Node) (first : ℕ) (ms : List ℕ) → ((k : ℕ) → k < length ms → first ≤ slice_index ms k)
    → body_of first (instructions_from first (drop first nodes)) ms ≡ body_among nodes ms
later_body nodes first [] h = refl
later_body nodes first (m ∷ ms) h =
    ap (λ i. step i (body_of first (instructions_from first (drop first nodes)) ms)) (later_instruction nodes first m (h 0 (omega arith)))
    ∙ ap (λ b. step (slice_index_or (instructions_from 0 nodes) (m - 0) no_instruction) b) (later_body nodes first ms (λ k below. h (suc k) (omega arith)))

-- So is the instruction of a shape that names later nodes.
pub later_shape : (nodes : List Node) (n limit : ℕ) (at : Label) (s : Shape) → AreBetween n limit (numbers_of s)
    → instruction_of at (suc n) (instructions_from (suc n) (drop (suc n) nodes)) s ≡ instruction_among nodes at s
later_shape nodes n limit at (Field f) h = refl
later_shape nodes n limit at (Decimal e m) h = refl
later_shape nodes n limit at (Group optional body) h = ap (group at optional)
    (later_body nodes (suc n) body.items (λ k below. let between = (h k below).0 in omega arith))
later_shape nodes n limit at (Sequence length body) h =
    ap (sequence at (field_data length)) (later_body nodes (suc n) body.items (λ k below. let between = (h k below).0 in omega arith))

-- The instruction of a node of a set.
pub node_instruction : (nodes : List Node) (n limit : ℕ) (v : Node) → slice_get nodes n ≡ Some v → AreBetween n limit (numbers_of v.shape)
    → slice_index_or (instructions_from 0 nodes) (n - 0) no_instruction ≡ instruction_among nodes (label_of n v) v.shape
node_instruction nodes n limit v found between =
    let less : n - 0 ≡ n = omega arith in
    let start : n + 0 ≡ n = omega arith in
    ap (λ k. slice_index_or (instructions_from 0 nodes) k no_instruction) less
    ∙ instruction_by 0 nodes n v found
    ∙ ap (λ k. instruction_of (label_of k v) (suc k) (instructions_from (suc k) (drop (suc n) nodes)) v.shape) start
    ∙ later_shape nodes n limit (label_of n v) v.shape between

-- A segment begins with the instruction of its first node.
pub body_step : (nodes : List Node) (n : ℕ) (ns : List ℕ) (v : Node) → NameLaterNodes nodes → slice_get nodes n ≡ Some v
    → body_among nodes (n ∷ ns) ≡ step (instruction_among nodes (label_of n v) v.shape) (body_among nodes ns)
body_step nodes n ns v later found = ap (λ i. step i (body_among nodes ns)) (node_instruction nodes n (length nodes) v found (later n v found))
