-- The instruction of a node, and the instructions of a body one after the other: what a walk over a set needs.
use Rattle.std.proofs.Common.{◌≡◌, ℕ, ◌+◌, ◌-◌, ◌<◌, ◌≤◌, List, [], ◌∷◌, refl, ap, sym, ◌∙◌, length, drop, slice_get, get_or, Some, suc, zero, arith}
use Rattle.std.specs.Prelude.{slice_index_or, slice_index}
use Rattle.std.proofs.lemmas.Option.{slice_get_within, get_or_from_slice_get}
use Rattle.std.proofs.lemmas.List.{get_or-drop, drop_all}
use Rattle.std.proofs.Math.Seq.{drop-cons}
use Rattle.fast_tree.specs.declared.instructions.Shape.{Shape}
use Rattle.fast_tree.specs.declared.instructions.Shape.TheVariants.{Field, Decimal, Group, Sequence}
use Rattle.fast_tree.specs.declared.instructions.Node.{Node}
use Rattle.fast_tree.specs.meaning.Tree.{Label, Instruction, group, sequence, end, step}
use Rattle.fast_tree.specs.meaning.Nodes.{label_of, instruction_of, instructions_from, body_of, no_instruction, field_data}
use Rattle.fast_tree.specs.meaning.Numbers.{numbers_of, AreBetween}

-- the instructions of the nodes that are left are those that are left
pub instructions-drop : (own k : ℕ) (ns : List Node) → drop k (instructions_from own ns) ≡ instructions_from (own + k) (drop k ns)
instructions-drop own zero ns = ap (λ m. instructions_from m ns) (let e : own ≡ own + 0 = omega arith in e)
instructions-drop own (suc k) [] = refl
instructions-drop own (suc k) (n ∷ ns) = instructions-drop (suc own) k ns
    ∙ ap (λ m. instructions_from m (drop k ns)) (let e : suc own + k ≡ own + suc k = omega arith in e)

-- the instruction behind some others, by the instructions of the nodes behind it
pub instruction_behind : (own k : ℕ) (ns : List Node) (v : Node) (d : Instruction) → slice_get ns k ≡ Some v
    → slice_index_or (instructions_from own ns) k d ≡ instruction_of (label_of (own + k) v) (suc (own + k))
    (instructions_from (suc (own + k)) (drop (suc k) ns)) v.shape
instruction_behind own k [] v d found = absurd (cc)
instruction_behind own zero (n ∷ ns) v d found =
    let is : n ≡ v = cc in
    let e : own ≡ own + 0 = omega arith in
    ap (λ m. instruction_of (label_of m n) (suc m) (instructions_from (suc m) ns) n.shape) e
    ∙ ap (λ (x : Node). instruction_of (label_of (own + 0) x) (suc (own + 0)) (instructions_from (suc (own + 0)) ns) x.shape) is
instruction_behind own (suc k) (n ∷ ns) v d found =
    let e : suc own + k ≡ own + suc k = omega arith in
    instruction_behind (suc own) k ns v d found
    ∙ ap (λ m. instruction_of (label_of m v) (suc m) (instructions_from (suc m) (drop (suc k) ns)) v.shape) e

-- the instruction of a node, by the instructions of the nodes behind it
pub instruction_of_node : (n : ℕ) (ns : List Node) (v : Node) (d : Instruction) → slice_get ns n ≡ Some v
    → slice_index_or (instructions_from 0 ns) n d ≡ instruction_of (label_of n v) (suc n) (instructions_from (suc n) (drop (suc n) ns)) v.shape
instruction_of_node n ns v d found =
    let e : 0 + n ≡ n = omega arith in
    instruction_behind 0 n ns v d found ∙ ap (λ m. instruction_of (label_of m v) (suc m) (instructions_from (suc m) (drop (suc n) ns)) v.shape) e

-- a body of later nodes by the instructions behind a node, and by all instructions
body_of_later : (first : ℕ) (is : List Instruction) (ms : List ℕ) → ((k : ℕ) → k < length ms → first ≤ slice_index ms k)
    → body_of first (drop first is) ms ≡ body_of 0 is ms
body_of_later first is [] later = refl
body_of_later first is (m ∷ ms) later =
    let here : first ≤ m = later 0 (omega arith) in
    let e : first + (m - first) ≡ m - 0 = omega (arith, here) in
    let read : slice_index_or (drop first is) (m - first) no_instruction ≡ slice_index_or is (m - 0) no_instruction =
    get_or-drop first is (m - first) no_instruction ∙ ap (λ k. slice_index_or is k no_instruction) e in
    ap (λ i. step i (body_of first (drop first is) ms)) read
    ∙ ap (step (slice_index_or is (m - 0) no_instruction)) (body_of_later first is ms (λ k inside. later (suc k) (omega (arith, inside))))

-- a body of later nodes, by all instructions
later_body : (n limit : ℕ) (ns : List Node) (ms : List ℕ) → AreBetween n limit ms
    → body_of (suc n) (instructions_from (suc n) (drop (suc n) ns)) ms ≡ body_of 0 (instructions_from 0 ns) ms
later_body n limit ns ms later =
    let e : instructions_from (suc n) (drop (suc n) ns) ≡ drop (suc n) (instructions_from 0 ns) =
    ap (λ m. instructions_from m (drop (suc n) ns)) (let z : suc n ≡ 0 + suc n = omega arith in z) ∙ sym (instructions-drop 0 (suc n) ns) in
    ap (λ is. body_of (suc n) is ms) e ∙ body_of_later (suc n) (instructions_from 0 ns) ms (λ k inside. let h = (later k inside).0 in omega (arith, h))

-- the instruction of a shape that names later nodes, by all instructions
pub instruction_of_later : (n limit : ℕ) (ns : List Node) (at : Label) (s : Shape) → AreBetween n limit (numbers_of s)
    → instruction_of at (suc n) (instructions_from (suc n) (drop (suc n) ns)) s ≡ instruction_of at 0 (instructions_from 0 ns) s
instruction_of_later n limit ns at (Field f) later = refl
instruction_of_later n limit ns at (Decimal e m) later = refl
instruction_of_later n limit ns at (Group optional body) later = ap (group at optional) (later_body n limit ns body.items later)
instruction_of_later n limit ns at (Sequence length body) later = ap (sequence at (field_data length)) (later_body n limit ns body.items later)

-- a body begins with the instruction of its first node
pub body_at : (is : List Instruction) (ms : List ℕ) (p n : ℕ) → slice_get ms p ≡ Some n
    → body_of 0 is (drop p ms) ≡ step (slice_index_or is n no_instruction) (body_of 0 is (drop (suc p) ms))
body_at is ms p n found =
    let inside = slice_get_within ms p n found in
    let read : get_or ms p n ≡ n = get_or_from_slice_get ms p n n found in
    let e : get_or ms p n - 0 ≡ n = omega (arith, read) in
    ap (body_of 0 is) (drop-cons ms p n inside) ∙ ap (λ m. step (slice_index_or is m no_instruction) (body_of 0 is (drop (suc p) ms))) e

-- a body with no node left
pub body_at_end : (is : List Instruction) (ms : List ℕ) (p : ℕ) → length ms ≤ p → body_of 0 is (drop p ms) ≡ end
body_at_end is ms p past = ap (body_of 0 is) (drop_all p ms past)
