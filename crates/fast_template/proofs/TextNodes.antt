-- The text fields of a set are those of its nodes: each node stands in the set once.
use Rattle.std.proofs.Common.{◌≡◌, ◌⊎◌, ℕ, ◌+◌, ◌-◌, ◌<◌, ◌≤◌, suc, zero, List, [], ◌∷◌, ◌++◌, refl, ap, sym, ◌∙◌, subst, length, map}
use Rattle.std.proofs.Common.{slice_get, get_or, Some, inl, inr, arith}
use Rattle.std.specs.Prelude.{slice_index, slice_index_or, Any}
use Rattle.std.proofs.lemmas.Option.{slice_get_read, slice_get_within, get_or_from_slice_get}
use Rattle.fast_tree.specs.declared.instructions.Shape.{Shape}
use Rattle.fast_tree.specs.declared.instructions.Shape.TheVariants.{Field, Decimal, Group, Sequence}
use Rattle.fast_tree.specs.declared.instructions.Node.{Node}
use Rattle.fast_tree.specs.declared.instructions.Template.{Template}
use Rattle.fast_template.specs.declared.sets.Templates.{Templates}
use Rattle.fast_tree.specs.meaning.Tree.{Label, Instruction, TemplateData}
use Rattle.fast_template.specs.meaning.Flat.{tree_of, nodes_of, templates_of, label_of, instruction_of, instructions_from, body_of}
use Rattle.fast_template.specs.meaning.Flat.{no_instruction, template_data}
use Rattle.fast_notation.specs.meaning.Labels.{labels, body_labels, template_labels, labels_from}
use Rattle.fast_tree.specs.meaning.Numbers.{numbers_of, NameNodes}
use Rattle.fast_template.specs.meaning.TextFields.{HoldsText, BodyHoldsText, SetHoldsText, IsTextShape, IsTextNode}
use Rattle.fast_template.proofs.SetTrees.{template_behind, instruction_at}

-- an element by its place
at_place : {A : Type 0} (P : A → Type 0) (xs : List A) (k : ℕ) (x : A) → slice_get xs k ≡ Some x → P x → Any P xs
at_place P xs k x found holds = (k, x, slice_get_within xs k x found, get_or_from_slice_get xs k x x found, holds)

-- an element behind the first
behind : {A : Type 0} (P : A → Type 0) (y : A) (xs : List A) → Any P xs → Any P (y ∷ xs)
behind P y xs some = (suc some.0, some.1, omega (arith, some.2), some.3, some.4)

-- the node of a number below the limit
node_at : (ns : List Node) (d : Node) (n : ℕ) → n < length ns → slice_get ns n ≡ Some (get_or ns n d)
node_at [] d n inside = absurd (omega (arith, inside))
node_at (v ∷ vs) d zero inside = refl
node_at (v ∷ vs) d (suc n) inside = node_at vs d n (omega (arith, inside))

-- a label is in a list
abbrev Among : Label → List Label → Type 0
Among l [] = ⊥
Among l (m ∷ ms) = (l ≡ m) ⊎ Among l ms

among_both : (l : Label) (ms ns : List Label) → Among l (ms ++ ns) → Among l ms ⊎ Among l ns
among_both l [] ns in_it = inr in_it
among_both l (m ∷ ms) ns (inl same) = inl (inl same)
among_both l (m ∷ ms) ns (inr in_it) = elim (among_both l ms ns in_it) [ inl here ↦ inl (inr here) | inr there ↦ inr there ]

-- a node has its label
has_label : (own : ℕ) (ns : List Node) (k : ℕ) (v : Node) → slice_get ns k ≡ Some v → Among (label_of (own + k) v) (labels_from own ns)
has_label own [] k v found = absurd (cc)
has_label own (n ∷ ns) zero v found =
    let same : n ≡ v = cc in
    inl (ap (λ m. label_of m v) (let e : own + 0 ≡ own = omega arith in e) ∙ ap (label_of own) (sym same))
has_label own (n ∷ ns) (suc k) v found =
    inr (subst (λ m. Among (label_of m v) (labels_from (suc own) ns)) (let e : suc own + k ≡ own + suc k = omega arith in e) (has_label (suc own) ns k v found))

-- a text field in a body stands in one of its nodes
in_body : (entry : ℕ) (is : List Instruction) (X : Type 0) (ms : List ℕ)
    → ((j : ℕ) → j < length ms → HoldsText entry (slice_index_or is (slice_index ms j) no_instruction) → X)
    → BodyHoldsText entry (body_of 0 is ms) → X
in_body entry is X [] inner holds = absurd holds
in_body entry is X (m ∷ ms) inner (inl here) = inner 0 (omega arith)
    (subst (λ k. HoldsText entry (slice_index_or is k no_instruction)) (let e : m - 0 ≡ m = omega arith in e) here)
in_body entry is X (m ∷ ms) inner (inr rest) = in_body entry is X ms (λ j below h. inner (suc j) (omega (arith, below)) h) rest

-- a text field in the instruction of a shape is the shape, or stands in one of its nodes
in_shape : (entry : ℕ) (is : List Instruction) (X : Type 0) (at : Label) (q : Shape) → (IsTextShape entry q → X)
    → ((j : ℕ) → j < length (numbers_of q) → HoldsText entry (slice_index_or is (slice_index (numbers_of q) j) no_instruction) → X)
    → HoldsText entry (instruction_of at 0 is q) → X
in_shape entry is X at (Field f) own inner holds = own holds
in_shape entry is X at (Decimal e m) own inner holds = absurd holds
in_shape entry is X at (Group optional body) own inner holds = in_body entry is X body.items inner holds
in_shape entry is X at (Sequence length body) own inner holds = in_body entry is X body.items inner holds

-- a text field in the instruction of a node is a node
in_node : (s : Templates) (entry k n : ℕ) (v : Node) → length (nodes_of s) ≤ n + k → slice_get (nodes_of s) n ≡ Some v
    → HoldsText entry (slice_index_or (instructions_from 0 (nodes_of s)) n no_instruction) → Any (IsTextNode entry) (nodes_of s)
in_node s entry zero n v far found holds = absurd (omega (arith, far, slice_get_within (nodes_of s) n v found))
in_node s entry (suc k) n v far found holds =
    let ns = nodes_of s in
    let later = s.nodes_name_later_nodes n v found in
    in_shape entry (instructions_from 0 ns) (Any (IsTextNode entry) ns) (label_of n v) v.shape (λ text. at_place (IsTextNode entry) ns n v found text)
    (λ j below h. let b = later j below in in_node s entry k (slice_index (numbers_of v.shape) j)
    (get_or ns (slice_index (numbers_of v.shape) j) v) (omega (arith, far, b.0))
    (node_at ns v (slice_index (numbers_of v.shape) j) b.1) h)
    (subst (HoldsText entry) (instruction_at s n v no_instruction found) holds)

-- a body holds what one of its nodes holds
up_body : (entry : ℕ) (is : List Instruction) (l : Label) (ms : List ℕ)
    → ((j : ℕ) → j < length ms → Among l (labels (slice_index_or is (slice_index ms j) no_instruction))
    → HoldsText entry (slice_index_or is (slice_index ms j) no_instruction))
    → Among l (body_labels (body_of 0 is ms)) → BodyHoldsText entry (body_of 0 is ms)
up_body entry is l [] inner in_it = absurd in_it
up_body entry is l (m ∷ ms) inner in_it =
    let e : m ≡ m - 0 = omega arith in
    let first : Among l (labels (slice_index_or is (m - 0) no_instruction)) → HoldsText entry (slice_index_or is (m - 0) no_instruction) =
    subst (λ k. Among l (labels (slice_index_or is k no_instruction)) → HoldsText entry (slice_index_or is k no_instruction)) e (inner 0 (omega arith)) in
    elim (among_both l (labels (slice_index_or is (m - 0) no_instruction)) (body_labels (body_of 0 is ms)) in_it) [
      | inl here ↦ inl (first here)
      | inr there ↦ inr (up_body entry is l ms (λ j below h. inner (suc j) (omega (arith, below)) h) there)
    ]

-- the instruction of a shape holds what the shape is, or what one of its nodes holds
up_shape : (entry : ℕ) (is : List Instruction) (l at : Label) (q : Shape) → (l ≡ at → IsTextShape entry q)
    → ((j : ℕ) → j < length (numbers_of q) → Among l (labels (slice_index_or is (slice_index (numbers_of q) j) no_instruction))
    → HoldsText entry (slice_index_or is (slice_index (numbers_of q) j) no_instruction))
    → Among l (labels (instruction_of at 0 is q)) → HoldsText entry (instruction_of at 0 is q)
up_shape entry is l at (Field f) own inner (inl same) = own same
up_shape entry is l at (Field f) own inner (inr none) = absurd none
up_shape entry is l at (Decimal e m) own inner (inl same) = absurd (own same)
up_shape entry is l at (Decimal e m) own inner (inr none) = absurd none
up_shape entry is l at (Group optional body) own inner (inl same) = absurd (own same)
up_shape entry is l at (Group optional body) own inner (inr rest) = up_body entry is l body.items inner rest
up_shape entry is l at (Sequence length body) own inner (inl same) = absurd (own same)
up_shape entry is l at (Sequence length body) own inner (inr rest) = up_body entry is l body.items inner rest

-- an instruction that has the label of a text node holds it
up_node : (s : Templates) (entry n : ℕ) (v : Node) → slice_get (nodes_of s) n ≡ Some v → IsTextNode entry v → (k m : ℕ) (w : Node)
    → length (nodes_of s) ≤ m + k → slice_get (nodes_of s) m ≡ Some w
    → Among (label_of n v) (labels (slice_index_or (instructions_from 0 (nodes_of s)) m no_instruction))
    → HoldsText entry (slice_index_or (instructions_from 0 (nodes_of s)) m no_instruction)
up_node s entry n v at_n text zero m w far found in_it = absurd (omega (arith, far, slice_get_within (nodes_of s) m w found))
up_node s entry n v at_n text (suc k) m w far found in_it =
    let ns = nodes_of s in
    let is = instructions_from 0 ns in
    let e = instruction_at s m w no_instruction found in
    let later = s.nodes_name_later_nodes m w found in
    let own = λ (same : label_of n v ≡ label_of m w). subst (IsTextNode entry) (same_node ns n m v w at_n found (ap (λ (l : Label). l.node) same)) text in
    subst (HoldsText entry) (sym e) (up_shape entry is (label_of n v) (label_of m w) w.shape own
    (λ j below h. let b = later j below in up_node s entry n v at_n text k (slice_index (numbers_of w.shape) j)
    (get_or ns (slice_index (numbers_of w.shape) j) w) (omega (arith, far, b.0))
    (node_at ns w (slice_index (numbers_of w.shape) j) b.1) h)
    (subst (λ i. Among (label_of n v) (labels i)) e in_it))
  where
    same_node : (ns : List Node) (n m : ℕ) (v w : Node) → slice_get ns n ≡ Some v → slice_get ns m ≡ Some w → n ≡ m → v ≡ w
    same_node ns n m v w at_n at_m same = some_is (sym at_n ∙ ap (slice_get ns) same ∙ at_m)
      where
        some_is : {a b : Node} → Some a ≡ Some b → a ≡ b
        some_is h = cc

-- a template that has the label of a text node holds it
up_templates : (s : Templates) (entry n : ℕ) (v : Node) → slice_get (nodes_of s) n ≡ Some v → IsTextNode entry v → (ts : List Template)
    → NameNodes (length (nodes_of s)) ts
    → Among (label_of n v) (template_labels (map (template_data (instructions_from 0 (nodes_of s))) ts))
    → Any (λ u. BodyHoldsText entry u.body) (map (template_data (instructions_from 0 (nodes_of s))) ts)
up_templates s entry n v at_n text [] named in_it = absurd in_it
up_templates s entry n v at_n text (t ∷ ts) named in_it =
    let ns = nodes_of s in
    let is = instructions_from 0 ns in
    let below = named 0 t refl in
    elim (among_both (label_of n v) (body_labels (body_of 0 is t.body.items)) (template_labels (map (template_data is) ts)) in_it) [
      | inl here ↦ (
        0,
        template_data is t,
        omega arith,
        refl,
        up_body entry is (label_of n v) t.body.items
            (λ j inside h. up_node s entry n v at_n text (length ns) (slice_index t.body.items j)
            (get_or ns (slice_index t.body.items j) v) (omega arith) (node_at ns v (slice_index t.body.items j) (below j inside)) h)
            here,
      )
      | inr there ↦ behind (λ u. BodyHoldsText entry u.body) (template_data is t) (map (template_data is) ts)
          (up_templates s entry n v at_n text ts (λ i u found. named (suc i) u found) there)
    ]

-- the set holds texts under an entry exactly where a node does
pub holds_as_nodes : (s : Templates) (entry : ℕ) → Any (IsTextNode entry) (nodes_of s) → SetHoldsText (tree_of s) entry
holds_as_nodes s entry (n, v, inside, is, text) =
    let found = slice_get_read (nodes_of s) (length (nodes_of s)) n v refl inside (sym is) in
    up_templates s entry n v found text (templates_of s) s.templates_name_nodes
    (subst (Among (label_of n v)) (sym s.nodes_in_preorder)
    (subst (λ m. Among (label_of m v) (labels_from 0 (nodes_of s))) (let e : 0 + n ≡ n = omega arith in e)
    (has_label 0 (nodes_of s) n v found)))

pub nodes_as_holds : (s : Templates) (entry : ℕ) → SetHoldsText (tree_of s) entry → Any (IsTextNode entry) (nodes_of s)
nodes_as_holds s entry (k, u, inside, is, holds) =
    let ns = nodes_of s in
    let found = slice_get_read (tree_of s).templates (length (tree_of s).templates) k u refl inside (sym is) in
    let t = template_behind s k u found in
    let below = s.templates_name_nodes k t.0 t.1 in
    in_body entry (instructions_from 0 ns) (Any (IsTextNode entry) ns) t.0.body.items
    (λ j within h. let m = slice_index t.0.body.items j in some_node ns m (below j within) (λ v at_m. in_node s entry (length ns) m v (omega arith) at_m h))
    (subst (λ (w : TemplateData). BodyHoldsText entry w.body) t.2 holds)
  where
    some_node : {X : Type 0} (ns : List Node) (m : ℕ) → m < length ns → ((v : Node) → slice_get ns m ≡ Some v → X) → X
    some_node [] m inside go = absurd (omega (arith, inside))
    some_node (v ∷ vs) m inside go = go (get_or (v ∷ vs) m v) (node_at (v ∷ vs) v m inside)
