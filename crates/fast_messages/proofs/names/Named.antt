-- The node that a line names.
use Rattle.std.proofs.Common.{◌≡◌, ◌⊎◌, inl, inr, ℕ, zero, suc, ◌+◌, ◌<◌, ◌≤◌, List, [], ◌∷◌, length, get_or, slice_get, refl, ap, sym}
use Rattle.std.proofs.Common.{subst, ◌∙◌, arith, eq-eqb}
use Rattle.std.specs.Prelude.{◌↔◌, Bool, false, if◌then◌else◌, IsTrue, IsSome, Option, Some, None, option_map, string_bytes}
use Rattle.std.proofs.lemmas.Bool.{ne_eqb}
use Rattle.std.proofs.lemmas.Option.{slice_get_cases}
use Rattle.fast_tree.specs.declared.instructions.Node.{Node}
use Rattle.fast_tree.specs.declared.instructions.Shape.{Shape}
use Rattle.fast_tree.specs.declared.instructions.Shape.TheVariants.{Field, Decimal, Group, Sequence}
use Rattle.fast_tree.specs.device.Bodies.{instruction_among}
use Rattle.fast_tree.specs.meaning.Nodes.{label_of}
use Rattle.fast_tree.specs.meaning.Numbers.{numbers_of, AreBetween}
use Rattle.fast_tree.specs.meaning.Tree.{Label, Instruction, field, parts, group, sequence, Tree}
use Rattle.fast_notation.specs.meaning.Labels.{labels_from}
use Rattle.fast_template.specs.declared.sets.Templates.{Templates}
use Rattle.fast_template.specs.meaning.Flat.{nodes_of, tree_of}
use Rattle.fast_lines.specs.declared.forms.Line.{Line}
use Rattle.fast_lines.specs.meaning.Forms.{LineData, message, field as field_line, group as group_line, group_end}
use Rattle.fast_lines.specs.meaning.Forms.{sequence as sequence_line, element, element_end, sequence_end, message_end, line_data}
use Rattle.fast_lines.specs.meaning.Lines.{name_among, node_name}
use Rattle.fast_spelling.specs.device.Nodes.{instruction_in}
use Rattle.fast_spelling.proofs.encodings.Instructions.{at_shape}
use Rattle.fast_messages.specs.meaning.Distinct.{number}
use Rattle.fast_messages.specs.device.Naming.{IsValue, IsGroup, IsSequence, Names}

-- the first label is the one
here : (n : ℕ) (l : Label) (ls : List Label) → l.node ≡ n → name_among n (l ∷ ls) ≡ l.name
here n l ls h = ap (λ (b : Bool). if b then l.name else name_among n ls) (eq-eqb l.node n h)

-- the first label is another
past : (n : ℕ) (l : Label) (ls : List Label) → (l.node ≡ n → ⊥) → name_among n (l ∷ ls) ≡ name_among n ls
past n l ls h = ap (λ (b : Bool). if b then l.name else name_among n ls) (ne_eqb l.node n h)

name_found : (own k n : ℕ) (ns : List Node) (v : Node) → n ≡ own + k → slice_get ns k ≡ Some v → name_among n (labels_from own ns) ≡ string_bytes v.name
name_found own k n [] v at found = absurd (cc)
name_found own zero n (u ∷ ns) v at found = here n (label_of own u) (labels_from (suc own) ns) (omega arith)
    ∙ (let same : u ≡ v = cc in ap (λ (w : Node). string_bytes w.name) same)
name_found own (suc k) n (u ∷ ns) v at found = past n (label_of own u) (labels_from (suc own) ns) (λ h. omega arith)
    ∙ name_found (suc own) k n ns v (omega arith) found

-- the name of a node
pub node_named : (t : Templates) (n : ℕ) (v : Node) → slice_get (nodes_of t) n ≡ Some v → node_name (tree_of t) n ≡ string_bytes v.name
node_named t n v found = ap (name_among n) t.nodes_in_preorder ∙ name_found 0 n n (nodes_of t) v (omega arith) found

-- What the instruction of a node is, by its shape.
module _ (t : Templates) (n : ℕ) (v : Node) (found : slice_get (nodes_of t) n ≡ Some v)
    (between : AreBetween n (length (nodes_of t)) (numbers_of v.shape)) (K : Instruction → Type 0) (s : Shape) (is : v.shape ≡ s) where
  pub holds : K (instruction_among (nodes_of t) (label_of n v) s) → K (instruction_in (nodes_of t) n)
  holds h = subst K (sym (at_shape (nodes_of t) n v s found between is)) h

  pub fails_there : (Q : Type 0) → ¬ (K (instruction_among (nodes_of t) (label_of n v) s)) → IsTrue false ↔ (K (instruction_in (nodes_of t) n) × Q)
  fails_there Q never = (λ h. absurd (cc (h)), λ h. absurd (never (subst K (at_shape (nodes_of t) n v s found between is) h.0)))

  pub called_there : (b : Bool) (name bytes : List ℕ) → K (instruction_among (nodes_of t) (label_of n v) s) → (IsTrue b ↔ (name ≡ bytes))
      → bytes ≡ string_bytes v.name → IsTrue b ↔ (K (instruction_in (nodes_of t) n) × (name ≡ node_name (tree_of t) n))
  called_there b name bytes h same is_name = (
    λ k. (holds h, same.0 k ∙ is_name ∙ sym (node_named t n v found)),
    λ k. same.1 (k.1 ∙ node_named t n v found ∙ sym is_name),
  )

-- the number of a node's instruction
number_among : (t : Templates) (n : ℕ) (v : Node) (s : Shape) → number (instruction_among (nodes_of t) (label_of n v) s) ≡ n
number_among t n v (Field f) = refl
number_among t n v (Decimal e m) = refl
number_among t n v (Group optional body) = refl
number_among t n v (Sequence length body) = refl

pub numbered : (t : Templates) (n : ℕ) → n < length (nodes_of t) → number (instruction_in (nodes_of t) n) ≡ n
numbered t n below = by ((slice_get_cases (nodes_of t) n).1)
  where
    by : ((v : Node) × (n < length (nodes_of t)) × (slice_get (nodes_of t) n ≡ Some v) × (get_or (nodes_of t) n v ≡ v))
        ⊎ ((length (nodes_of t) ≤ n) × (slice_get (nodes_of t) n ≡ None)) → number (instruction_in (nodes_of t) n) ≡ n
    by (inl (v, inside, found, read)) = ap number (at_shape (nodes_of t) n v v.shape found (t.nodes_name_later_nodes n v found) refl)
        ∙ number_among t n v v.shape
    by (inr (beyond, none)) = absurd (omega (arith, below, beyond))

-- a line is ahead
pub names_some : (t : Tree) (n : ℕ) (i : Instruction) (line : Option Line) → Names t n i (option_map line_data line) → IsSome line
names_some t n i None h = absurd h
names_some t n i (Some l) h = refl

value_no_group : (i : Instruction) → IsValue i → IsGroup i → ⊥
value_no_group (field l f) h k = k
value_no_group (parts l e m) h k = k
value_no_group (group l optional body) h k = h
value_no_group (sequence l length body) h k = h

value_no_sequence : (i : Instruction) → IsValue i → IsSequence i → ⊥
value_no_sequence (field l f) h k = k
value_no_sequence (parts l e m) h k = k
value_no_sequence (group l optional body) h k = h
value_no_sequence (sequence l length body) h k = h

group_no_sequence : (i : Instruction) → IsGroup i → IsSequence i → ⊥
group_no_sequence (field l f) h k = k
group_no_sequence (parts l e m) h k = k
group_no_sequence (group l optional body) h k = k
group_no_sequence (sequence l length body) h k = h

-- the line that names a field
pub value_named : (t : Tree) (n : ℕ) (i : Instruction) (d : LineData) → IsValue i → Names t n i (Some d)
    → (text : List ℕ) × (d ≡ field_line n (node_name t n) text)
value_named t n i (field_line m name text) h (e, k, same) = (text, cc (e, same))
value_named t n i (group_line m name) h (e, k, same) = absurd (value_no_group i h k)
value_named t n i (sequence_line m name count) h (e, k, same) = absurd (value_no_sequence i h k)
value_named t n i (message name) h k = absurd k
value_named t n i group_end h k = absurd k
value_named t n i element h k = absurd k
value_named t n i element_end h k = absurd k
value_named t n i sequence_end h k = absurd k
value_named t n i message_end h k = absurd k

-- the line that names a group
group_named : (t : Tree) (n : ℕ) (i : Instruction) (d : LineData) → IsGroup i → Names t n i (Some d) → d ≡ group_line n (node_name t n)
group_named t n i (field_line m name text) h (e, k, same) = absurd (value_no_group i k h)
group_named t n i (group_line m name) h (e, k, same) = cc (e, same)
group_named t n i (sequence_line m name count) h (e, k, same) = absurd (group_no_sequence i h k)
group_named t n i (message name) h k = absurd k
group_named t n i group_end h k = absurd k
group_named t n i element h k = absurd k
group_named t n i element_end h k = absurd k
group_named t n i sequence_end h k = absurd k
group_named t n i message_end h k = absurd k

-- the line that names a sequence
sequence_named : (t : Tree) (n : ℕ) (i : Instruction) (d : LineData) → IsSequence i → Names t n i (Some d)
    → (count : ℕ) × (d ≡ sequence_line n (node_name t n) count)
sequence_named t n i (field_line m name text) h (e, k, same) = absurd (value_no_sequence i k h)
sequence_named t n i (group_line m name) h (e, k, same) = absurd (group_no_sequence i k h)
sequence_named t n i (sequence_line m name count) h (e, k, same) = (count, cc (e, same))
sequence_named t n i (message name) h k = absurd k
sequence_named t n i group_end h k = absurd k
sequence_named t n i element h k = absurd k
sequence_named t n i element_end h k = absurd k
sequence_named t n i sequence_end h k = absurd k
sequence_named t n i message_end h k = absurd k

-- The same of a line ahead.
module _ (t : Tree) (n : ℕ) (i : Instruction) (line : Option Line) (d : LineData) (was : option_map line_data line ≡ Some d)
    (named : Names t n i (option_map line_data line)) where
  named_as : Names t n i (Some d)
  named_as = subst (Names t n i) was named

  pub value_ahead : IsValue i → (text : List ℕ) × (d ≡ field_line n (node_name t n) text)
  value_ahead h = value_named t n i d h named_as

  pub group_ahead : IsGroup i → d ≡ group_line n (node_name t n)
  group_ahead h = group_named t n i d h named_as

  pub sequence_ahead : IsSequence i → (count : ℕ) × (d ≡ sequence_line n (node_name t n) count)
  sequence_ahead h = sequence_named t n i d h named_as
