-- The next instruction of a segment, by its node.
use Rattle.std.proofs.Common.{refl, sym, ap, ◌∙◌, subst, arith}
use Rattle.std.specs.Prelude.{◌≡◌, ℕ, ◌<◌, Bool, List, [], ◌∷◌, length, drop, slice_get, Some}
use Rattle.std.proofs.lemmas.Option.{slice_get_within}
use Rattle.fast_tree.specs.declared.instructions.FieldInstruction.{FieldInstruction}
use Rattle.fast_tree.specs.declared.instructions.Node.{Node}
use Rattle.fast_tree.specs.declared.instructions.Shape.{Shape}
use Rattle.fast_tree.specs.declared.instructions.Shape.TheVariants.{Field, Decimal, Group, Sequence}
use Rattle.fast_template.specs.declared.sets.Templates.{Templates}
use Rattle.fast_tree.specs.meaning.Numbers.{NameLaterNodes}
use Rattle.fast_tree.specs.meaning.Tree.{step}
use Rattle.fast_tree.specs.meaning.Nodes.{field_data, label_of, body_among}
use Rattle.fast_cursor.specs.device.Cursors.{CursorData}
use Rattle.fast_cursor.specs.device.Segments.{first_node}
use Rattle.fast_tree.specs.device.Bodies.{instruction_among}
use Rattle.fast_machine.specs.device.Positions.{set_of, IsAtField, IsAtParts, IsAtGroup, IsAtSequence}
use Rattle.fast_tree.proofs.BodyNodes.{body_step}

-- the nodes of which one is the first
pub record Head (nodes : List Node) (ns : List ℕ) (n : ℕ) (v : Node) : Type 0 where
  pub some : 0 < length ns
  pub body : body_among nodes ns ≡ step (instruction_among nodes (label_of n v) v.shape) (body_among nodes (drop 1 ns))

pub head : (nodes : List Node) (ns : List ℕ) (n : ℕ) (v : Node) → NameLaterNodes nodes → first_node ns ≡ Some n → slice_get nodes n ≡ Some v → Head nodes ns n v
head nodes [] n v later first found = absurd (cc first)
head nodes (m ∷ ns) n v later first found =
    let same : m ≡ n = cc first in
    record {
      some = omega arith;
      body = ap (λ k. body_among nodes (k ∷ ns)) same ∙ body_step nodes n ns v later found;
    }

by_shape : (nodes : List Node) (ns : List ℕ) (n : ℕ) (v : Node) (s : Shape) → Head nodes ns n v → v.shape ≡ s
    → body_among nodes ns ≡ step (instruction_among nodes (label_of n v) s) (body_among nodes (drop 1 ns))
by_shape nodes ns n v s h e = h.body ∙ ap (λ x. step (instruction_among nodes (label_of n v) x) (body_among nodes (drop 1 ns))) e

module _ (t : Templates) (c : CursorData) (n : ℕ) (v : Node) (first : first_node c.left ≡ Some n) (found : slice_get t.nodes.items n ≡ Some v) where
  here : Head t.nodes.items c.left n v
  here = head t.nodes.items c.left n v t.nodes_name_later_nodes first found

  -- The node is one of the set.
  pub node_within : n < length t.nodes.items
  node_within = slice_get_within t.nodes.items n v found

  pub field_head : (f : FieldInstruction) → v.shape ≡ Field f → IsAtField (set_of t) c n (field_data f)
  field_head f e = (label_of n v, refl, here.some, by_shape t.nodes.items c.left n v (Field f) here e)

  pub parts_head : (x m : FieldInstruction) → v.shape ≡ Decimal x m → IsAtParts (set_of t) c n (field_data x) (field_data m)
  parts_head x m e = (label_of n v, refl, here.some, by_shape t.nodes.items c.left n v (Decimal x m) here e)

  pub group_head : (optional : Bool) (body : _) (ns : List ℕ) → v.shape ≡ Group optional body → ns ≡ body.items → IsAtGroup (set_of t) c n optional ns
  group_head optional body ns e same = subst (λ (xs : List ℕ). IsAtGroup (set_of t) c n optional xs) (sym same)
      (label_of n v, refl, here.some, by_shape t.nodes.items c.left n v (Group optional body) here e)

  pub sequence_head : (f : FieldInstruction) (body : _) (ns : List ℕ) → v.shape ≡ Sequence f body → ns ≡ body.items
      → IsAtSequence (set_of t) c n (field_data f) ns
  sequence_head f body ns e same = subst (λ (xs : List ℕ). IsAtSequence (set_of t) c n (field_data f) xs) (sym same)
      (label_of n v, refl, here.some, by_shape t.nodes.items c.left n v (Sequence f body) here e)
