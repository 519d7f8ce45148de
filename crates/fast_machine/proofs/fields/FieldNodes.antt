-- The next instruction of a machine, by its node.
use Rattle.std.proofs.Common.{refl, sym, ap, ◌∙◌, subst, arith}
use Rattle.std.specs.Prelude.{◌≡◌, ℕ, ◌<◌, Bool, List, [], ◌∷◌, drop, length, slice_get, Some}
use Rattle.std.specs.Prelude.{Vec}
use Rattle.std.specs.Global.{Global}
use Rattle.fast_value.specs.declared.settings.Limits.{Limits}
use Rattle.fast_tree.specs.declared.instructions.FieldInstruction.{FieldInstruction}
use Rattle.fast_tree.specs.declared.instructions.Node.{Node}
use Rattle.fast_tree.specs.declared.instructions.Shape.{Shape}
use Rattle.fast_tree.specs.declared.instructions.Shape.TheVariants as Of
use Rattle.fast_tree.specs.meaning.Nodes.{field_data, label_of, body_among}
use Rattle.fast_tree.specs.meaning.NodeData.{shape_data}
use Rattle.fast_dict.specs.meaning.Slots.{slots_dictionary, slots_terms}
use Rattle.fast_tree.specs.meaning.Numbers.{AreBelow, NameLaterNodes}
use Rattle.fast_tree.specs.meaning.Tree.{Label, Body, step}
use Rattle.fast_cursor.specs.device.Cursors.{CursorData}
use Rattle.fast_cursor.specs.device.Segments.{first_node}
use Rattle.fast_stream.specs.meaning.Messages.{State}
use Rattle.fast_machine.specs.device.Serving.{ServesShape}
use Rattle.fast_tree.specs.device.Bodies.{instruction_among}
use Rattle.fast_fields.specs.declared.carry.Carry.{Carry}
use Rattle.fast_machine.specs.device.Positions.{Set, body_in, state_in, IsSupplied, IsAtField, IsAtParts, IsAtSequence}
use Rattle.fast_machine.specs.device.Positions.{BeginsWithField, GoesOnWithMantissa}
use Rattle.fast_machine.specs.declared.machine.Machine.{Machine}
use Rattle.fast_tree.proofs.BodyNodes.{body_step}

-- The segment begins with the instruction of its first node.
begins : (nodes : List Node) (ns : List ℕ) (n : ℕ) (v : Node) → NameLaterNodes nodes → first_node ns ≡ Some n → slice_get nodes n ≡ Some v
    → (0 < length ns) × (body_among nodes ns ≡ step (instruction_among nodes (label_of n v) v.shape) (body_among nodes (drop 1 ns)))
begins nodes [] n v later first found = absurd (cc first)
begins nodes (k ∷ ns) n v later first found =
    let same : k ≡ n = cc first in
    (omega arith, ap (λ (i : ℕ). body_among nodes (i ∷ ns)) same ∙ body_step nodes n ns v later found)

-- Its first node is one of the set.
pub first_below : (limit : ℕ) (ns : List ℕ) (n : ℕ) → AreBelow limit ns → first_node ns ≡ Some n → n < limit
first_below limit [] n h e = absurd (cc e)
first_below limit (k ∷ ns) n h e = let same : k ≡ n = cc e in subst (λ (i : ℕ). i < limit) same (h 0 (omega arith))

module _ (set : Set) (c : CursorData) (n : ℕ) (v : Node) (later : NameLaterNodes set.nodes) (first : first_node c.left ≡ Some n)
    (found : slice_get set.nodes n ≡ Some v) where
  -- The next instruction by its node.
  pub next_is : body_in set c.left ≡ step (instruction_among set.nodes (label_of n v) v.shape) (body_in set (drop 1 c.left))
  next_is = (begins set.nodes c.left n v later first found).1

  next_as : (s : Shape) → v.shape ≡ s → body_in set c.left ≡ step (instruction_among set.nodes (label_of n v) s) (body_in set (drop 1 c.left))
  next_as s e = next_is ∙ ap (λ (x : Shape). step (instruction_among set.nodes (label_of n v) x) (body_in set (drop 1 c.left))) e

  pub at_field_node : (f : FieldInstruction) → v.shape ≡ Of.Field f → IsAtField set c n (field_data f)
  at_field_node f e = (label_of n v, refl, (begins set.nodes c.left n v later first found).0, next_as (Of.Field f) e)

  pub at_parts_node : (x m : FieldInstruction) → v.shape ≡ Of.Decimal x m → IsAtParts set c n (field_data x) (field_data m)
  at_parts_node x m e = (label_of n v, refl, (begins set.nodes c.left n v later first found).0, next_as (Of.Decimal x m) e)

  pub at_sequence_node : (x : FieldInstruction) (body : Vec ℕ Global) (ns : List ℕ) → v.shape ≡ Of.Sequence x body → ns ≡ body.items
      → IsAtSequence set c n (field_data x) ns
  at_sequence_node x body ns e same = subst (λ (is : List ℕ). IsAtSequence set c n (field_data x) is) (sym same)
      (label_of n v, refl, (begins set.nodes c.left n v later first found).0, next_as (Of.Sequence x body) e)

  -- A group does not begin with a field.
  pub no_group : (l : Limits) (st : State) (carry : Carry) (optional : Bool) (body : Vec ℕ Global) → v.shape ≡ Of.Group optional body
      → BeginsWithField l (body_in set c.left) st carry → ⊥
  no_group l st carry optional body e h = subst (λ (b : Body). BeginsWithField l b st carry) (next_as (Of.Group optional body) e) h

-- The next instruction is a decimal by parts.
abbrev pub IsDecimal : Shape → Type 0
IsDecimal (Of.Decimal e m) = Unit {0}
IsDecimal s = ⊥

mantissa_decimal : (l : Limits) (nodes : List Node) (at : Label) (s : Shape) (is : Body) (st : State) (carry : Carry)
    → GoesOnWithMantissa l (step (instruction_among nodes at s) is) st carry → IsDecimal s
mantissa_decimal l nodes at (Of.Field f) is st carry h = absurd h
mantissa_decimal l nodes at (Of.Decimal e m) is st carry h = tt
mantissa_decimal l nodes at (Of.Group optional body) is st carry h = absurd h
mantissa_decimal l nodes at (Of.Sequence length body) is st carry h = absurd h

-- A mantissa is one of a decimal by parts.
pub mantissa_parts : (set : Set) (l : Limits) (m : Machine) (n : ℕ) (v : Node) → NameLaterNodes set.nodes → first_node m.cursor.left ≡ Some n
    → slice_get set.nodes n ≡ Some v
    → GoesOnWithMantissa l (body_in set m.cursor.left) (state_in (slots_dictionary m.slots) m.counted m.cursor) m.carry → IsDecimal v.shape
mantissa_parts set l m n v later first found h =
    let here : State = state_in (slots_dictionary m.slots) m.counted m.cursor in
    mantissa_decimal l set.nodes (label_of n v) v.shape (body_in set (drop 1 m.cursor.left)) here m.carry
    (subst (λ (b : Body). GoesOnWithMantissa l b here m.carry) (next_is set m.cursor n v later first found) h)

-- What is no decimal by parts.
pub not_decimal : (s : Shape) → IsDecimal s → ((e m : FieldInstruction) → s ≡ Of.Decimal e m → ⊥) → ⊥
not_decimal (Of.Field f) h never = absurd h
not_decimal (Of.Decimal e m) h never = never e m refl
not_decimal (Of.Group optional body) h never = absurd h
not_decimal (Of.Sequence length body) h never = absurd h

-- The dictionary serves what stands at a node.
pub served_node : (set : Set) (l : Limits) (m : Machine) (n : ℕ) (v : Node) (s : Shape) → IsSupplied set l m
    → slice_get set.nodes n ≡ Some v → v.shape ≡ s → ServesShape set.entries (slots_terms m.slots) (shape_data s)
served_node set l m n v s h found e = subst (λ (x : Shape). ServesShape set.entries (slots_terms m.slots) (shape_data x)) e (h.serves n v found)
