-- String and byte vector fields, by the dictionary entries that they read and write.
use Rattle.std.specs.Prelude.{◌≡◌, ◌⊎◌, ℕ, Some, Any}
use Rattle.fast_value.specs.meaning.Kinds.{family, texts}
use Rattle.fast_tree.specs.declared.instructions.Shape.{Shape}
use Rattle.fast_tree.specs.declared.instructions.Shape.TheVariants.{Field, Decimal, Group, Sequence}
use Rattle.fast_tree.specs.declared.instructions.Node.{Node}
use Rattle.fast_tree.specs.meaning.Tree.{FieldData, Instruction, field, parts, group, sequence, Body, end, step, Tree}
use Rattle.fast_tree.specs.meaning.Nodes.{field_data}

-- the field is an ASCII, Unicode or byte vector field on this entry
abbrev pub IsTextUnder : ℕ → FieldData → Type 0
IsTextUnder entry f = (family f.kind ≡ texts) × (f.entry ≡ Some entry)

-- such a field is among the instructions
abbrev mutual
  pub HoldsText : ℕ → Instruction → Type 0
  HoldsText entry (field at f) = IsTextUnder entry f
  HoldsText entry (parts at e m) = ⊥
  HoldsText entry (group at optional body) = BodyHoldsText entry body
  HoldsText entry (sequence at length body) = BodyHoldsText entry body

  pub BodyHoldsText : ℕ → Body → Type 0
  BodyHoldsText entry end = ⊥
  BodyHoldsText entry (step i is) = HoldsText entry i ⊎ BodyHoldsText entry is

-- a template of the set has such a field, at any depth
abbrev pub SetHoldsText : Tree → ℕ → Type 0
SetHoldsText t entry = Any (λ u. BodyHoldsText entry u.body) t.templates

-- the node is such a field
abbrev pub IsTextShape : ℕ → Shape → Type 0
IsTextShape entry (Field f) = IsTextUnder entry (field_data f)
IsTextShape entry (Decimal e m) = ⊥
IsTextShape entry (Group optional body) = ⊥
IsTextShape entry (Sequence length body) = ⊥

abbrev pub IsTextNode : ℕ → Node → Type 0
IsTextNode entry v = IsTextShape entry v.shape
