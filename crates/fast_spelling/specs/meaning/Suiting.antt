-- Which messages suit their template, and which keep to the limits.
use Rattle.std.specs.Prelude.{◌≡◌, ℕ, ◌≤◌, ◌<◌, ◌^◌, Bool, true, length, slice_get, Option, Some, None}
use Rattle.fast_value.specs.declared.kinds.Kind.{Kind}
use Rattle.fast_value.specs.meaning.Kinds.{ScalarData, Dec, IsOfKind, text_of, exponent_range, signed_range, IsWithin}
use Rattle.fast_value.specs.declared.settings.Limits.{Limits}
use Rattle.fast_value.specs.meaning.Messages.{ItemData, one, group as group_item, sequence as sequence_item, Slots, no_slots, absent}
use Rattle.fast_value.specs.meaning.Messages.{present, Elements, no_elements, element, count, total, MessageData}
use Rattle.fast_tree.specs.meaning.Tree.{FieldData, Instruction, field, parts, group, sequence, Body, end, step, TemplateData, Tree}

-- A template has the number, and it has this identifier.
abbrev pub IsKnownAs : Tree → MessageData → ℕ → Type 0
IsKnownAs t m id = (u : TemplateData) × (slice_get t.templates m.template ≡ Some u) × (u.id ≡ Some id)

-- A template has the number, and it has an identifier.
abbrev pub IsKnown : Tree → MessageData → Type 0
IsKnown t m = (u : TemplateData) × (id : ℕ) × (slice_get t.templates m.template ≡ Some u) × (u.id ≡ Some id)

-- A limit on texts that no text passes, for what is right whatever the limits are.
abbrev pub IsRight : Kind → ScalarData → Type 0
IsRight kind v = (room : ℕ) × IsOfKind (record { strict = true; max_text = room; max_elements = 0; max_total = 0 }) kind v

-- each element is right
abbrev pub AreRight : (Slots → Type 0) → Elements → Type 0
AreRight right no_elements = Unit {0}
AreRight right (element vs rest) = right vs × AreRight right rest

-- a value of the field's kind, or absent if optional
abbrev pub IsRightScalar : FieldData → Option ItemData → Type 0
IsRightScalar f None = f.optional ≡ true
IsRightScalar f (Some (one v)) = IsRight f.kind v
IsRightScalar f (Some other) = ⊥

-- a decimal in range, or absent if optional
abbrev pub IsRightDecimal : FieldData → Option ItemData → Type 0
IsRightDecimal e None = e.optional ≡ true
IsRightDecimal e (Some (one (Dec x y))) = IsWithin exponent_range x × IsWithin (signed_range 63) y
IsRightDecimal e (Some other) = ⊥

-- a group whose slots are right, or absent if optional
abbrev pub IsRightGroup : Bool → (Slots → Type 0) → Option ItemData → Type 0
IsRightGroup optional right None = optional ≡ true
IsRightGroup optional right (Some (group_item vs)) = right vs
IsRightGroup optional right (Some other) = ⊥

-- a sequence whose elements are right and can be counted, or absent if optional
abbrev pub IsRightSequence : FieldData → (Slots → Type 0) → Option ItemData → Type 0
IsRightSequence f right None = f.optional ≡ true
IsRightSequence f right (Some (sequence_item rows)) = AreRight right rows × (count rows < 2 ^ 32)
IsRightSequence f right (Some other) = ⊥

-- The item suits the instruction, and the slots suit a body: one for each instruction, of its kind and in its range, and
-- nothing mandatory absent.
abbrev mutual
  pub Suits : Instruction → Option ItemData → Type 0
  Suits (field at f) x = IsRightScalar f x
  Suits (parts at e m) x = IsRightDecimal e x
  Suits (group at optional body) x = IsRightGroup optional (SuitsBody body) x
  Suits (sequence at length body) x = IsRightSequence length (SuitsBody body) x

  pub SuitsBody : Body → Slots → Type 0
  SuitsBody end no_slots = Unit {0}
  SuitsBody end (absent vs) = ⊥
  SuitsBody end (present x vs) = ⊥
  SuitsBody (step i is) no_slots = ⊥
  SuitsBody (step i is) (absent vs) = Suits i None × SuitsBody is vs
  SuitsBody (step i is) (present x vs) = Suits i (Some x) × SuitsBody is vs

-- The message's slots suit its template.
abbrev pub SuitsTemplate : Tree → MessageData → Type 0
SuitsTemplate t m = (u : TemplateData) × (slice_get t.templates m.template ≡ Some u) × SuitsBody u.body m.slots

-- every text and every count is within the limit on each
abbrev mutual
  pub IsWithinLimits : Limits → ItemData → Type 0
  IsWithinLimits l (one v) = length (text_of v) ≤ l.max_text
  IsWithinLimits l (group_item vs) = AreWithinLimits l vs
  IsWithinLimits l (sequence_item rows) = (count rows ≤ l.max_elements) × RowsWithinLimits l rows

  pub AreWithinLimits : Limits → Slots → Type 0
  AreWithinLimits l no_slots = Unit {0}
  AreWithinLimits l (absent vs) = AreWithinLimits l vs
  AreWithinLimits l (present x vs) = IsWithinLimits l x × AreWithinLimits l vs

  pub RowsWithinLimits : Limits → Elements → Type 0
  RowsWithinLimits l no_elements = Unit {0}
  RowsWithinLimits l (element vs rows) = AreWithinLimits l vs × RowsWithinLimits l rows

-- Every text, every count and the sum of the counts are within the limits.
abbrev pub FitsLimits : Limits → Slots → Type 0
FitsLimits l vs = AreWithinLimits l vs × (total vs ≤ l.max_total)
