-- When a message is refused.
use Rattle.std.specs.Prelude.{◌≡◌, ◌⊎◌, ℕ, Bool, true, if◌then◌else◌, List, ◌∷◌, ◌++◌, slice_get, Option, Some, None}
use Rattle.fast_wire.specs.meaning.Maps.{bits, IsMap}
use Rattle.fast_value.specs.declared.kinds.Kind.{Kind}
use Rattle.fast_value.specs.declared.kinds.Kind.TheVariants.{Ascii}
use Rattle.fast_value.specs.meaning.Kinds.{ScalarData, U, I, Dec, text_of}
use Rattle.fast_value.specs.declared.settings.Limits.{Limits}
use Rattle.fast_value.specs.meaning.Messages.{ItemData, one, group as group_item, sequence as sequence_item, Slots, Elements, no_elements}
use Rattle.fast_value.specs.meaning.Messages.{element, count, MessageData}
use Rattle.fast_tree.specs.meaning.Tree.{FieldData, identifier, Instruction, field, parts, group, sequence, Body, end, step, has_map, TemplateData, Tree}
use Rattle.fast_dict.specs.meaning.Dictionary.{Dictionary, previous_at, reset}
use Rattle.fast_dict.specs.meaning.Operators.{Sent, value, text_delta}
use Rattle.fast_dict.specs.meaning.Rule.{Rule}
use Rattle.fast_stream.specs.meaning.Messages.{with_slot}
use Rattle.fast_spelling.specs.declared.faults.EncodeFault.{EncodeFault}
use Rattle.fast_spelling.specs.declared.faults.EncodeFault.TheVariants.{E1, E2, E3, E4, R9, Memory}
use Rattle.fast_spelling.specs.meaning.Encoding.{Encoder, SameBits, Encodes, EncodesField, EncodesSegment, EncodesBody}
use Rattle.fast_spelling.specs.meaning.Suiting.{IsKnown, SuitsTemplate, FitsLimits}

-- An ASCII text that would stand in an entity begins with U+0000.
-- FAST 1.1: Error Codes, R9.
abbrev pub HasZeroInFront : Kind → Sent → Type 0
HasZeroInFront Ascii (value v) = (rest : List ℕ) × (text_of v ≡ 0 ∷ rest)
HasZeroInFront Ascii (text_delta k part) = (rest : List ℕ) × (part ≡ 0 ∷ rest)
HasZeroInFront kind item = ⊥

-- The field has no item by the rule; or the item is an ASCII text that has no spelling.
abbrev pub RefusesField : FieldData → Dictionary → Option ScalarData → EncodeFault → Type 0
RefusesField f d v E3 = (bit : Bool) (item : Sent) → ¬ (Rule f (previous_at f.entry d) v bit item)
RefusesField f d v R9 = (bit : Bool) × (item : Sent) × Rule f (previous_at f.entry d) v bit item × HasZeroInFront f.kind item
RefusesField f d v other = ⊥

-- No map holds these bits: there is a set one behind the last that a map can have.
abbrev pub HaveNoMap : List Bool → Type 0
HaveNoMap b = (m : List ℕ) → IsMap true m → ¬ (SameBits (bits m) b)

-- a slot whose field is refused
abbrev pub RefusesScalar : FieldData → Dictionary → Option ItemData → EncodeFault → Type 0
RefusesScalar f d None c = RefusesField f d None c
RefusesScalar f d (Some (one v)) c = RefusesField f d (Some v) c
RefusesScalar f d (Some other) c = ⊥

-- the exponent is refused, or the mantissa behind it
abbrev pub RefusesDecimal : Limits → FieldData → FieldData → Dictionary → Option ItemData → EncodeFault → Type 0
RefusesDecimal l e m d None c = RefusesField e d None c
RefusesDecimal l e m d (Some (one (Dec x y))) c = RefusesField e d (Some (I x)) c
    ⊎ ((b : List Bool) × (u : List ℕ) × (mid : Dictionary) × EncodesField l e d (Some (I x)) b u mid × RefusesField m mid (Some (I y)) c)
RefusesDecimal l e m d (Some other) c = ⊥

-- what is refused of slots
abbrev pub Refuser : Type 1
Refuser = Dictionary → Slots → EncodeFault → Type 0

-- An instruction of a segment is refused, or all are encoded and their bits have no map: more bits are set than any checked set
-- asks for.
abbrev pub RefusesSegment : Body → Encoder Slots → Refuser → Refuser
RefusesSegment body inside refuses d vs c = refuses d vs c
    ⊎ ((b : List Bool) × (v : List ℕ) × (mid : Dictionary) × inside d vs b v mid × (has_map body ≡ true) × HaveNoMap b × (c ≡ E3))

-- some element is refused, and those before it are encoded
abbrev pub RefusesElements : (Dictionary → Slots → List ℕ → Dictionary → Type 0) → Refuser → Dictionary → Elements → EncodeFault → Type 0
RefusesElements encodes refuses d no_elements c = ⊥
RefusesElements encodes refuses d (element vs rest) c = refuses d vs c
    ⊎ ((u : List ℕ) × (mid : Dictionary) × encodes d vs u mid × RefusesElements encodes refuses mid rest c)

-- the group's segment is refused
abbrev pub RefusesGroup : Refuser → Dictionary → Option ItemData → EncodeFault → Type 0
RefusesGroup refuses d (Some (group_item vs)) c = refuses d vs c
RefusesGroup refuses d other c = ⊥

-- the length is refused, or an element behind it
abbrev pub RefusesSequence : Limits → FieldData → (Dictionary → Slots → List ℕ → Dictionary → Type 0) → Refuser → Dictionary
    → Option ItemData → EncodeFault → Type 0
RefusesSequence l f encodes refuses d None c = RefusesField f d None c
RefusesSequence l f encodes refuses d (Some (sequence_item rows)) c = RefusesField f d (Some (U (count rows))) c
    ⊎ ((b : List Bool) × (u : List ℕ) × (mid : Dictionary) × EncodesField l f d (Some (U (count rows))) b u mid × RefusesElements encodes refuses mid rows c)
RefusesSequence l f encodes refuses d (Some other) c = ⊥

-- Some instruction is refused, and all before it are encoded.
unfoldable mutual
  pub Refuses : Limits → Instruction → Dictionary → Option ItemData → EncodeFault → Type 0
  Refuses l (field at f) d x c = RefusesScalar f d x c
  Refuses l (parts at e m) d x c = RefusesDecimal l e m d x c
  Refuses l (group at optional body) d x c = RefusesGroup (RefusesSegment body (EncodesBody l body) (RefusesBody l body)) d x c
  Refuses l (sequence at length body) d x c = RefusesSequence l length (EncodesSegment body (EncodesBody l body))
      (RefusesSegment body (EncodesBody l body) (RefusesBody l body)) d x c

  pub RefusesBody : Limits → Body → Dictionary → Slots → EncodeFault → Type 0
  RefusesBody l end d vs c = ⊥
  RefusesBody l (step i is) d vs c = (x : Option ItemData) × (rest : Slots) × (vs ≡ with_slot x rest)
      × (Refuses l i d x c ⊎ ((b : List Bool) × (u : List ℕ) × (mid : Dictionary) × Encodes l i d x b u mid × RefusesBody l is mid rest c))

-- A message that suits its template and the limits is refused at an instruction, or its own segment's bits have no map.
abbrev pub RefusesMessage : Tree → Limits → Dictionary → MessageData → EncodeFault → Type 0
RefusesMessage t l d m c = (u : TemplateData) × (id : ℕ) × (b1 : List Bool) × (x : List ℕ) × (mid : Dictionary)
    × (slice_get t.templates m.template ≡ Some u) × (u.id ≡ Some id) × EncodesField l identifier d (Some (U id)) b1 x mid
    × (RefusesBody l u.body (if u.reset then reset mid else mid) m.slots c
    ⊎ ((b2 : List Bool) × (v : List ℕ) × (d' : Dictionary) × EncodesBody l u.body (if u.reset then reset mid else mid) m.slots b2 v d'
    × HaveNoMap (b1 ++ b2) × (c ≡ E3)))

-- The message is refused with this fault, and with none that is told before it. Of memory nothing is said here.
abbrev pub IsRefused : Tree → Limits → Dictionary → MessageData → EncodeFault → Type 0
IsRefused t l d m E1 = ¬ (IsKnown t m)
IsRefused t l d m E2 = IsKnown t m × ¬ (SuitsTemplate t m)
IsRefused t l d m E4 = IsKnown t m × SuitsTemplate t m × ¬ (FitsLimits l m.slots)
IsRefused t l d m E3 = IsKnown t m × SuitsTemplate t m × FitsLimits l m.slots × RefusesMessage t l d m E3
IsRefused t l d m R9 = IsKnown t m × SuitsTemplate t m × FitsLimits l m.slots × RefusesMessage t l d m R9
IsRefused t l d m Memory = ⊥
