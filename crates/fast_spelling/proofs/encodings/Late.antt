-- Whatever is refused at an instruction is E3 or R9.
use Rattle.std.proofs.Common.{◌≡◌, ◌⊎◌, inl, inr, refl, ℕ, List}
use Rattle.std.specs.Prelude.{if◌then◌else◌, Option, Some, None}
use Rattle.fast_value.specs.declared.settings.Limits.{Limits}
use Rattle.fast_value.specs.meaning.Kinds.{ScalarData, U, I, Dec, AsciiText, UnicodeText, ByteVector}
use Rattle.fast_value.specs.meaning.Messages.{ItemData, one, group as group_item, sequence as sequence_item, Slots, Elements, no_elements}
use Rattle.fast_value.specs.meaning.Messages.{element, count, MessageData}
use Rattle.fast_tree.specs.meaning.Tree.{Tree, FieldData, Instruction, field, parts, group, sequence, Body, end, step}
use Rattle.fast_dict.specs.meaning.Dictionary.{Dictionary, reset}
use Rattle.fast_spelling.specs.declared.faults.EncodeFault.{EncodeFault}
use Rattle.fast_spelling.specs.declared.faults.EncodeFault.TheVariants.{E1, E2, E3, E4, R9, Memory}
use Rattle.fast_spelling.specs.meaning.Encoding.{Encoder, EncodesBody, EncodesSegment}
use Rattle.fast_spelling.specs.meaning.Refusals.{Refuser, RefusesField, RefusesScalar, RefusesDecimal, RefusesSegment, RefusesElements}
use Rattle.fast_spelling.specs.meaning.Refusals.{RefusesGroup, RefusesSequence, Refuses, RefusesBody, RefusesMessage}

-- one of the two faults that are told at an instruction
abbrev pub IsLate : EncodeFault → Type 0
IsLate c = (c ≡ E3) ⊎ (c ≡ R9)

-- all that is refused so is late
abbrev AllLate : Refuser → Type 0
AllLate refuses = (d : Dictionary) (vs : Slots) (c : EncodeFault) → refuses d vs c → IsLate c

field_late : (f : FieldData) (d : Dictionary) (v : Option ScalarData) (c : EncodeFault) → RefusesField f d v c → IsLate c
field_late f d v E1 h = absurd h
field_late f d v E2 h = absurd h
field_late f d v E3 h = inl refl
field_late f d v E4 h = absurd h
field_late f d v R9 h = inr refl
field_late f d v Memory h = absurd h

scalar_late : (f : FieldData) (d : Dictionary) (x : Option ItemData) (c : EncodeFault) → RefusesScalar f d x c → IsLate c
scalar_late f d None c h = field_late f d None c h
scalar_late f d (Some (one v)) c h = field_late f d (Some v) c h
scalar_late f d (Some (group_item vs)) c h = absurd h
scalar_late f d (Some (sequence_item rows)) c h = absurd h

decimal_late : (l : Limits) (e m : FieldData) (d : Dictionary) (x : Option ItemData) (c : EncodeFault) → RefusesDecimal l e m d x c → IsLate c
decimal_late l e m d None c h = field_late e d None c h
decimal_late l e m d (Some (one (Dec x y))) c (inl h) = field_late e d (Some (I x)) c h
decimal_late l e m d (Some (one (Dec x y))) c (inr (b, u, mid, p, h)) = field_late m mid (Some (I y)) c h
decimal_late l e m d (Some (one (U n))) c h = absurd h
decimal_late l e m d (Some (one (I x))) c h = absurd h
decimal_late l e m d (Some (one (AsciiText t))) c h = absurd h
decimal_late l e m d (Some (one (UnicodeText t))) c h = absurd h
decimal_late l e m d (Some (one (ByteVector t))) c h = absurd h
decimal_late l e m d (Some (group_item vs)) c h = absurd h
decimal_late l e m d (Some (sequence_item rows)) c h = absurd h

segment_late : (body : Body) (inside : Encoder Slots) (refuses : Refuser) → AllLate refuses → AllLate (RefusesSegment body inside refuses)
segment_late body inside refuses late d vs c (inl h) = late d vs c h
segment_late body inside refuses late d vs c (inr (b, v, mid, p, q, none, is)) = inl is

elements_late : (encodes : Dictionary → Slots → List ℕ → Dictionary → Type 0) (refuses : Refuser) → AllLate refuses
    → (d : Dictionary) (rows : Elements) (c : EncodeFault) → RefusesElements encodes refuses d rows c → IsLate c
elements_late encodes refuses late d no_elements c h = absurd h
elements_late encodes refuses late d (element vs rest) c (inl h) = late d vs c h
elements_late encodes refuses late d (element vs rest) c (inr (u, mid, p, h)) = elements_late encodes refuses late mid rest c h

group_late : (refuses : Refuser) → AllLate refuses → (d : Dictionary) (x : Option ItemData) (c : EncodeFault) → RefusesGroup refuses d x c → IsLate c
group_late refuses late d (Some (group_item vs)) c h = late d vs c h
group_late refuses late d (Some (one v)) c h = absurd h
group_late refuses late d (Some (sequence_item rows)) c h = absurd h
group_late refuses late d None c h = absurd h

sequence_late : (l : Limits) (f : FieldData) (encodes : Dictionary → Slots → List ℕ → Dictionary → Type 0) (refuses : Refuser)
    → AllLate refuses → (d : Dictionary) (x : Option ItemData) (c : EncodeFault) → RefusesSequence l f encodes refuses d x c → IsLate c
sequence_late l f encodes refuses late d None c h = field_late f d None c h
sequence_late l f encodes refuses late d (Some (sequence_item rows)) c (inl h) = field_late f d (Some (U (count rows))) c h
sequence_late l f encodes refuses late d (Some (sequence_item rows)) c (inr (b, u, mid, p, h)) = elements_late encodes refuses late mid rows c h
sequence_late l f encodes refuses late d (Some (one v)) c h = absurd h
sequence_late l f encodes refuses late d (Some (group_item vs)) c h = absurd h

mutual
  unfolding Refuses

  instruction_late : (l : Limits) (i : Instruction) (d : Dictionary) (x : Option ItemData) (c : EncodeFault) → Refuses l i d x c → IsLate c
  instruction_late l (field at f) d x c h = scalar_late f d x c h
  instruction_late l (parts at e m) d x c h = decimal_late l e m d x c h
  instruction_late l (group at optional body) d x c h = group_late (RefusesSegment body (EncodesBody l body) (RefusesBody l body))
      (segment_late body (EncodesBody l body) (RefusesBody l body) (body_late l body)) d x c h
  instruction_late l (sequence at f body) d x c h =
      sequence_late l f (EncodesSegment body (EncodesBody l body)) (RefusesSegment body (EncodesBody l body) (RefusesBody l body))
      (segment_late body (EncodesBody l body) (RefusesBody l body) (body_late l body)) d x c h

  body_late : (l : Limits) (body : Body) → AllLate (RefusesBody l body)
  body_late l end d vs c h = absurd h
  body_late l (step i is) d vs c (x, rest, e, inl h) = instruction_late l i d x c h
  body_late l (step i is) d vs c (x, rest, e, inr (b, u, mid, p, h)) = body_late l is mid rest c h

pub message_late : (t : Tree) (l : Limits) (d : Dictionary) (m : MessageData) (c : EncodeFault) → RefusesMessage t l d m c → IsLate c
message_late t l d m c (u, id, b1, x, mid, at, own, p, inl h) = body_late l u.body (if u.reset then reset mid else mid) m.slots c h
message_late t l d m c (u, id, b1, x, mid, at, own, p, inr (b2, v, d', q, none, is)) = inl is
